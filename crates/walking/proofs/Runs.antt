-- Lists laid one after the other: where each lies.
use Rattle.std.proofs.Common.{◌≡◌, ℕ, zero, suc, ◌+◌, ◌*◌, ◌<◌, ◌≤◌, List, [], ◌∷◌, ◌++◌, map, length, get_or, take, drop, sum_by, sym, refl, ap, ◌∙◌, suc-mul, arith}
use Rattle.std.proofs.lemmas.List.{append_assoc, take-append-drop, take_at, drop_at, drop-drop, length-append, length-map, get_or-map}
use Rattle.std.proofs.lemmas.List.Sums.{sum_by-cons, sum_by_more, sum_by-take-le}
use Rattle.register.specs.Memory.{joined_lists}

module _ {X : Type 0} where
  length-joined : (xss : List (List X)) → length (joined_lists xss) ≡ sum_by length xss
  length-joined [] = refl
  length-joined (xs ∷ xss) = length-append xs (joined_lists xss) ∙ ap (λ n. length xs + n) (length-joined xss) ∙ sym (sum_by-cons length xs xss)

  part : (xss : List (List X)) (rest : List X) (v : ℕ) → v < length xss
      → take (length (get_or xss v [])) (drop (sum_by length (take v xss)) (joined_lists xss ++ rest)) ≡ get_or xss v []
  part [] rest v h = absurd (omega arith)
  part (xs ∷ xss) rest zero h = ap (take (length xs)) (append_assoc xs (joined_lists xss) rest) ∙ take_at xs (joined_lists xss ++ rest) (length xs) refl
  part (xs ∷ xss) rest (suc v) h =
      let skip : drop (sum_by length (xs ∷ take v xss)) ((xs ++ joined_lists xss) ++ rest) ≡ drop (sum_by length (take v xss)) (joined_lists xss ++ rest) =
      ap (λ n. drop n ((xs ++ joined_lists xss) ++ rest)) (sum_by-cons length xs (take v xss))
      ∙ sym (drop-drop (sum_by length (take v xss)) (length xs) ((xs ++ joined_lists xss) ++ rest))
      ∙ ap (λ l. drop (sum_by length (take v xss)) (drop (length xs) l)) (append_assoc xs (joined_lists xss) rest)
      ∙ ap (drop (sum_by length (take v xss))) (drop_at xs (joined_lists xss ++ rest) (length xs) refl) in
      ap (take (length (get_or xss v []))) skip ∙ part xss rest v (omega arith)

  -- a list's run ends before the end of all
  pub run_ends : (xss : List (List X)) (v : ℕ) → v < length xss → sum_by length (take v xss) + length (get_or xss v []) ≤ sum_by length xss
  run_ends xss v h = omega (arith, sum_by_more length xss v [] h, sum_by-take-le length xss (v + 1))

-- of lists gs, each laid down as h of it, which is longer by `more`
module _ {X Y : Type 0} (h : List X → List Y) (more : ℕ) (sized : (xs : List X) → length (h xs) ≡ length xs + more) where
  starts : (v : ℕ) (gs : List (List X)) → v ≤ length gs → sum_by length (take v (map h gs)) ≡ sum_by length (take v gs) + v * more
  starts zero gs l = omega arith
  starts (suc v) [] l = absurd (omega arith)
  starts (suc v) (g ∷ gs) l =
      omega (arith, sum_by-cons length (h g) (take v (map h gs)), sum_by-cons length g (take v gs), sized g, suc-mul v more, starts v gs (omega arith))

  module _ (gs : List (List X)) (memory : List Y) (front : take (sum_by length gs + length gs * more) memory ≡ joined_lists (map h gs)) (v : ℕ) (l : v < length gs) where
    held : memory ≡ joined_lists (map h gs) ++ drop (sum_by length gs + length gs * more) memory
    held = sym (take-append-drop (sum_by length gs + length gs * more) memory) ∙ ap (λ xs. xs ++ drop (sum_by length gs + length gs * more) memory) front

    at_place : get_or (map h gs) v [] ≡ h (get_or gs v [])
    at_place = get_or-map h gs v [] [] l

    pub laid-ends : sum_by length (take v gs) + v * more + length (h (get_or gs v [])) ≤ length memory
    laid-ends =
        let m : length (map h gs) ≡ length gs = length-map gs h in
        let e = run_ends (map h gs) v (omega arith) in
        let n : length memory ≡ length (joined_lists (map h gs)) + length (drop (sum_by length gs + length gs * more) memory) = ap length held ∙ length-append _ _ in
        omega (arith, length-joined (map h gs), starts v gs (omega arith), ap length at_place)

    pub laid-part : take (length (h (get_or gs v []))) (drop (sum_by length (take v gs) + v * more) memory) ≡ h (get_or gs v [])
    laid-part =
        let m : length (map h gs) ≡ length gs = length-map gs h in
        ap (λ n. take (length (h (get_or gs v []))) (drop n memory)) (sym (starts v gs (omega arith)))
        ∙ ap (λ xs. take (length (h (get_or gs v []))) (drop (sum_by length (take v (map h gs))) xs)) held
        ∙ ap (λ g. take (length g) (drop (sum_by length (take v (map h gs))) (joined_lists (map h gs) ++ drop (sum_by length gs + length gs * more) memory))) (sym at_place)
        ∙ part (map h gs) (drop (sum_by length gs + length gs * more) memory) v (omega arith)
        ∙ at_place
