-- Runs laid down from the last to the first.
use Rattle.std.proofs.Common.{◌≡◌, ℕ, zero, suc, ◌+◌, ◌-◌, ◌<◌, ◌≤◌, List, [], ◌∷◌, ◌++◌, map, length, get_or, take, drop, sum_by, sym, refl, ap, ◌∙◌, arith, length-drop}
use lib.Seq.{paste}
use borrow.Rule.Slice.PartMut.{post_of}
use Rattle.std.proofs.lemmas.List.Edits.{paste_all}
use Rattle.std.proofs.lemmas.List.{append-nil, append_assoc, take-append-drop, drop_all, take_at, drop_at, drop-drop, drop_more, get_or-drop, drop-take, take-take, take-append-le, length-take-le}
use Rattle.std.proofs.lemmas.List.Sums.{sum_by-cons, sum_by-take-drop}
use Rattle.register.specs.Memory.{joined_lists}

-- a list written in front of what has been written so far
paste-before : {X : Type 0} (memory xs rest : List X) (at n : ℕ) → at + n ≤ length memory → n ≡ length xs
    → paste (take (at + n) memory ++ rest) at xs n ≡ take at memory ++ (xs ++ rest)
paste-before memory xs rest at n room m =
    let l = length-take-le (at + n) memory room in
    paste_all (take (at + n) memory ++ rest) at xs n m
    ∙ ap (λ zs. zs ++ (xs ++ drop (at + n) (take (at + n) memory ++ rest))) (take-append-le at (take (at + n) memory) rest (omega arith) ∙ take-take at (at + n) memory (omega arith))
    ∙ ap (λ zs. take at memory ++ (xs ++ zs)) (drop_at (take (at + n) memory) rest (at + n) l)

-- a list written at the end of the first of two parts
pub paste-front : {X : Type 0} (front back xs : List X) (at n : ℕ) → at + n ≡ length front → n ≡ length xs
    → take at front ++ (xs ++ post_of at (length front - at) front) ++ back ≡ paste (front ++ back) at xs n
paste-front front back xs at n e m =
    ap (λ zs. take at front ++ (xs ++ zs) ++ back) (drop-drop (length front - at) at front ∙ drop_all (at + (length front - at)) front (omega arith))
    ∙ ap (λ zs. take at front ++ zs ++ back) (append-nil xs)
    ∙ append_assoc (take at front) xs back
    ∙ ap (λ zs. zs ++ (xs ++ back)) (sym (take-append-le at front back (omega arith)))
    ∙ ap (λ zs. take at (front ++ back) ++ (xs ++ zs)) (sym (drop_at front back (at + n) (sym e)))
    ∙ sym (paste_all (front ++ back) at xs n m)

-- the lists from v on are list v and those behind it
joined-from : {X Y : Type 0} (f : List Y → List X) (gs : List (List Y)) (v : ℕ) → v < length gs
    → joined_lists (map f (drop v gs)) ≡ f (get_or gs v []) ++ joined_lists (map f (drop (v + 1) gs))
joined-from f gs v h = ap (λ hs. joined_lists (map f hs)) (drop_more gs v [] h)

-- list w among lists that lie one after the other
run_in : {X Y : Type 0} (f : List Y → List X) → ((g : List Y) → length (f g) ≡ length g) → (gs : List (List Y)) (w : ℕ) (rest : List X) → w < length gs
    → take (length (get_or gs w [])) (drop (sum_by length (take w gs)) (joined_lists (map f gs) ++ rest)) ≡ f (get_or gs w [])
run_in f long [] w rest h = absurd (omega arith)
run_in f long (g ∷ gs) zero rest h =
    ap (take (length g)) (append_assoc (f g) (joined_lists (map f gs)) rest) ∙ take_at (f g) (joined_lists (map f gs) ++ rest) (length g) (long g)
run_in f long (g ∷ gs) (suc w) rest h =
    let s = sum_by-cons length g (take w gs) in
    let all = f g ++ joined_lists (map f gs) in
    ap (λ (n : ℕ). take (length (get_or gs w [])) (drop n (all ++ rest))) s
    ∙ ap (take (length (get_or gs w []))) (
    sym (drop-drop (sum_by length (take w gs)) (length g) (all ++ rest))
    ∙ ap (λ zs. drop (sum_by length (take w gs)) (drop (length g) zs)) (append_assoc (f g) (joined_lists (map f gs)) rest)
    ∙ ap (drop (sum_by length (take w gs))) (drop_at (f g) (joined_lists (map f gs) ++ rest) (length g) (long g))
    )
    ∙ run_in f long gs w rest (omega arith)

-- the same behind a front as long as the lists before list v
pub run-behind : {X Y : Type 0} (f : List Y → List X) → ((g : List Y) → length (f g) ≡ length g) → (gs : List (List Y)) (v w : ℕ) (front rest : List X) → v ≤ w → w < length gs
    → length front ≡ sum_by length (take v gs)
    → take (length (get_or gs w [])) (drop (sum_by length (take w gs)) (front ++ (joined_lists (map f (drop v gs)) ++ rest))) ≡ f (get_or gs w [])
run-behind f long gs v w front rest le h e =
    let hs = drop v gs in
    let all = joined_lists (map f hs) ++ rest in
    let i : v + (w - v) ≡ w = omega arith in
    let at : get_or hs (w - v) [] ≡ get_or gs w [] = get_or-drop v gs (w - v) [] ∙ ap (λ (n : ℕ). get_or gs n []) i in
    let before : sum_by length (take w gs) ≡ length front + sum_by length (take (w - v) hs) =
    sym (sum_by-take-drop length (take w gs) v)
    ∙ ap (λ (n : ℕ). n + sum_by length (drop v (take w gs))) (ap (sum_by length) (take-take v w gs le) ∙ sym e)
    ∙ ap (λ zs. length front + sum_by length zs) (sym (ap (λ (n : ℕ). drop v (take n gs)) i) ∙ drop-take v (w - v) gs) in
    let l = length-drop v gs in
    ap (λ (n : ℕ). take (length (get_or gs w [])) (drop n (front ++ all))) before
    ∙ ap (take (length (get_or gs w []))) (sym (drop-drop (sum_by length (take (w - v) hs)) (length front) (front ++ all)) ∙ ap (drop (sum_by length (take (w - v) hs))) (drop_at front all (length front) refl))
    ∙ ap (λ g. take (length g) (drop (sum_by length (take (w - v) hs)) all)) (sym at)
    ∙ run_in f long hs (w - v) rest (omega arith)
    ∙ ap f at

module _ {X Y : Type 0} (f : List Y → List X) (gs : List (List Y)) (memory : List X) where
  -- before the last list nothing is laid down
  pub none-laid : (v at to : ℕ) → length gs ≤ v → at ≡ to → memory ≡ take at memory ++ (joined_lists (map f (drop v gs)) ++ drop to memory)
  none-laid v at to h e =
      sym (take-append-drop at memory)
      ∙ ap (λ (n : ℕ). take at memory ++ drop n memory) e
      ∙ ap (λ hs. take at memory ++ (joined_lists (map f hs) ++ drop to memory)) (sym (drop_all v gs h))

  -- list u, written in front of those from v on
  pub one-laid : (now rest : List X) (u v at to n : ℕ) → v ≡ u + 1 → u < length gs → to ≡ at + n → n ≡ length (f (get_or gs u [])) → to ≤ length memory
      → now ≡ take to memory ++ (joined_lists (map f (drop v gs)) ++ rest)
      → paste now at (f (get_or gs u [])) n ≡ take at memory ++ (joined_lists (map f (drop u gs)) ++ rest)
  one-laid now rest u v at to n e h t m room laid =
      let xs = f (get_or gs u []) in
      let behind = joined_lists (map f (drop (u + 1) gs)) in
      ap (λ zs. paste zs at xs n) (laid ∙ ap (λ (i : ℕ). take i memory ++ (joined_lists (map f (drop v gs)) ++ rest)) t ∙ ap (λ (i : ℕ). take (at + n) memory ++ (joined_lists (map f (drop i gs)) ++ rest)) e)
      ∙ paste-before memory xs (behind ++ rest) at n (omega arith) m
      ∙ ap (λ zs. take at memory ++ zs) (sym (append_assoc xs behind rest) ∙ ap (λ zs. zs ++ rest) (sym (joined-from f gs u h)))
