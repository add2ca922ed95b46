-- A record's rows, filled one after the other.
use Rattle.std.proofs.Common.{◌≡◌, ℕ, suc, ◌+◌, ◌-◌, ◌<◌, ◌≤◌, List, [], ◌∷◌, ◌++◌, length, get_or, take, set, replicate, sym, refl, ap, ◌∙◌, inl, inr, arith}
use Rattle.std.proofs.lemmas.Bool.{cases_lt}
use Rattle.std.proofs.lemmas.List.{append_assoc, length-append, length-replicate, length_push, get_or_append_left, get_or-append_right, get_or-replicate, get_or_past, set_at, take_at}
use Rattle.register.specs.Answers.{filled_up}

pub filled_more : {X : Type 0} (most i : ℕ) (none x : X) (xs : List X) → length xs ≡ i → i < most
    → set (filled_up most none xs) i x ≡ filled_up most none (xs ++ (x ∷ []))
filled_more most i none x xs n h =
    let k : most - length xs ≡ suc (most - (i + 1)) = omega arith in
    let m : most - (i + 1) ≡ most - length (xs ++ (x ∷ [])) = omega (arith, length_push xs x) in
    ap (λ j. set (xs ++ replicate j none) i x) k
    ∙ set_at xs none (replicate (most - (i + 1)) none) x i n
    ∙ sym (append_assoc xs (x ∷ []) (replicate (most - (i + 1)) none))
    ∙ ap (λ j. (xs ++ (x ∷ [])) ++ replicate j none) m

-- the rows in use, as a part from the start
pub filled-taken : {X : Type 0} (most used : ℕ) (none : X) (xs filled : List X) → filled ≡ filled_up most none xs → used ≡ length xs → take used filled ≡ xs
filled-taken most used none xs filled e u =
    ap (take used) e ∙ take_at xs (replicate (most - length xs) none) used (sym u)

-- a row is read as in the list that fills it
pub filled-at : {X : Type 0} (most : ℕ) (none : X) (xs : List X) (k : ℕ) → k < most → get_or (filled_up most none xs) k none ≡ get_or xs k none
filled-at most none xs k h =
    elim (cases_lt k (length xs)) [
      | inl l ↦ get_or_append_left xs (replicate (most - length xs) none) none k l
      | inr l ↦
          get_or-append_right xs (replicate (most - length xs) none) (length xs) k none refl l
          ∙ get_or-replicate (most - length xs) (k - length xs) none none (omega arith)
          ∙ sym (get_or_past xs k none l)
    ]

pub length-filled : {X : Type 0} (most : ℕ) (none : X) (xs : List X) → length xs ≤ most → length (filled_up most none xs) ≡ most
length-filled most none xs h = omega (arith, length-append xs (replicate (most - length xs) none), length-replicate (most - length xs) none)
