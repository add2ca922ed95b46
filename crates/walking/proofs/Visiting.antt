-- Visited lists without the lists above their parents.
use Rattle.std.proofs.Common.{◌≡◌, ℕ, zero, suc, ◌+◌, ◌<◌, ◌≤◌, Bool, true, false, not, ◌&&◌, ltb, leb, sym, refl, ap, ◌∙◌, inl, inr, arith}
use Rattle.std.proofs.lemmas.Bool.{cases_eq, cases_Bool, both_ways, and_parts, and_from, and_left, and_right, leb-true, le-leb, ltb-true, lt-ltb, not_from_true, not_from_false}
use Rattle.shelves.specs.Slots.{sieve_lists, sieve_parent, width_of, first_slot}
use Rattle.cascade.specs.SlotTree.{meets, inside, none_above_chosen, visited, chosen}
use Rattle.cascade.proofs.Nodes.{from-parent}

-- a test at all numbers below n
abbrev below : (ℕ → Bool) → ℕ → Bool
below f zero = true
below f (suc n) = f n && below f n

below_at : (f : ℕ → Bool) (n : ℕ) → below f n ≡ true → (k : ℕ) → k < n → f k ≡ true
below_at f zero e k h = absurd (omega arith)
below_at f (suc n) e k h =
    elim (cases_eq k n) [
      | inl d ↦ ap f d ∙ (and_parts (f n) (below f n) e).0
      | inr d ↦ below_at f n (and_parts (f n) (below f n) e).1 k (omega arith)
    ]

-- the slots of a list are among those of its parent
abbrev among : ℕ → Bool
among v = leb (first_slot (sieve_parent v)) (first_slot v) && leb (first_slot v + width_of v) (first_slot (sieve_parent v) + width_of (sieve_parent v))

among-parent : (v : ℕ) → v < sieve_lists → (first_slot (sieve_parent v) ≤ first_slot v) × (first_slot v + width_of v ≤ first_slot (sieve_parent v) + width_of (sieve_parent v))
among-parent v h =
    let e = and_parts _ _ (below_at among sieve_lists refl v h) in
    (leb-true _ _ e.0, leb-true _ _ e.1)

module _ (a b : ℕ) where
  meets-up : (v : ℕ) → v < sieve_lists → meets a b v ≡ true → meets a b (sieve_parent v) ≡ true
  meets-up v h e =
      let s = among-parent v h in
      let p = and_parts (leb (first_slot v) b) (ltb a (first_slot v + width_of v)) e in
      let l = leb-true _ _ p.0 in
      let u = ltb-true _ _ p.1 in
      and_from (leb (first_slot (sieve_parent v)) b) (ltb a (first_slot (sieve_parent v) + width_of (sieve_parent v))) (le-leb _ _ (omega arith)) (lt-ltb _ _ (omega arith))

  inside-down : (v : ℕ) → v < sieve_lists → inside a b (sieve_parent v) ≡ true → inside a b v ≡ true
  inside-down v h e =
      let s = among-parent v h in
      let p = and_parts (leb a (first_slot (sieve_parent v))) (leb (first_slot (sieve_parent v) + width_of (sieve_parent v)) (suc b)) e in
      let l = leb-true _ _ p.0 in
      let u = leb-true _ _ p.1 in
      and_from (leb a (first_slot v)) (leb (first_slot v + width_of v) (suc b)) (le-leb _ _ (omega arith)) (le-leb _ _ (omega arith))

  visited-within : (n v : ℕ) → v ≤ n → v < sieve_lists → meets a b v ≡ true → (0 < v → inside a b (sieve_parent v) ≡ false) → visited a b v ≡ true
  visited-within n zero k h m i = m
  visited-within zero (suc v) k h m i = absurd (omega arith)
  visited-within (suc n) (suc v) k h m i =
      let up = sieve_parent (suc v) in
      let out = i (omega arith) in
      let above : visited a b up ≡ true =
      visited-within n up (omega arith) (omega arith) (meets-up (suc v) h m)
      (λ z. elim (cases_Bool (inside a b (sieve_parent up))) [
        | inl e ↦ absurd (both_ways (inside a b up) out (inside-down up (omega arith) e))
        | inr e ↦ e
      ]) in
      (from-parent a b (suc v) h).0 (omega arith)
      ∙ and_from (visited a b up) (not (inside a b up) && meets a b (suc v)) above (and_from (not (inside a b up)) (meets a b (suc v)) (not_from_false (inside a b up) out) m)

  -- a list under none that is inside is visited where it meets the slots
  pub visited-else : (v : ℕ) → v < sieve_lists → (0 < v → inside a b (sieve_parent v) ≡ false) → visited a b v ≡ meets a b v
  visited-else v h i =
      elim (cases_Bool (meets a b v)) [
        | inl m ↦ visited-within v v (omega arith) h m i ∙ sym m
        | inr m ↦ and_right (none_above_chosen a b v) (meets a b v) m ∙ sym m
      ]

  -- a list under one that is inside is not visited
  pub visited-below : (v : ℕ) → v < sieve_lists → 0 < v → inside a b (sieve_parent v) ≡ true → visited a b v ≡ false
  visited-below v h z e =
      let up = sieve_parent v in
      (from-parent a b v h).0 z
      ∙ and_right (visited a b up) (not (inside a b up) && meets a b v) (and_left (not (inside a b up)) (meets a b v) (not_from_true (inside a b up) e))

  -- the parent of a visited list is visited
  pub visited-up : (v : ℕ) → v < sieve_lists → 0 < v → visited a b v ≡ true → visited a b (sieve_parent v) ≡ true
  visited-up v h z e = (and_parts (visited a b (sieve_parent v)) (not (inside a b (sieve_parent v)) && meets a b v) (sym ((from-parent a b v h).0 z) ∙ e)).0

  -- and so is a chosen list
  pub visited-chosen : (v : ℕ) → v < sieve_lists → chosen a b v ≡ true → visited a b v ≡ true
  visited-chosen v h e = (and_parts (visited a b v) (inside a b v) (sym (from-parent a b v h).1 ∙ e)).0
