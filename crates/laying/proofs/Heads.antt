-- The element at a place of a list in order is the least of what its sources still hold.
use Rattle.std.proofs.Common.{◌≡◌, ℕ, zero, suc, ◌+◌, ◌<◌, ◌≤◌, Bool, true, false, cond, eqb, leb, List, [], ◌∷◌, length, get_or, drop, Some, None, filter, Option, Ordering, Less, Equal, Greater, sym, refl, ap, ◌∙◌, subst, ap₂, inl, inr, zero-add, one-add, arith}
use Rattle.std.proofs.lemmas.Bool.{cases_lt, eq-eqb, ne_eqb, eqb-true, lt-leb}
use Rattle.std.specs.List.{slice_get}
use Rattle.std.specs.Ordering.{is_lt, is_le}
use Rattle.orders.specs.Laws.{LawfulOrder}
use Rattle.orders.specs.Places.{bit}
use Rattle.cascade.specs.Lists.{Low, Sorted}
use Rattle.cascade.specs.Rows.{tally}
use Rattle.cascade.specs.Theorems.{before, part_of}
use Rattle.cascade.specs.Trees.{Tagged, keys_of}
use Rattle.laying.proofs.Choosing.{least-is}
use Rattle.laying.specs.Merging.{source_count, least_head}

-- the element at a place, whatever stands for one past the end
pub at_place : {X : Type 0} (xs : List X) (p : ℕ) → p < length xs → (x : X) × ((d : X) → get_or xs p d ≡ x) × (drop p xs ≡ x ∷ drop (suc p) xs)
at_place [] p h = absurd (omega arith)
at_place (x ∷ xs) zero h = (x, λ d. refl, refl)
at_place (x ∷ xs) (suc p) h = at_place xs p (omega arith)

sorted-drop : {X : Type 0} (le : X → X → Bool) (p : ℕ) (xs : List X) → Sorted le xs → Sorted le (drop p xs)
sorted-drop le zero xs s = s
sorted-drop le (suc p) [] s = tt
sorted-drop le (suc p) (x ∷ xs) s = sorted-drop le p xs s.1

module _ {K : Type 0} where
  -- what the first p elements leave of a source begins where their tally says
  part-head : (s p : ℕ) (xs : List (Tagged K)) → slice_get (part_of s xs) (tally s p xs) ≡ slice_get (part_of s (drop p xs)) 0
  part-head s zero xs = refl
  part-head s (suc p) [] = refl
  part-head s (suc p) (x ∷ xs) =
      let ih = part-head s p xs in
      let kept = filter (λ (y : Tagged K). eqb y.0 s) xs in
      elim (eqb x.0 s) as (λ b. slice_get (keys_of (cond b (x ∷ kept) kept)) (bit b + tally s p xs) ≡ slice_get (part_of s (drop p xs)) 0) [
        | true ↦ rw one-add ih
        | false ↦ rw zero-add ih
      ]

  low_part : (R : Tagged K → Tagged K → Bool) (x : Tagged K) (s : ℕ) (j : K) (xs : List (Tagged K)) → Low R x xs → slice_get (part_of s xs) 0 ≡ Some j → R x (s, j) ≡ true
  low_part R x s j [] l e = let z : ◌≡◌ {A = ℕ} 0 1 = cc in absurd (omega arith)
  low_part R x s j (y ∷ ys) l e = go (low_part R x s j ys l.1) (eqb y.0 s) refl e
    where
      go : (slice_get (part_of s ys) 0 ≡ Some j → R x (s, j) ≡ true) → (b : Bool) → eqb y.0 s ≡ b
          → slice_get (keys_of (cond b (y ∷ filter (λ (z : Tagged K). eqb z.0 s) ys) (filter (λ (z : Tagged K). eqb z.0 s) ys))) 0 ≡ Some j → R x (s, j) ≡ true
      go ih true t q =
          let key : y.1 ≡ j = cc in
          ap₂ (λ (n : ℕ) (k : K). R x (n, k)) (sym (eqb-true y.0 s t)) (sym key) ∙ l.0
      go ih false t q = ih q

  part-first : (x : Tagged K) (xs : List (Tagged K)) → slice_get (part_of x.0 (x ∷ xs)) 0 ≡ Some x.1
  part-first x xs = rw (eq-eqb x.0 x.0 refl)

  part-other : (s : ℕ) (x : Tagged K) (xs : List (Tagged K)) → (x.0 ≡ s → ⊥) → slice_get (part_of s (x ∷ xs)) 0 ≡ slice_get (part_of s xs) 0
  part-other s x xs h = rw (ne_eqb x.0 s h)

below-earlier : (o : Ordering) (b : Bool) → b ≡ false → cond (is_lt o) true (cond (is_le o) b false) ≡ true → is_lt o ≡ true
below-earlier Less b f e = refl
below-earlier Equal b f e = sym f ∙ e
below-earlier Greater b f e = e

not-above-later : (o : Ordering) (b : Bool) → cond (is_lt o) true (cond (is_le o) b false) ≡ true → is_le o ≡ true
not-above-later Less b e = refl
not-above-later Equal b e = refl
not-above-later Greater b e = e

module _ {K : Type 0} (order : K → K → Ordering) (laws : LawfulOrder order) (xs : List (Tagged K)) (sorted : Sorted (before order) xs)
    (others : (s : ℕ) → source_count ≤ s → part_of s xs ≡ []) (p : ℕ) (x : Tagged K) (rest : List (Tagged K)) (at : drop p xs ≡ x ∷ rest) where
  head_at : (s : ℕ) → slice_get (part_of s xs) (tally s p xs) ≡ slice_get (part_of s (x ∷ rest)) 0
  head_at s = part-head s p xs ∙ ap (λ (ys : List (Tagged K)). slice_get (part_of s ys) 0) at

  pub known-source : x.0 < source_count
  known-source =
      elim (cases_lt x.0 source_count) [
        | inl h ↦ h
        | inr h ↦
            let e : slice_get (part_of x.0 xs) (tally x.0 p xs) ≡ None = ap (λ (ks : List K). slice_get ks (tally x.0 p xs)) (others x.0 h) in
            let f = head_at x.0 ∙ part-first x rest in
            let z : ◌≡◌ {A = ℕ} 0 1 = cc in
            absurd (omega arith)
      ]

  pub next-is : (heads : ℕ → Option K) → ((s : ℕ) → s < source_count → heads s ≡ slice_get (part_of s xs) (tally s p xs)) → least_head order heads source_count ≡ Some x
  next-is heads h =
      let head : (s : ℕ) → s < source_count → heads s ≡ slice_get (part_of s (x ∷ rest)) 0 = λ s l. h s l ∙ head_at s in
      let low = (subst (Sorted (before order)) at (sorted-drop (before order) p xs sorted)).0 in
      let first : (s : ℕ) (j : K) → s < source_count → (x.0 ≡ s → ⊥) → heads s ≡ Some j → before order x (s, j) ≡ true =
      λ s j l apart e. low_part (before order) x s j rest low (sym (part-other s x rest apart) ∙ sym (head s l) ∙ e) in
      let known = known-source in
      least-is order laws heads source_count x.0 x.1 (head x.0 known ∙ part-first x rest)
      (λ n j l e. below-earlier (order x.1 j) (leb x.0 n) (lt-leb x.0 n l) (first n j (omega arith) (λ q. omega arith) e))
      (λ n j l m e. not-above-later (order x.1 j) (leb x.0 n) (first n j m (λ q. omega arith) e))
      source_count known (omega arith)
