-- A lookup arrives at each list of its path after as many elements as are passed there.
use Rattle.std.proofs.Common.{◌≡◌, ℕ, zero, suc, ◌+◌, ◌*◌, ◌<◌, ◌≤◌, [], ◌∷◌, ◌++◌, map, length, sum_by, Ordering, sym, refl, ap, ◌∙◌, inl, inr, arith, length-append}
use Rattle.std.proofs.lemmas.List.{map-append}
use Rattle.std.proofs.lemmas.List.Sums.{sum_by_push}
use Rattle.std.proofs.lemmas.Bool.{cases_eq, eq-eqb, ne_eqb}
use Rattle.std.proofs.lemmas.Bool.Decides.{nat_tests}
use Rattle.orders.specs.declared.side.Side.{Side}
use Rattle.orders.specs.Laws.{LawfulOrder}
use Rattle.orders.specs.Numbers.{bit_length}
use Rattle.orders.specs.Places.{count, place}
use Rattle.cascade.specs.Trees.{KeyTree, own_source, parent_of, keys_at, ParentsSmaller, path, path_within, depth_of, augmented}
use Rattle.cascade.specs.Rows.{tally}
use Rattle.cascade.specs.Walks.{passes, edge_arrival, arrival_within, arrival, walked_place, stops, comparisons}
use Rattle.cascade.specs.Theorems.{LookupWithin}
use Rattle.cascade.proofs.Searching.{steps-most}
use Rattle.cascade.proofs.Bridges.{root-search, edge-within, own-place}

module _ {K : Type 0} (order : K → K → Ordering) (t : KeyTree K) (side : Side) (q : K) where
  -- any bound that is large enough will do
  arrival-any : ParentsSmaller t → (m n v : ℕ) → v ≤ m → v ≤ n → v < length t → arrival_within order t side q m v ≡ arrival_within order t side q n v
  arrival-any smaller zero zero v h k l = refl
  arrival-any smaller zero (suc n) v h k l = rw (eq-eqb v 0 (omega arith))
  arrival-any smaller (suc m) zero v h k l = rw (eq-eqb v 0 (omega arith))
  arrival-any smaller (suc m) (suc n) v h k l =
      let s = smaller v in
      let ih = arrival-any smaller m n (parent_of t v) in
      grind (arith, nat_tests, s, ih)

  -- from the parent's arrival by an edge step
  pub arrival-step : ParentsSmaller t → (v : ℕ) → 0 < v → v < length t → arrival order t side q v ≡ edge_arrival order t side q v (arrival order t side q (parent_of t v)).0
  arrival-step smaller zero z l = absurd (omega arith)
  arrival-step smaller (suc n) z l =
      let s = smaller (suc n) z l in
      rw (ne_eqb (suc n) 0 (omega arith)) (ap (λ r. edge_arrival order t side q (suc n) r.0) (arrival-any smaller n (parent_of t (suc n)) (parent_of t (suc n)) (omega arith) (omega arith) (omega arith)))

  -- a step along an edge takes at most three comparisons, in any tree
  pub step-most : (v : ℕ) → 0 < v → (arrival order t side q v).1 ≤ 3
  step-most zero z = absurd (omega arith)
  step-most (suc n) z = rw (ne_eqb (suc n) 0 (omega arith)) (steps-most (passes order side q) 3 _)

module _ {K : Type 0} (order : K → K → Ordering) (laws : LawfulOrder order) (t : KeyTree K) (smaller : ParentsSmaller t) (side : Side) (q : K) where
  arrives-within : (n v : ℕ) → v ≤ n → v < length t → (arrival order t side q v).0 ≡ count (passes order side q) (augmented order t v)
  arrives-within n zero h l = (root-search K order laws t 0 side q).0
  arrives-within zero (suc v) h l = absurd (omega arith)
  arrives-within (suc n) (suc v) h l =
      let s = smaller (suc v) (omega arith) l in
      ap (λ r. r.0) (arrival-step order t side q smaller (suc v) (omega arith) l)
      ∙ (edge-within K 3 (omega arith) order laws t smaller (suc v) (omega arith) l side q (arrival order t side q (parent_of t (suc v))).0 (arrives-within n (parent_of t (suc v)) (omega arith) (omega arith)) _ refl).0

  -- the augmented place at each list is the number of elements passed
  pub arrives : (v : ℕ) → v < length t → (arrival order t side q v).0 ≡ count (passes order side q) (augmented order t v)
  arrives v l = arrives-within v v (omega arith) l

  -- and the place in the list is the place of q
  pub walks : (v : ℕ) → v < length t → walked_place order t side q v ≡ place order side q (keys_at t v)
  walks v l = ap (λ p. tally own_source p (augmented order t v)) (arrives v l) ∙ own-place K order laws t v l side q

module _ {K : Type 0} (t : KeyTree K) (smaller : ParentsSmaller t) where
  path-any : (m n w : ℕ) → w ≤ m → w ≤ n → w < length t → path_within m t w ≡ path_within n t w
  path-any zero zero w h k l = refl
  path-any zero (suc n) w h k l = rw (eq-eqb w 0 (omega arith))
  path-any (suc m) zero w h k l = rw (eq-eqb w 0 (omega arith))
  path-any (suc m) (suc n) w h k l =
      elim (cases_eq w 0) [
        | inl e ↦ rw (eq-eqb w 0 e)
        | inr d ↦
            let s = smaller w (omega arith) l in
            rw (ne_eqb w 0 d) (ap (λ r. r ++ (w ∷ [])) (path-any m n (parent_of t w) (omega arith) (omega arith) (omega arith)))
      ]

  -- the path to a list goes through its parent
  pub path-step : (w : ℕ) → 0 < w → w < length t → path t w ≡ path t (parent_of t w) ++ (w ∷ [])
  path-step zero z l = absurd (omega arith)
  path-step (suc n) z l =
      let s = smaller (suc n) z l in
      rw (ne_eqb (suc n) 0 (omega arith)) (ap (λ r. r ++ (suc n ∷ [])) (path-any n (parent_of t (suc n)) (parent_of t (suc n)) (omega arith) (omega arith) (omega arith)))

  path-some : (w : ℕ) → w < length t → 0 < length (path t w)
  path-some zero l = omega arith
  path-some (suc n) l = rw (path-step (suc n) (omega arith) l, length-append) (omega arith)

  pub depth-step : (w : ℕ) → 0 < w → w < length t → depth_of t w ≡ suc (depth_of t (parent_of t w))
  depth-step w z l =
      let s = smaller w z l in
      let p = path-some (parent_of t w) (omega arith) in
      let e : length (path t w) ≡ length (path t (parent_of t w)) + 1 = ap length (path-step w z l) ∙ length-append (path t (parent_of t w)) (w ∷ []) in
      omega arith

pub lookup-within : (K : Type 0) → LookupWithin K 3
lookup-within K order laws t smaller w h side q = go w w (omega arith) h
  where
    go : (n v : ℕ) → v ≤ n → v < length t
        → (stops order t side q v ≡ map (λ u. (u, place order side q (keys_at t u))) (path t v))
        × (comparisons order t side q v ≤ bit_length (length (augmented order t 0)) + 3 * depth_of t v)
    go n zero k l =
        let r = (root-search K order laws t 0 side q).1 in
        (ap (λ p. (0, p) ∷ []) (walks order laws t smaller side q 0 l), omega arith)
    go zero (suc v) k l = absurd (omega arith)
    go (suc n) (suc v) k l =
        let above = parent_of t (suc v) in
        let s = smaller (suc v) (omega arith) l in
        let ih = go n above (omega arith) (omega arith) in
        let e = path-step t smaller (suc v) (omega arith) l in
        let d = depth-step t smaller (suc v) (omega arith) l in
        let f : ℕ → ℕ × ℕ = λ u. (u, walked_place order t side q u) in
        let g : ℕ → ℕ × ℕ = λ u. (u, place order side q (keys_at t u)) in
        let i : comparisons order t side q (suc v) ≡ comparisons order t side q above + (arrival order t side q (suc v)).1 =
        ap (sum_by (λ u. (arrival order t side q u).1)) e ∙ sum_by_push (λ u. (arrival order t side q u).1) (path t above) (suc v) in
        let m = step-most order t side q (suc v) (omega arith) in (
          ap (map f) e ∙ map-append f (path t above) (suc v ∷ [])
              ∙ ap (λ r. r ++ (f (suc v) ∷ [])) ih.0
              ∙ ap (λ p. map g (path t above) ++ ((suc v, p) ∷ [])) (walks order laws t smaller side q (suc v) l)
              ∙ sym (ap (map g) e ∙ map-append g (path t above) (suc v ∷ [])),
          omega arith,
        )
