-- The walk of a range: the places in the lists visited so far, and the comparisons to find them.
use Rattle.std.proofs.Common.{◌≡◌, ℕ, ◌+◌, ◌*◌, ◌<◌, ◌≤◌, true, false, List, length, get_or, set, sum_by, filter, Ordering, sym, refl, ap, ◌∙◌, subst, ap₂, inl, inr, arith}
use Rattle.std.specs.List.{range_with_len}
use Rattle.std.proofs.lemmas.List.{get_or-set_same, get_or-set_other}
use Rattle.std.proofs.lemmas.List.Sums.{sum_by_push}
use Rattle.std.proofs.lemmas.Bool.{cases_eq, both_ways}
use Rattle.orders.specs.Laws.{LawfulOrder}
use Rattle.orders.specs.declared.side.Side.TheVariants.{Low, High}
use Rattle.shelves.specs.Slots.{sieve_lists, sieve_parent}
use Rattle.cascade.specs.SlotTree.{SieveShaped, visited}
use Rattle.cascade.specs.Trees.{KeyTree, parent_of, ParentsSmaller, augmented}
use Rattle.cascade.specs.Walks.{arrival}
use Rattle.register.specs.Shape.{Shaped}
use Rattle.walking.specs.Reached.{arrived}
use Rattle.walking.specs.declared.search.Arrival.{Arrival}
use Rattle.walking.proofs.Lying.{root-small}
use Rattle.walking.proofs.Gathering.{arrival-within, arrival-few}
use Rattle.walking.proofs.Keeping.{kept-yes, kept-no}
use Rattle.walking.proofs.Visiting.{visited-up}

-- two arrivals: their places, and the comparisons of both
abbrev pub both_sides : ℕ × ℕ → ℕ × ℕ → (ℕ × ℕ) × ℕ
both_sides low high = ((low.0, high.0), low.1 + high.1)

module _ {K : Type 0} (order : K → K → Ordering) (t : KeyTree K) (low high : K) where
  -- both sides of list v
  abbrev pub sides_at : ℕ → (ℕ × ℕ) × ℕ
  sides_at v = both_sides (arrival order t Low low v) (arrival order t High high v)

  module _ (laws : LawfulOrder order) (shaped : Shaped t) (sieve : SieveShaped t) where
    pub sides-few : (v : ℕ) → (sides_at v).1 ≤ 32
    sides-few v =
        let small = root-small order t shaped (subst (λ n. 0 < n) (sym sieve.lists) (omega arith)) in
        omega (arith, arrival-few order laws t Low low small v, arrival-few order laws t High high small v)

    pub both-few : (v : ℕ) (first after : Arrival) → first ≡ arrived (arrival order t Low low v) → after ≡ arrived (arrival order t High high v) → first.comparisons + after.comparisons ≤ 32
    both-few v first after f h = omega (arith, sides-few v, ap (λ r. r.comparisons) f, ap (λ r. r.comparisons) h)

  pub sides-within : LawfulOrder order → ParentsSmaller t → (v : ℕ) → v < length t → (at : ℕ × ℕ) → at ≡ (sides_at v).0
      → (at.0 ≤ length (augmented order t v)) × (at.1 ≤ length (augmented order t v))
  sides-within laws smaller v l at e = (
    subst (λ p. p.0 ≤ length (augmented order t v)) (sym e) (arrival-within order laws t smaller Low low v l),
    subst (λ p. p.1 ≤ length (augmented order t v)) (sym e) (arrival-within order laws t smaller High high v l),
  )

  module _ (a b : ℕ) where
    -- the lists before v have been handled
    pub record Seen (v n : ℕ) (places : List (ℕ × ℕ)) : Type 0 where
      pub kept : (k : ℕ) → k < v → visited a b k ≡ true → get_or places k (0, 0) ≡ (sides_at k).0
      pub count : n ≡ sum_by (λ u. (sides_at u).1) (filter (visited a b) (range_with_len 0 v))
      pub few : n ≤ 32 * v

    pub seen_skip : (v n : ℕ) (places : List (ℕ × ℕ)) → visited a b v ≡ false → Seen v n places → Seen (v + 1) n places
    seen_skip v n places e was = record {
      kept = λ k h seen. elim (cases_eq k v) [
        | inl d ↦ absurd (both_ways (visited a b v) e (ap (visited a b) (sym d) ∙ seen))
        | inr d ↦ was.kept k (omega arith) seen
      ];
      count = was.count ∙ ap (sum_by (λ u. (sides_at u).1)) (sym (kept-no (visited a b) v e));
      few = let f = was.few in omega arith;
    }

    pub seen_more : (v n : ℕ) (places : List (ℕ × ℕ)) (r : (ℕ × ℕ) × ℕ) → v < length places → visited a b v ≡ true → r ≡ sides_at v → (sides_at v).1 ≤ 32
        → Seen v n places → Seen (v + 1) (n + r.1) (set places v r.0)
    seen_more v n places r l e s few was =
        let m : r.1 ≡ (sides_at v).1 = ap (λ x. x.1) s in
        let f = was.few in
        record {
          kept = λ k h seen. elim (cases_eq k v) [
            | inl d ↦ ap (λ j. get_or (set places v r.0) j (0, 0)) d ∙ get_or-set_same places v r.0 (0, 0) l ∙ ap (λ x. x.0) s ∙ ap (λ u. (sides_at u).0) (sym d)
            | inr d ↦ get_or-set_other places v k r.0 (0, 0) d ∙ was.kept k (omega arith) seen
          ];
          count = ap₂ (λ x y. x + y) was.count m
              ∙ sym (ap (sum_by (λ u. (sides_at u).1)) (kept-yes (visited a b) v e) ∙ sum_by_push (λ u. (sides_at u).1) (filter (visited a b) (range_with_len 0 v)) v);
          few = omega arith;
        }

    pub seen_none : (places : List (ℕ × ℕ)) → Seen 0 0 places
    seen_none places = record { kept = λ k h seen. absurd (omega arith); count = refl; few = omega arith }

    module _ (sieve : SieveShaped t) (v n : ℕ) (places : List (ℕ × ℕ)) (l : v < sieve_lists) (was : Seen v n places) where
      pub seen-there : v < length t
      seen-there = subst (λ m. v < m) (sym sieve.lists) l

      -- the places in the parent of a visited list
      pub seen-above : visited a b v ≡ true → 0 < v → get_or places (sieve_parent v) (0, 0) ≡ (sides_at (parent_of t v)).0
      seen-above e below =
          was.kept (sieve_parent v) (omega arith) (visited-up a b v l below e)
          ∙ ap (λ u. (sides_at u).0) (sym (sieve.parents v below l))
