-- The points of a rectangle lie in the spans of a range, each in one.
use Rattle.std.proofs.Common.{◌≡◌, ℕ, zero, suc, ◌<◌, ◌≤◌, Bool, true, not, ◌&&◌, ltb, leb, List, [], ◌∷◌, take, Some, filter, Ordering, sym, ap, subst, ◌∙◌, zero-add, one-add, arith}
use Rattle.std.specs.List.{slice_get, range_with_len}
use Rattle.std.specs.Ordering.{is_le, is_lt}
use Rattle.std.proofs.lemmas.List.FromFn.{length-map-range_with_len, get_or-map-range_with_len}
use Rattle.std.proofs.lemmas.Bool.Decides.{nat_tests}
use Rattle.orders.specs.declared.side.Side.{Side}
use Rattle.orders.specs.declared.side.Side.TheVariants.{Low, High}
use Rattle.orders.specs.Laws.{LawfulOrder}
use Rattle.orders.specs.Places.{bit, count, passed, place, in_order}
use Rattle.shelves.specs.Slots.{sieve_lists, slot_count, covers}
use Rattle.cascade.specs.Lists.{test_at, Sorted}
use Rattle.cascade.specs.Trees.{keys_at, keys_of, not_above}
use Rattle.cascade.specs.SlotTree.{chosen, chosen_lists, SieveShaped, Span, spans}
use Rattle.cascade.specs.Points.{BarePoint, sieved_list, sieved_keys, in_rectangle, holds}
use Rattle.cascade.specs.SlotTheorems.{Rectangle, RectangleOfLists}
use Rattle.cascade.proofs.Counts.{Falls, count_map, count_kept, count-and, test-before, test-after}
use Rattle.cascade.proofs.Merging.{sort-fixed, kept-sort}
use Rattle.cascade.proofs.Numbering.{count-among}
use Rattle.cascade.proofs.Sorting.{sort_sorted}
use Rattle.cascade.proofs.KeyOrders.{key_le, total, trans, sorted-keys, sorted-from-keys, in-order-from-sorted, sorted-from-in-order, falls-keys}
use Rattle.cascade.proofs.Ranging.{slots-once, spans-counted}

-- a test that falls passes at the places before the number of those that pass
module _ {X : Type 0} (f : X → Bool) (xs : List X) (falls : Falls f xs) (i : ℕ) where
  before-is : ltb i (count f xs) ≡ test_at f xs i
  before-is = grind (arith, nat_tests, test-before f xs i falls, test-after f xs i falls)

  behind-is : leb (count f xs) i ≡ not (test_at f xs i)
  behind-is = grind (arith, nat_tests, test-before f xs i falls, test-after f xs i falls)

module _ {K : Type 0} where
  -- the place of a point among those that are kept
  test-kept : (c : BarePoint K → Bool) (f : K → Bool) (ps : List (BarePoint K)) (i : ℕ) (p : BarePoint K) → slice_get ps i ≡ Some p → c p ≡ true
      → test_at f (keys_of (filter c ps)) (count c (take i ps)) ≡ f p.1
  test-kept c f [] i p e k = let z : ◌≡◌ {A = ℕ} 0 1 = cc in absurd (omega arith)
  test-kept c f (x ∷ xs) zero p e k =
      let m : x ≡ p = cc in
      rw (ap c m ∙ k) (ap (λ y. f y.1) m)
  test-kept c f (x ∷ xs) (suc i) p e k =
      let ih = test-kept c f xs i p e k in
      grind (arith, one-add, zero-add, ih)

  sieve-keys : (ps : List (BarePoint K)) (v : ℕ) → v < sieve_lists → keys_at (sieved_keys ps) v ≡ keys_of (filter (λ p. covers v p.0) ps)
  sieve-keys ps v l = ap (λ (b : ℕ × List K). b.1) (get_or-map-range_with_len (sieved_list ps) 0 sieve_lists v v (0, []) l (zero-add v))

  pub sieve-shaped : (ps : List (BarePoint K)) → SieveShaped (sieved_keys ps)
  sieve-shaped ps = record {
    lists = length-map-range_with_len (sieved_list ps) 0 sieve_lists;
    parents = λ v z l. ap (λ (b : ℕ × List K). b.0) (get_or-map-range_with_len (sieved_list ps) 0 sieve_lists v v (0, []) l (zero-add v));
  }

module _ {K : Type 0} (order : K → K → Ordering) (laws : LawfulOrder order) (ps : List (BarePoint K)) (rising : (v : ℕ) → v < sieve_lists → in_order order (keys_at (sieved_keys ps) v) ≡ true) where
  module _ (low high : K) (i : ℕ) (p : BarePoint K) (at : slice_get ps i ≡ Some p) where
    -- whether the point's key is neither below low nor above high
    abbrev between : Bool
    between = not (is_lt (order p.1 low)) && is_le (order p.1 high)

    abbrev span_of : ℕ → Span
    span_of v = (v, place order Low low (keys_at (sieved_keys ps) v), place order High high (keys_at (sieved_keys ps) v))

    module _ (v : ℕ) (there : v < sieve_lists) where
      -- how many points of the list's slots stand before the point
      abbrev rank : ℕ
      rank = count (λ x. covers v x.0) (take i ps)

      passed-at : (side : Side) (q : K) → covers v p.0 ≡ true → test_at (passed order side q) (keys_at (sieved_keys ps) v) rank ≡ passed order side q p.1
      passed-at side q e =
          ap (λ ks. test_at (passed order side q) ks rank) (sieve-keys ps v there)
          ∙ test-kept (λ x. covers v x.0) (passed order side q) ps i p at e

      falls_at : (side : Side) (q : K) → Falls (passed order side q) (keys_at (sieved_keys ps) v)
      falls_at side q =
          falls-keys order laws side q (keys_at (sieved_keys ps) v) (sorted-from-in-order order laws (keys_at (sieved_keys ps) v) (rising v there))

      holds-is : holds ps i p.0 (span_of v) ≡ (covers v p.0 && between)
      holds-is =
          let l = behind-is (passed order Low low) (keys_at (sieved_keys ps) v) (falls_at Low low) rank in
          let h = before-is (passed order High high) (keys_at (sieved_keys ps) v) (falls_at High high) rank in
          grind (arith, l, h, passed-at Low low, passed-at High high)

    once : (a b : ℕ) → a ≤ b → b < slot_count → count (holds ps i p.0) (spans order (sieved_keys ps) a b low high) ≡ bit (in_rectangle order a b low high p)
    once a b up top =
        let s = p.0 in
        ap (count (holds ps i s)) (spans-counted K order laws (sieved_keys ps) (sieve-shaped ps) a b low high)
        ∙ count_map (holds ps i s) span_of (chosen_lists a b)
        ∙ count_kept (chosen a b) (λ v. holds ps i s (span_of v)) (range_with_len 0 sieve_lists)
        ∙ count-among (λ v. chosen a b v && holds ps i s (span_of v)) (λ v. chosen a b v && (covers v s && between)) 0 sieve_lists
        (λ v z l. ap (λ c. chosen a b v && c) (holds-is v l))
        ∙ sym (count_kept (chosen a b) (λ v. covers v s && between) (range_with_len 0 sieve_lists))
        ∙ count-and (λ v. covers v s) between (leb a s && leb s b) (chosen_lists a b) (slots-once a b up top s)

pub rectangle-of-lists : (K : Type 0) → RectangleOfLists K
rectangle-of-lists K order laws ps rising a b up top low high i p at = once order laws ps rising low high i p at a b up top

module _ {K : Type 0} (order : K → K → Ordering) (laws : LawfulOrder order) (ps : List (BarePoint K)) (rising : in_order order (keys_of ps) ≡ true) where
  -- of points in order, those of some slots are in order too
  kept-rising : (c : BarePoint K → Bool) → Sorted (key_le order) (keys_of (filter c ps))
  kept-rising c =
      let s = sorted-from-keys order ps (sorted-from-in-order order laws (keys_of ps) rising) in
      let e = sym (kept-sort (not_above order) (total order laws) (trans order laws) c ps) ∙ ap (filter c) (sort-fixed (not_above order) (total order laws) (trans order laws) ps s) in
      sorted-keys order (filter c ps) (subst (Sorted (not_above order)) e (sort_sorted (not_above order) (total order laws) (trans order laws) (filter c ps)))

  lists-rising : (v : ℕ) → v < sieve_lists → in_order order (keys_at (sieved_keys ps) v) ≡ true
  lists-rising v l = in-order-from-sorted order laws (keys_at (sieved_keys ps) v) (subst (Sorted (key_le order)) (sym (sieve-keys ps v l)) (kept-rising (λ p. covers v p.0)))

pub rectangle : (K : Type 0) → Rectangle K
rectangle K order laws ps rising = rectangle-of-lists K order laws ps (lists-rising order laws ps rising)
