-- What holds of augmented lists and of lookups, for every lawful order and every tree.
use Rattle.std.specs.Prelude.{◌≡◌, ℕ, ◌+◌, ◌*◌, ◌/◌, ◌<◌, ◌≤◌, Bool, true, false, cond, List, [], map, length, sum_by, filter, nat_eq, nat_le}
use Rattle.std.specs.declared.cmp.Ordering.{Ordering}
use Rattle.std.specs.Ordering.{is_le, is_lt}
use Rattle.orders.specs.declared.side.Side.{Side}
use Rattle.orders.specs.Laws.{LawfulOrder}
use Rattle.orders.specs.Numbers.{bit_length}
use Rattle.orders.specs.Places.{count, place, in_order}
use Rattle.cascade.specs.Lists.{samples, Sorted}
use Rattle.cascade.specs.Trees.{KeyTree, Tagged, own_source, child_source, parent_of, keys_at, ParentsSmaller, children_of, ordinal, path, depth_of, all_keys, keys_of, augmented, all_augmented}
use Rattle.cascade.specs.Rows.{tally}
use Rattle.cascade.specs.Searches.{root_search, edge_step}
use Rattle.cascade.specs.Walks.{passes, stops, comparisons}

-- |A(v)| = |C(v)| + the sum of |A(w)| / 4 over the children w
abbrev pub Lengths : Type 0 → Type 0
Lengths K =
    (order : K → K → Ordering) (t : KeyTree K) → ParentsSmaller t → (v : ℕ) → v < length t
    → length (augmented order t v) ≡ length (keys_at t v) + sum_by (λ w. length (augmented order t w) / 4) (children_of t v)

-- 3 T ≤ 4 N, even where a parent is not smaller
abbrev pub Space : Type 0 → Type 0
Space K = (order : K → K → Ordering) (t : KeyTree K) → 3 * all_augmented order t ≤ 4 * all_keys t

module _ {K : Type 0} where
  -- x may stand before y: its key is below, or the same and its source is not behind
  abbrev pub before : (K → K → Ordering) → Tagged K → Tagged K → Bool
  before order x y = cond (is_lt (order x.1 y.1)) true (cond (is_le (order x.1 y.1)) (nat_le x.0 y.0) false)

  -- the keys from a source, as they stand
  abbrev pub part_of : ℕ → List (Tagged K) → List K
  part_of source xs = keys_of (filter (λ x. nat_eq x.0 source) xs)

-- the words of the definition of A(v): own keys and the children's samples in order, of same keys own ones first,
-- then samples by ordinal, each source in its own order
pub record IsAugmented {K : Type 0} (order : K → K → Ordering) (t : KeyTree K) (v : ℕ) (xs : List (Tagged K)) : Type 0 where
  pub ordered : Sorted (before order) xs
  pub own : part_of own_source xs ≡ keys_at t v
  pub children : (w : ℕ) → 0 < w → w < length t → parent_of t w ≡ v → part_of (child_source (ordinal t w)) xs ≡ samples (keys_of (augmented order t w))
  pub others : (j : ℕ) → length (children_of t v) ≤ j → part_of (child_source j) xs ≡ []

-- A(v) is a list as the definition says, and the only one
abbrev pub Defined : Type 0 → Type 0
Defined K =
    (order : K → K → Ordering) → LawfulOrder order → (t : KeyTree K) → ParentsSmaller t → (v : ℕ) → v < length t → in_order order (keys_at t v) ≡ true
    → IsAugmented order t v (augmented order t v)
    × ((xs : List (Tagged K)) → IsAugmented order t v xs → xs ≡ augmented order t v)

-- every A(v) is in order, whatever the order of the lists
abbrev pub Ordered : Type 0 → Type 0
Ordered K = (order : K → K → Ordering) → LawfulOrder order → (t : KeyTree K) (v : ℕ) → in_order order (keys_of (augmented order t v)) ≡ true

-- the root search ends at the number of elements passed, after as many comparisons as the length has binary digits at most
abbrev pub RootSearch : Type 0 → Type 0
RootSearch K =
    (order : K → K → Ordering) → LawfulOrder order → (t : KeyTree K) (v : ℕ) (side : Side) (q : K)
    → ((root_search (passes order side q) (augmented order t v)).0 ≡ count (passes order side q) (augmented order t v))
    × ((root_search (passes order side q) (augmented order t v)).1 ≤ bit_length (length (augmented order t v)))

-- the edge step leads from the number of elements passed in the parent's list to that in list w, within `most` comparisons
abbrev pub EdgeWithin : Type 0 → (most : ℕ) → Type 0
EdgeWithin K most =
    (order : K → K → Ordering) → LawfulOrder order → (t : KeyTree K) → ParentsSmaller t → (w : ℕ) → 0 < w → w < length t
    → (side : Side) (q : K) (p : ℕ) → p ≡ count (passes order side q) (augmented order t (parent_of t w))
    → (g : ℕ) → g ≡ tally (child_source (ordinal t w)) p (augmented order t (parent_of t w))
    → ((edge_step (passes order side q) g (augmented order t w)).0 ≡ count (passes order side q) (augmented order t w))
    × ((edge_step (passes order side q) g (augmented order t w)).1 ≤ most)

-- the own tally at the number of elements passed is the place in the list
abbrev pub OwnPlace : Type 0 → Type 0
OwnPlace K =
    (order : K → K → Ordering) → LawfulOrder order → (t : KeyTree K) (v : ℕ) → v < length t → (side : Side) (q : K)
    → tally own_source (count (passes order side q) (augmented order t v)) (augmented order t v) ≡ place order side q (keys_at t v)

-- a lookup stops in each list of the path at the place of q, and takes at most `each` comparisons for an edge besides the root search's
abbrev pub LookupWithin : Type 0 → (each : ℕ) → Type 0
LookupWithin K each =
    (order : K → K → Ordering) → LawfulOrder order → (t : KeyTree K) → ParentsSmaller t → (w : ℕ) → w < length t → (side : Side) (q : K)
    → (stops order t side q w ≡ map (λ v. (v, place order side q (keys_at t v))) (path t w))
    × (comparisons order t side q w ≤ bit_length (length (augmented order t 0)) + each * depth_of t w)
