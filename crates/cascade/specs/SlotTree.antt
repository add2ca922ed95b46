-- Which lists of the sieve's tree a range of slots visits and chooses, and the range over them.
use Rattle.std.specs.Prelude.{◌≡◌, ℕ, zero, suc, ◌+◌, ◌<◌, Bool, true, not, ◌&&◌, List, map, length, sum_by, filter, nat_le, nat_lt}
use Rattle.std.specs.declared.cmp.Ordering.{Ordering}
use Rattle.std.specs.List.{range_with_len}
use Rattle.orders.specs.declared.side.Side.TheVariants.{Low, High}
use Rattle.orders.specs.Places.{place}
use Rattle.shelves.specs.Slots.{sieve_lists, sieve_parent, sieve_depth, width_of, first_slot}
use Rattle.cascade.specs.Trees.{KeyTree, parent_of, keys_at}
use Rattle.cascade.specs.Walks.{arrival, walked_place}

module _ (a b : ℕ) where
  -- some slot of list v is one of a to b
  abbrev pub meets : ℕ → Bool
  meets v = nat_le (first_slot v) b && nat_lt a (first_slot v + width_of v)

  -- each slot of list v is one of a to b
  abbrev pub inside : ℕ → Bool
  inside v = nat_le a (first_slot v) && nat_le (first_slot v + width_of v) (suc b)

  -- none of the d lists above list v is chosen: not its parent, which would have to be inside with none above it chosen,
  -- and none above its parent
  abbrev pub none_above : (d v : ℕ) → Bool
  none_above zero v = true
  none_above (suc d) v = let higher = none_above d (sieve_parent v) in not (higher && inside (sieve_parent v)) && higher

  abbrev pub none_above_chosen : ℕ → Bool
  none_above_chosen v = none_above (sieve_depth v) v

  abbrev pub visited : ℕ → Bool
  visited v = none_above_chosen v && meets v

  abbrev pub chosen : ℕ → Bool
  chosen v = none_above_chosen v && inside v

  -- in rising number
  abbrev pub visited_lists : List ℕ
  visited_lists = filter visited (range_with_len 0 sieve_lists)

  abbrev pub chosen_lists : List ℕ
  chosen_lists = filter chosen (range_with_len 0 sieve_lists)

-- a tree that has the sieve's lists and parents
pub record SieveShaped {K : Type 0} (t : KeyTree K) : Type 0 where
  pub lists : length t ≡ sieve_lists
  pub parents : (v : ℕ) → 0 < v → v < sieve_lists → parent_of t v ≡ sieve_parent v

-- a list, and the places in it from which on and before which its entries are meant
abbrev pub Span : Type 0
Span = ℕ × ℕ × ℕ

module _ {K : Type 0} (order : K → K → Ordering) (t : KeyTree K) (a b : ℕ) (low high : K) where
  -- each chosen list with the low-side place of low and the high-side place of high
  abbrev pub spans : List Span
  spans = map (λ v. (v, walked_place order t Low low v, walked_place order t High high v)) (chosen_lists a b)

  -- the same by counting the keys that are passed
  abbrev pub counted_spans : List Span
  counted_spans = map (λ v. (v, place order Low low (keys_at t v), place order High high (keys_at t v))) (chosen_lists a b)

  -- the comparisons of both sides over all visited lists
  abbrev pub range_comparisons : ℕ
  range_comparisons = sum_by (λ v. (arrival order t Low low v).1 + (arrival order t High high v).1) (visited_lists a b)
