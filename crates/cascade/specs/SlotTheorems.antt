-- What holds of the sieve's tree and of ranges over it.
use Rattle.std.specs.Prelude.{◌≡◌, ℕ, suc, ◌+◌, ◌*◌, ◌<◌, ◌≤◌, true, not, ◌&&◌, List, map, length, Some, nat_le}
use Rattle.std.specs.declared.cmp.Ordering.{Ordering}
use Rattle.std.specs.List.{slice_get}
use Rattle.orders.specs.Laws.{LawfulOrder}
use Rattle.orders.specs.Numbers.{bit_length}
use Rattle.orders.specs.Places.{bit, count, in_order}
use Rattle.shelves.specs.Slots.{sieve_lists, slot_count, sieve_parent, covers}
use Rattle.cascade.specs.Trees.{KeyTree, keys_at, augmented}
use Rattle.cascade.specs.Points.{BarePoint, sieved_keys, in_rectangle, holds}
use Rattle.cascade.specs.SlotTree.{meets, inside, visited, chosen, visited_lists, chosen_lists, SieveShaped, spans, counted_spans, range_comparisons}

-- at most `most` lists are chosen
abbrev pub FewChosen : (most : ℕ) → Type 0
FewChosen most = (a b : ℕ) → a ≤ b → b < slot_count → length (chosen_lists a b) ≤ most

-- the root and at most `most` lists besides are visited
abbrev pub FewVisited : (most : ℕ) → Type 0
FewVisited most = (a b : ℕ) → a ≤ b → b < slot_count → (visited a b 0 ≡ true) × (length (visited_lists a b) ≤ suc most)

-- each slot of the range is in exactly one chosen list, and no other slot in any
abbrev pub SlotsOnce : Type 0
SlotsOnce = (a b : ℕ) → a ≤ b → b < slot_count → (s : ℕ) → count (λ v. covers v s) (chosen_lists a b) ≡ bit (nat_le a s && nat_le s b)

-- parent before child: a list is visited where its parent is, which is not inside, and its slots meet the range;
-- a visited list is chosen where it is inside
abbrev pub FromParent : Type 0
FromParent =
    (a b v : ℕ) → v < sieve_lists
    → (0 < v → visited a b v ≡ (visited a b (sieve_parent v) && (not (inside a b (sieve_parent v)) && meets a b v)))
    × (chosen a b v ≡ (visited a b v && inside a b v))

-- the comparisons of a range are at most twice the bit length of |A(0)| and `more`
abbrev pub RangeWithin : Type 0 → (more : ℕ) → Type 0
RangeWithin K more =
    (order : K → K → Ordering) → LawfulOrder order → (t : KeyTree K) (a b : ℕ) → a ≤ b → b < slot_count → (low high : K)
    → range_comparisons order t a b low high ≤ 2 * bit_length (length (augmented order t 0)) + more

-- the spans that a range finds are those of the places by count
abbrev pub SpansCounted : Type 0 → Type 0
SpansCounted K =
    (order : K → K → Ordering) → LawfulOrder order → (t : KeyTree K) → SieveShaped t → (a b : ℕ) (low high : K)
    → spans order t a b low high ≡ counted_spans order t a b low high

-- of points in order of their keys, each that lies in the rectangle is in exactly one span, and no other point in any
abbrev pub Rectangle : Type 0 → Type 0
Rectangle K =
    (order : K → K → Ordering) → LawfulOrder order → (ps : List (BarePoint K)) → in_order order (map (λ p. p.1) ps) ≡ true
    → (a b : ℕ) → a ≤ b → b < slot_count → (low high : K) (i : ℕ) (p : BarePoint K) → slice_get ps i ≡ Some p
    → count (holds ps i p.0) (spans order (sieved_keys ps) a b low high) ≡ bit (in_rectangle order a b low high p)

-- the same of points in any order whose sieved lists are in order
abbrev pub RectangleOfLists : Type 0 → Type 0
RectangleOfLists K =
    (order : K → K → Ordering) → LawfulOrder order → (ps : List (BarePoint K))
    → ((v : ℕ) → v < sieve_lists → in_order order (keys_at (sieved_keys ps) v) ≡ true)
    → (a b : ℕ) → a ≤ b → b < slot_count → (low high : K) (i : ℕ) (p : BarePoint K) → slice_get ps i ≡ Some p
    → count (holds ps i p.0) (spans order (sieved_keys ps) a b low high) ≡ bit (in_rectangle order a b low high p)
