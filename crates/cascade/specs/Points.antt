-- Points with slots: the keys sieved from a point table, rectangles, and the points that spans hold.
use Rattle.std.specs.Prelude.{ℕ, Bool, not, ◌&&◌, List, map, take, filter, nat_le, nat_lt}
use Rattle.std.specs.declared.cmp.Ordering.{Ordering}
use Rattle.std.specs.List.{range_with_len}
use Rattle.std.specs.Ordering.{is_le, is_lt}
use Rattle.orders.specs.Places.{count}
use Rattle.shelves.specs.Slots.{sieve_lists, sieve_parent, covers}
use Rattle.cascade.specs.Trees.{KeyTree}
use Rattle.cascade.specs.SlotTree.{Span}

-- a point without its payload: its slot and its key
abbrev pub BarePoint : Type 0 → Type 0
BarePoint K = ℕ × K

module _ {K : Type 0} where
  -- the keys sieved from a point table: list v has those of the points in its slots, in point order
  abbrev pub sieved_list : List (BarePoint K) → ℕ → ℕ × List K
  sieved_list ps v = (sieve_parent v, map (λ p. p.1) (filter (λ p. covers v p.0) ps))

  abbrev pub sieved_keys : List (BarePoint K) → KeyTree K
  sieved_keys ps = map (sieved_list ps) (range_with_len 0 sieve_lists)

  -- whether a point has a slot of a to b and a key neither below low nor above high
  abbrev pub in_rectangle : (K → K → Ordering) → (a b : ℕ) (low high : K) → BarePoint K → Bool
  in_rectangle order a b low high p = (nat_le a p.0 && nat_le p.0 b) && (not (is_lt (order p.1 low)) && is_le (order p.1 high))

  -- whether a span holds the point with number i, whose slot is s: its list covers the slot, and the point's place in it,
  -- the number of points before it in the list's slots, lies in the span
  abbrev pub holds : List (BarePoint K) → (i s : ℕ) → Span → Bool
  holds ps i s span =
      let at = count (λ p. covers span.0 p.0) (take i ps) in
      covers span.0 s && (nat_le span.1 at && nat_lt at span.2)
