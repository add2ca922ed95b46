-- How points are told apart by their slots.
use Rattle.std.specs.Prelude.{ℕ, ◌+◌, Bool, false, cond, List, [], ◌∷◌, map, Some, None, filter, Option, nat_le, nat_lt}
use Rattle.orders.specs.declared.entry.Entry.{Entry}
use Rattle.shelves.specs.Slots.{slot_count}
use Rattle.shelves.specs.Tables.{entry_of}
use Rattle.shelves.specs.declared.rows.Point.{Point}
use Rattle.shelves.specs.declared.slots.Slots.{Slots}

-- whether s is one of the slots
abbrev pub in_slots : Slots → ℕ → Bool
in_slots slots s = cond (nat_le slots.first s) (nat_lt s slots.end) false

module _ {K P : Type 0} where
  -- the points in the slots, in point order
  abbrev pub sifted_in : Slots → List (Point K P) → List (Entry K P)
  sifted_in slots ps = map entry_of (filter (λ p. in_slots slots p.slot) ps)

  -- the number of the first point whose slot is above the limit, where the points are numbered from n on
  abbrev pub first_above : ℕ → List (Point K P) → Option ℕ
  first_above n [] = None
  first_above n (p ∷ ps) = cond (nat_lt p.slot slot_count) (first_above (n + 1) ps) (Some n)
