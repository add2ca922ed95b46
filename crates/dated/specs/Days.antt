-- The order of dated keys.
use Rattle.std.specs.Prelude.{ℕ, cond, nat_lt}
use Rattle.std.specs.declared.cmp.Ordering.TheVariants.{Less, Equal, Greater}
use Rattle.std.specs.declared.cmp.Ordering.{Ordering}
use Rattle.std.specs.Ordering.{ordering_then}
use Rattle.dated.specs.declared.key.DatedKey.{DatedKey}

-- numbers, the smaller below
abbrev pub number_order : ℕ → ℕ → Ordering
number_order x y = cond (nat_lt x y) Less (cond (nat_lt y x) Greater Equal)

-- the day is compared first, then the serial
abbrev pub day_order : DatedKey → DatedKey → Ordering
day_order a b = ordering_then (number_order a.day b.day) (number_order a.serial b.serial)
