-- Keys, entries and points of days. Their serial is 0.
use Rattle.std.specs.Prelude.{ℕ, List, [], ◌∷◌}
use Rattle.dated.specs.declared.key.DatedKey.{DatedKey}
use Rattle.orders.specs.declared.entry.Entry.{Entry}
use Rattle.shelves.specs.declared.rows.Point.{Point}
use Rattle.terms.specs.declared.marks.Marks.{Marks}

abbrev pub day_of : ℕ → DatedKey
day_of n = record { day = n; serial = 0 }

abbrev pub entry_of : (n bits : ℕ) → Entry DatedKey Marks
entry_of n bits = record { key = day_of n; payload = record { bits = bits } }

abbrev pub point_of : (slot n bits : ℕ) → Point DatedKey Marks
point_of slot n bits = record { slot = slot; key = day_of n; payload = record { bits = bits } }

-- nine points in order of their days, each with a bit of its own
abbrev pub nine : List (Point DatedKey Marks)
nine =
    point_of 5 2 1 ∷ point_of 0 3 2 ∷ point_of 63 3 4 ∷ point_of 9 3 8 ∷ point_of 9 4 16 ∷ point_of 5 4 32 ∷ point_of 5 7 64 ∷ point_of 10 7 128
    ∷ point_of 8 9 256 ∷ []
