-- Marks as a payload.
use Rattle.std.specs.Prelude.{ℕ, Bool, not, ◌==◌, bit_and, bit_or}
use Rattle.terms.specs.declared.marks.Marks.{Marks}

-- the empty set
abbrev pub no_marks : Marks
no_marks = record { bits = 0 }

-- each bit that one of the two has
abbrev pub union_of_marks : Marks → Marks → Marks
union_of_marks x y = record { bits = bit_or x.bits y.bits }

-- is one of these bits among the marks
abbrev pub has : Marks → ℕ → Bool
has marks bit = not (bit_and marks.bits bit == 0)
