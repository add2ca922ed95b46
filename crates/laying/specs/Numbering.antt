-- The numbers of sources.
use Rattle.std.specs.Prelude.{ℕ, zero, suc}
use Rattle.laying.specs.declared.sources.Source.{Source}
use Rattle.laying.specs.declared.sources.Source.TheVariants.{Own, Child}

-- 0 for the own keys, and j + 1 for the child with ordinal j
abbrev pub number_of : Source → ℕ
number_of Own = zero
number_of (Child j) = suc j

abbrev pub numbered : {K : Type 0} → Source × K → ℕ × K
numbered head = (number_of head.0, head.1)
