-- What a refusal of a key says of its field.
use Rattle.std.specs.Prelude.{ℕ, List, [], cond, codes, ◌==◌}
use Rattle.faults.specs.Sentences.{one}

-- the field at a byte, and nothing where there is none
abbrev pub in_field : ℕ → List ℕ
in_field at = cond (at == 0) [] (one (codes ", in the field at byte ") at)
