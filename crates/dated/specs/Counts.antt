-- Words as a payload.
use Rattle.std.specs.Prelude.{ℕ, ◌+◌, ◌-◌, ◌^◌, ◌<◌, min}
use Rattle.std.proofs.Common.{lit<, arith}
use Rattle.dated.specs.declared.words.Words.{Words}

pub fits_at_top : (n : ℕ) → min n (2 ^ 32 - 1) < 2 ^ 32
fits_at_top n = omega arith

abbrev pub no_words : Words
no_words = record { number = 0; fits = lit< tt }

-- the sum, or the largest number where the sum is larger
abbrev pub sum_of_words : Words → Words → Words
sum_of_words x y = record { number = min (x.number + y.number) (2 ^ 32 - 1); fits = fits_at_top (x.number + y.number) }
