-- Word counts of one number are equal, since a fact `m < n` has one proof at most.
use Rattle.std.specs.Prelude.{◌≡◌, ◌^◌, ◌<◌}
use mathlib.Core.HLevel.{is_prop→PathP}
use Rattle.std.proofs.Math.Bridge.{le_prop}
use Rattle.dated.specs.declared.words.Words.{Words}

pub alike : (x y : Words) → x.number ≡ y.number → x ≡ y
alike x y e = λ i. record { number = e i; fits = is_prop→PathP (λ j. e j < 2 ^ 32) (λ j. le_prop) x.fits y.fits i }
