use Rattle.std.proofs.Common.{◌≡◌, map}
use Rattle.std.specs.List.{range_with_len}
use Rattle.register.specs.Answers.{filled_up}
use Rattle.walking.specs.Between.{span_at}
use Rattle.walking.specs.Reached.{no_span}
use Rattle.walking.proofs.offer.spans_between.Given as goal

abbrev pub invariant-loop-i : goal.invariant-loop-i
invariant-loop-i l = l.spans ≡ filled_up 9 no_span (map (span_at l.low l.high) (range_with_len 0 l.i))
