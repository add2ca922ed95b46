use Rattle.std.proofs.Common.{◌≡◌}
use lib.Seq.{paste}
use Rattle.laying.specs.Laying.{payloads_at}
use Rattle.laying.proofs.payloads.lay_list_payloads.Given as goal

abbrev pub invariant-loop-place : goal.invariant-loop-place
invariant-loop-place g l = l.payloads ≡ paste l.initial.payloads 0 (payloads_at (g.S.Shelf.meaning l.shelf) l.list) l.place
