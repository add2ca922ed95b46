use Rattle.index.specs.Held.{machine_of}
use Rattle.index.proofs.Running.{Inv}
use Rattle.index.proofs.Index.run.Given as goal

abbrev pub invariant-loop-i : goal.invariant-loop-i
invariant-loop-i g l =
    Inv g.K.KeyOrder.order g.P.Payload.neutral g.P.Payload.joined g.S.Shelf.meaning (machine_of l.initial.self) l.requests l.initial.outcomes l.outcomes l.i (machine_of l.self)
