use Rattle.std.proofs.Common.{arith}
use Rattle.cascade.proofs.range_within.Goals as goal
use Rattle.cascade.proofs.Ranging.{range-within}

pub returns : goal.returns
returns g c = range-within g.row.K.Denot _ (omega arith)
