use Rattle.std.proofs.Common.{arith}
use Rattle.cascade.proofs.edge_within.Goals as goal
use Rattle.cascade.proofs.Bridges.{edge-within}

pub returns : goal.returns
returns g c = edge-within g.row.K.Denot _ (omega arith)
