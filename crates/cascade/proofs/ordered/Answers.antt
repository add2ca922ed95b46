use Rattle.cascade.proofs.ordered.Goals as goal
use Rattle.cascade.proofs.Bridges.{ordered}

pub returns : goal.returns
returns g c = ordered g.row.K.Denot
