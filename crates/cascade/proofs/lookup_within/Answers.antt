use Rattle.cascade.proofs.lookup_within.Goals as goal
use Rattle.cascade.proofs.Walking.{lookup-within}

pub returns : goal.returns
returns g c = lookup-within g.row.K.Denot
