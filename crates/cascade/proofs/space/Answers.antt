use Rattle.cascade.proofs.space.Goals as goal
use Rattle.cascade.proofs.Spacing.{space}

pub returns : goal.returns
returns g c = space g.row.K.Denot
