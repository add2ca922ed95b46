use Rattle.cascade.proofs.lengths.Goals as goal
use Rattle.cascade.proofs.Augmenting.{lengths}

pub returns : goal.returns
returns g c = lengths g.row.K.Denot
