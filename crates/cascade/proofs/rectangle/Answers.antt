use Rattle.cascade.proofs.rectangle.Goals as goal
use Rattle.cascade.proofs.Pointing.{rectangle}

pub returns : goal.returns
returns g c = rectangle g.row.K.Denot
