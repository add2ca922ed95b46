use Rattle.cascade.proofs.rectangle_of_lists.Goals as goal
use Rattle.cascade.proofs.Pointing.{rectangle-of-lists}

pub returns : goal.returns
returns g c = rectangle-of-lists g.row.K.Denot
