use Rattle.cascade.proofs.defined.Goals as goal
use Rattle.cascade.proofs.Words.{defined}

pub returns : goal.returns
returns g c = defined g.row.K.Denot
