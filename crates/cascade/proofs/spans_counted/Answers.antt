use Rattle.cascade.proofs.spans_counted.Goals as goal
use Rattle.cascade.proofs.Ranging.{spans-counted}

pub returns : goal.returns
returns g c = spans-counted g.row.K.Denot
