use Rattle.cascade.proofs.own_place.Goals as goal
use Rattle.cascade.proofs.Bridges.{own-place}

pub returns : goal.returns
returns g c = own-place g.row.K.Denot
