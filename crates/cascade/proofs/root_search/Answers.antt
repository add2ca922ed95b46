use Rattle.cascade.proofs.root_search.Goals as goal
use Rattle.cascade.proofs.Bridges.{root-search}

pub returns : goal.returns
returns g c = root-search g.row.K.Denot
