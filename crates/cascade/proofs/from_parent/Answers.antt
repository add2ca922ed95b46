use Rattle.cascade.proofs.from_parent.Goals as goal
use Rattle.cascade.proofs.Nodes.{from-parent}

pub returns : goal.returns
returns c = from-parent
