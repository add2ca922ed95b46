use Rattle.cascade.proofs.slots_once.Goals as goal
use Rattle.cascade.proofs.Ranging.{slots-once}

pub returns : goal.returns
returns c = slots-once
