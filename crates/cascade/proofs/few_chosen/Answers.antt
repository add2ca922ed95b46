use Rattle.std.proofs.Common.{arith}
use Rattle.cascade.proofs.few_chosen.Goals as goal
use Rattle.cascade.proofs.Ranging.{few-chosen}

pub returns : goal.returns
returns c = few-chosen _ (omega arith)
