use Rattle.cascade.proofs.few_visited.Goals as goal
use Rattle.cascade.proofs.Ranging.{few-visited}

pub returns : goal.returns
returns c = few-visited
