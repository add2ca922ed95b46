use Rattle.std.proofs.Common.{arith}
use Rattle.std.proofs.lemmas.Grind.{common_steps}
use Rattle.shelves.proofs.Points.{sieved-at, sieved-past}
use Rattle.shelves.proofs.sieved.SievedShelf.parent.Goals as goal

pub returns : goal.returns
returns g c = grind (arith, common_steps, sieved-at, sieved-past)
