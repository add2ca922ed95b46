use Rattle.std.proofs.Common.{rules}
use Rattle.shelves.proofs.Points.{sieved-length}
use Rattle.shelves.proofs.sieved.SievedShelf.lists.Goals as goal

pub returns : goal.returns
returns g c = search (rules, sieved-length)
