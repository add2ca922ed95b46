use Rattle.std.proofs.Common.{rules}
use Rattle.shelves.proofs.Branches.{stored-length}
use Rattle.shelves.proofs.stored.StoredShelf.lists.Goals as goal

pub returns : goal.returns
returns g c = search (rules, stored-length)
