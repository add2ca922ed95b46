use Rattle.std.proofs.Common.{arith}
use Rattle.std.proofs.lemmas.Grind.{common_steps}
use Rattle.std.proofs.lemmas.Option.{gets}
use Rattle.shelves.proofs.Branches.{stored-parents}
use Rattle.shelves.proofs.stored.StoredShelf.parent.Goals as goal

pub returns : goal.returns
returns g c = grind (arith, common_steps, gets, stored-parents)
