use Rattle.std.proofs.Common.{Some, None, length, ap}
use Rattle.shelves.proofs.Points.{asked_of}
use Rattle.shelves.proofs.sieved.SievedShelf.count.Goals as goal

pub returns-in-Some : goal.returns-in-Some
returns-in-Some g c =
    let e = ap length (asked_of c.args.self.now.points.now c.args.list (Some c.in-Some.slots) c.in-Some.ensures) in
    cc

pub returns-in-None : goal.returns-in-None
returns-in-None g c =
    let e = ap length (asked_of c.args.self.now.points.now c.args.list None c.in-None.ensures) in
    cc
