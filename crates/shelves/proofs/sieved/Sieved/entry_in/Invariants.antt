use Rattle.std.proofs.Common.{◌≡◌, drop}
use Rattle.std.specs.List.{slice_get}
use Rattle.shelves.specs.Sieving.{sifted_in}
use Rattle.shelves.proofs.sieved.Sieved.entry_in.Given as goal

abbrev pub invariant-loop-p : goal.invariant-loop-p
invariant-loop-p g l = slice_get (sifted_in l.slots (drop l.p-index l.self.points.now)) l.before ≡ slice_get (sifted_in l.slots l.self.points.now) l.place
