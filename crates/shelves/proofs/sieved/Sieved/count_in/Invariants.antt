use Rattle.std.proofs.Common.{◌≡◌, ◌+◌, ◌≤◌, length, drop}
use Rattle.shelves.specs.Sieving.{sifted_in}
use Rattle.shelves.proofs.sieved.Sieved.count_in.Given as goal

abbrev pub invariant-loop-p : goal.invariant-loop-p
invariant-loop-p g l = (l.n ≤ l.p-index) × (l.n + length (sifted_in l.slots (drop l.p-index l.self.points.now)) ≡ length (sifted_in l.slots l.self.points.now))
