use Rattle.std.proofs.Common.{◌≡◌, drop}
use Rattle.shelves.specs.Sieving.{first_above}
use Rattle.shelves.proofs.sieved.Sieved.new.Given as goal

abbrev pub invariant-loop-i : goal.invariant-loop-i
invariant-loop-i g l = first_above l.i (drop l.i l.points) ≡ first_above 0 l.points
