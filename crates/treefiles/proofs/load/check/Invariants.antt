use Rattle.std.proofs.Common.{◌-◌, length}
use Rattle.treefiles.proofs.Runs.{Run}
use Rattle.treefiles.proofs.load.check.Given as goal

abbrev pub invariant-loop : goal.invariant-loop
invariant-loop l = Run l.file l.loader

abbrev pub decreases-loop : goal.decreases-loop
decreases-loop l = length l.file - l.loader.at
