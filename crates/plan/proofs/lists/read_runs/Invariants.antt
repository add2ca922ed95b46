use Rattle.std.proofs.Common.{◌≡◌, ℕ, ◌<◌, length}
use Rattle.layout.specs.KeyTrees.{key_tree}
use Rattle.register.specs.Limits.{most_lists}
use Rattle.plan.specs.Columns.{nth_run, run_read}
use Rattle.plan.proofs.lists.read_runs.Given as goal

abbrev pub invariant-loop-v : goal.invariant-loop-v
invariant-loop-v g l = (length l.run-items ≡ most_lists) × ((u : ℕ) → u < l.v → nth_run l.run-items u ≡ run_read (key_tree (g.S.Shelf.meaning l.shelf)) u)
