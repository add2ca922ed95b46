use Rattle.std.proofs.Common.{◌≡◌, ℕ, ◌<◌, ◌≤◌, length}
use Rattle.layout.specs.KeyTrees.{key_tree}
use Rattle.register.specs.Limits.{most_lists}
use Rattle.plan.specs.Columns.{nth_run, run_counted}
use Rattle.plan.proofs.lists.Lists.counted.Given as goal

abbrev pub invariant-loop-v : goal.invariant-loop-v
invariant-loop-v g l =
    (length l.run-items ≡ most_lists)
    × ((u : ℕ) → u < l.v → nth_run l.run-items u ≡ run_counted (key_tree (g.S.Shelf.meaning l.shelf)) (nth_run l.self.runs u) u)
    × ((u : ℕ) → l.v ≤ u → nth_run l.run-items u ≡ nth_run l.self.runs u)
