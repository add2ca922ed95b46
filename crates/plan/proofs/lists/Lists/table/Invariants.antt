use Rattle.std.proofs.Common.{◌≡◌, ℕ, ◌<◌, length, take, sum_by}
use Rattle.register.specs.Limits.{most_lists}
use Rattle.plan.specs.Columns.{nth_run, run_by}
use Rattle.plan.specs.declared.table.ListRun.{ListRun}
use Rattle.plan.proofs.lists.Lists.table.Given as goal

abbrev pub invariant-loop-v : goal.invariant-loop-v
invariant-loop-v l =
    (length l.runs ≡ most_lists)
    × (l.start ≡ sum_by (λ (r : ListRun). r.length) (take l.v l.self.runs))
    × (l.first ≡ sum_by (λ (r : ListRun). r.count) (take l.v l.self.runs))
    × ((u : ℕ) → u < l.v → nth_run l.runs u ≡ run_by l.self.runs u)
