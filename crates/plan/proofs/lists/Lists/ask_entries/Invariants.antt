use Rattle.std.proofs.Common.{◌≡◌, suc, ◌≤◌, leb, take, sum_by}
use Rattle.faults.specs.Refusals.{fault}
use Rattle.faults.specs.declared.Reason.TheVariants.{TooManyEntries}
use Rattle.register.specs.Limits.{most_entries}
use Rattle.register.specs.Questions.{ask}
use Rattle.plan.specs.Columns.{entries_asked}
use Rattle.plan.specs.declared.table.ListRun.{ListRun}
use Rattle.plan.proofs.Asking.{ask_from}
use Rattle.plan.proofs.lists.Lists.ask_entries.Given as goal

abbrev pub invariant-loop-v : goal.invariant-loop-v
invariant-loop-v l =
    (l.entries ≡ sum_by (λ (r : ListRun). r.count) (take l.v l.self.runs))
    × (l.entries ≤ most_entries)
    × (ask_from (λ v. ask (leb (sum_by (λ (r : ListRun). r.count) (take (suc v) l.self.runs)) most_entries) (fault TooManyEntries v 0)) l.v l.self.len ≡ entries_asked l.self.len l.self.runs)
