use Rattle.std.proofs.Common.{◌≡◌, ◌≤◌, length}
use Rattle.register.specs.Limits.{most_lists, most_entries}
use Rattle.plan.specs.Columns.{parent_in, length_in, Holds}
use Rattle.plan.proofs.Giving.{length_from, held, Alike}
use Rattle.plan.proofs.lists.Lists.sampled.Given as goal

-- lists from v on have given; those before v hold no more than all entries together
abbrev pub invariant-loop-v : goal.invariant-loop-v
invariant-loop-v l =
    (length l.runs ≡ most_lists)
    × Alike l.self.len l.self.runs l.runs
    × Holds l.self.len (length_from l.v l.self.len (parent_in l.self.runs) (length_in l.self.runs) (length_in l.runs)) (length_in l.runs)
    × (held l.v l.runs ≤ most_entries)
    × (1 ≤ l.v)
