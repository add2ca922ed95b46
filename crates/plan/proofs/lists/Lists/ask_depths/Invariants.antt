use Rattle.std.proofs.Common.{◌≡◌, ℕ, ◌+◌, ◌<◌, ◌≤◌, leb, length}
use Rattle.faults.specs.Refusals.{fault}
use Rattle.faults.specs.declared.Reason.TheVariants.{TooDeep}
use Rattle.register.specs.Limits.{most_lists, most_edges}
use Rattle.register.specs.Questions.{ask}
use Rattle.plan.specs.Columns.{parent_in, Depths, most_asked}
use Rattle.plan.proofs.Asking.{ask_from}
use Rattle.plan.proofs.Filling.{cell}
use Rattle.plan.proofs.lists.Lists.ask_depths.Given as goal

abbrev pub invariant-loop-v : goal.invariant-loop-v
invariant-loop-v l =
    (length l.depths ≡ most_lists)
    × ((u : ℕ) → u < most_lists → cell l.depths u ≤ most_edges)
    × ((depth : ℕ → ℕ) → Depths l.self.len (parent_in l.self.runs) depth
    → ((u : ℕ) → u < length l.yielded + 1 → cell l.depths u ≡ depth u)
    × (ask_from (λ v. ask (leb (depth v) most_edges) (fault TooDeep v 0)) (length l.yielded + 1) l.self.len ≡ most_asked TooDeep most_edges l.self.len depth))
