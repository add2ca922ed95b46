use Rattle.std.proofs.Common.{◌≡◌, ℕ, ◌+◌, ◌<◌, ltb, length}
use Rattle.faults.specs.Refusals.{fault}
use Rattle.faults.specs.declared.Reason.TheVariants.{TooManyChildren}
use Rattle.register.specs.Limits.{most_lists, most_children}
use Rattle.register.specs.Questions.{ask}
use Rattle.plan.specs.Columns.{nth_run, parent_in, Holds, children_before}
use Rattle.plan.specs.Lists.{before, children_asked}
use Rattle.plan.proofs.Asking.{ask_from}
use Rattle.plan.proofs.Filling.{cell}
use Rattle.plan.proofs.lists.Lists.numbered.Given as goal

abbrev pub invariant-loop-v : goal.invariant-loop-v
invariant-loop-v l =
    (length l.runs ≡ most_lists)
    × (length l.children ≡ most_lists)
    × (nth_run l.runs 0 ≡ nth_run l.self.runs 0)
    × ((u : ℕ) → 0 < u → u < length l.yielded + 1 → nth_run l.runs u ≡ record (nth_run l.self.runs u) { ordinal = before l.self u })
    × ((u : ℕ) → length l.yielded < u → nth_run l.runs u ≡ nth_run l.self.runs u)
    × Holds most_lists (children_before (parent_in l.self.runs) (length l.yielded + 1)) (cell l.children)
    × (ask_from (λ v. ask (ltb (before l.self v) most_children) (fault TooManyChildren v 0)) (length l.yielded + 1) l.self.len ≡ children_asked l.self.len (before l.self))
