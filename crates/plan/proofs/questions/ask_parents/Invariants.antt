use Rattle.std.proofs.Common.{◌≡◌, ◌+◌, ltb, length}
use Rattle.faults.specs.Refusals.{fault}
use Rattle.faults.specs.declared.Reason.TheVariants.{ParentNotSmaller}
use Rattle.register.specs.Questions.{ask}
use Rattle.plan.specs.Columns.{parent_in, parents_asked}
use Rattle.plan.proofs.Asking.{ask_from}
use Rattle.plan.proofs.questions.ask_parents.Given as goal

abbrev pub invariant-loop-v : goal.invariant-loop-v
invariant-loop-v l =
    ask_from (λ v. ask (ltb (parent_in l.lists v) v) (fault ParentNotSmaller v (parent_in l.lists v))) (length l.yielded + 1) (length l.lists)
    ≡ parents_asked (length l.lists) (parent_in l.lists)
