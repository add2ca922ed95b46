use Rattle.std.proofs.Common.{◌≡◌}
use Rattle.std.specs.Option.{option_map}
use Rattle.faults.specs.Refusals.{fault}
use Rattle.faults.specs.declared.Reason.TheVariants.{KeyOutOfOrder}
use Rattle.cascade.specs.Trees.{keys_at}
use Rattle.layout.specs.KeyTrees.{key_tree}
use Rattle.register.specs.Questions.{descent, order_fault}
use Rattle.plan.proofs.Asking.{ask_from}
use Rattle.plan.proofs.questions.ask_order.Given as goal

abbrev pub invariant-loop-v : goal.invariant-loop-v
invariant-loop-v g l =
    ask_from (λ v. option_map (λ p. fault KeyOutOfOrder v p) (descent g.S.Key.KeyOrder.order (keys_at (key_tree (g.S.Shelf.meaning l.shelf)) v))) l.v l.len
    ≡ order_fault g.S.Key.KeyOrder.order (key_tree (g.S.Shelf.meaning l.shelf))
