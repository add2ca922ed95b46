use Rattle.std.proofs.Common.{◌≡◌, drop}
use Rattle.cascade.specs.Trees.{keys_at}
use Rattle.layout.specs.KeyTrees.{key_tree}
use Rattle.register.specs.Questions.{descent}
use Rattle.plan.proofs.Descents.{descent_from}
use Rattle.plan.proofs.questions.ask_list_order.Given as goal

abbrev pub invariant-loop-place : goal.invariant-loop-place
invariant-loop-place g l =
    descent_from g.S.Key.KeyOrder.order l.place l.before (drop l.place (keys_at (key_tree (g.S.Shelf.meaning l.shelf)) l.list))
    ≡ descent g.S.Key.KeyOrder.order (keys_at (key_tree (g.S.Shelf.meaning l.shelf)) l.list)
