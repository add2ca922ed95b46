use Rattle.std.proofs.Common.{ℕ, Err, sym, ap, ◌∙◌, arith}
use Rattle.std.specs.List.{range_with_len}
use Rattle.std.specs.Option.{option_map}
use Rattle.std.proofs.lemmas.Result.{err_from_is_err_and}
use Rattle.faults.specs.Refusals.{fault}
use Rattle.faults.specs.declared.Reason.TheVariants.{KeyOutOfOrder}
use Rattle.cascade.specs.Trees.{keys_at}
use Rattle.layout.specs.KeyTrees.{key_tree}
use Rattle.register.specs.Questions.{ask_each, descent, order_fault}
use Rattle.plan.proofs.Asking.{ask-all, ask-more, ask-stop, refuse, granted-none, refused-some}
use Rattle.plan.proofs.Reading.{length-tree}
use Rattle.plan.proofs.questions.ask_order.Goals as goal

pub loop-v-init : goal.loop-v-init
loop-v-init g c =
    let bs = g.S.Shelf.meaning c.args.shelf.now in
    let o = g.S.Key.KeyOrder.order in
    ask-all (λ v. option_map (λ p. fault KeyOutOfOrder v p) (descent o (keys_at (key_tree bs) v))) c.args.len
    ∙ ap (λ (n : ℕ). ask_each (λ v. option_map (λ p. fault KeyOutOfOrder v p) (descent o (keys_at (key_tree bs) v))) (range_with_len 0 n)) (c.requires ∙ sym (length-tree bs))

pub returns-in_err-ask_list_order : goal.returns-in_err-ask_list_order
returns-in_err-ask_list_order g c =
    let bs = g.S.Shelf.meaning c.args.shelf.now in
    let o = g.S.Key.KeyOrder.order in
    let v = c.loop-v.v in
    let f = c.in_err-ask_list_order.field-0.0 in
    let p = err_from_is_err_and c.from_residual.result c.from_residual.ensures.1 in
    let no = refused-some (option_map (λ p. fault KeyOutOfOrder v p) (descent o (keys_at (key_tree bs) v))) f c.in_err-ask_list_order.ensures in
    p.1 ∙ ap (λ e. Err e) p.2
    ∙ refuse (order_fault o (key_tree bs)) f
    (sym c.loop-v.invariant ∙ ask-stop (λ u. option_map (λ p. fault KeyOutOfOrder u p) (descent o (keys_at (key_tree bs) u))) v c.args.len f (omega arith) no)

pub loop-v-preserved : goal.loop-v-preserved
loop-v-preserved g c =
    let bs = g.S.Shelf.meaning c.args.shelf.now in
    let o = g.S.Key.KeyOrder.order in
    let v = c.loop-v.v in
    let ok = granted-none (option_map (λ p. fault KeyOutOfOrder v p) (descent o (keys_at (key_tree bs) v))) c.in_ok-ask_list_order.ensures in
    ask-more (λ u. option_map (λ p. fault KeyOutOfOrder u p) (descent o (keys_at (key_tree bs) u))) v c.args.len (omega arith) ok ∙ c.loop-v.invariant
