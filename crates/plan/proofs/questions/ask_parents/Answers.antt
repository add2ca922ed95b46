use Rattle.std.proofs.Common.{◌≡◌, ◌+◌, ltb, length, [], ◌∷◌, ◌++◌, Err, sym, ap, ◌∙◌, arith}
use Rattle.std.proofs.lemmas.List.{length_push}
use Rattle.std.proofs.lemmas.Result.{err_from_is_err_and}
use Rattle.faults.specs.Refusals.{fault}
use Rattle.faults.specs.declared.Reason.TheVariants.{ParentNotSmaller}
use Rattle.register.specs.Questions.{ask}
use Rattle.plan.specs.Columns.{no_run, parent_in, parents_asked}
use Rattle.plan.specs.declared.table.ListRun.{ListRun}
use Rattle.plan.proofs.Asking.{ask_from, ask-more, ask-stop, refuse, granted-none, refused-some}
use Rattle.plan.proofs.Turning.{turn}
use Rattle.plan.proofs.questions.ask_parents.Goals as goal

pub loop-v-preserved : goal.loop-v-preserved
loop-v-preserved c =
    let ls = c.args.lists.now in
    let v = c.in-Some.v in
    let t = turn c.into_iter-v-iterator.result ls (cc) (cc) (cc) c.loop-v.yielded _ c.loop-v.yielded_by _ _ v c.in-Some.list no_run c.in-Some.is c.next.ensures.steps in
    let p = ap (λ (r : ListRun). r.parent) t.2 in
    let par = c.in-Some.list.now.parent in
    let same : ask (ltb (parent_in ls v) v) (fault ParentNotSmaller v (parent_in ls v)) ≡ ask (ltb par v) c.new.result =
    ap (λ k. ask (ltb k v) (fault ParentNotSmaller v k)) (sym p) ∙ ap (ask (ltb par v)) (sym c.new.ensures) in
    let n = length_push c.loop-v.yielded (v, c.in-Some.list) in
    let e : length (c.loop-v.yielded ++ ((v, c.in-Some.list) ∷ [])) + 1 ≡ v + 1 = omega arith in
    ap (λ k. ask_from (λ u. ask (ltb (parent_in ls u) u) (fault ParentNotSmaller u (parent_in ls u))) k (length ls)) e
    ∙ ask-more (λ u. ask (ltb (parent_in ls u) u) (fault ParentNotSmaller u (parent_in ls u))) v (length ls) t.1 (same ∙ granted-none (ask (ltb par v) c.new.result) c.in_ok-ask.ensures)
    ∙ ap (λ k. ask_from (λ u. ask (ltb (parent_in ls u) u) (fault ParentNotSmaller u (parent_in ls u))) k (length ls)) t.0
    ∙ c.loop-v.invariant

pub returns-in_err-ask : goal.returns-in_err-ask
returns-in_err-ask c =
    let ls = c.args.lists.now in
    let v = c.in-Some.v in
    let t = turn c.into_iter-v-iterator.result ls (cc) (cc) (cc) c.loop-v.yielded _ c.loop-v.yielded_by _ _ v c.in-Some.list no_run c.in-Some.is c.next.ensures.steps in
    let p = ap (λ (r : ListRun). r.parent) t.2 in
    let par = c.in-Some.list.now.parent in
    let same : ask (ltb (parent_in ls v) v) (fault ParentNotSmaller v (parent_in ls v)) ≡ ask (ltb par v) c.new.result =
    ap (λ k. ask (ltb k v) (fault ParentNotSmaller v k)) (sym p) ∙ ap (ask (ltb par v)) (sym c.new.ensures) in
    let f = c.in_err-ask.field-0.0 in
    let r = err_from_is_err_and c.from_residual.result c.from_residual.ensures.1 in
    r.1 ∙ ap (λ e. Err e) r.2
    ∙ refuse (parents_asked (length ls) (parent_in ls)) f
    (sym c.loop-v.invariant
    ∙ ap (λ k. ask_from (λ u. ask (ltb (parent_in ls u) u) (fault ParentNotSmaller u (parent_in ls u))) k (length ls)) (sym t.0)
    ∙ ask-stop (λ u. ask (ltb (parent_in ls u) u) (fault ParentNotSmaller u (parent_in ls u))) v (length ls) f t.1 (same ∙ refused-some (ask (ltb par v) c.new.result) f c.in_err-ask.ensures))
