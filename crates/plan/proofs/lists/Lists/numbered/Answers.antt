use Rattle.std.proofs.Common.{◌≡◌, ℕ, ◌+◌, ltb, length, [], ◌∷◌, ◌++◌, set, Err, sym, refl, ap, ◌∙◌, subst, inl, inr, arith, length-set}
use Rattle.std.proofs.lemmas.Bool.{cases_eq}
use Rattle.std.proofs.lemmas.List.{length_push, get_or-set_same, get_or-set_other}
use Rattle.std.proofs.lemmas.Result.{err_from_is_err_and}
use Rattle.faults.specs.Refusals.{fault}
use Rattle.faults.specs.declared.Reason.TheVariants.{TooManyChildren}
use Rattle.register.specs.Limits.{most_lists, most_children}
use Rattle.register.specs.Questions.{ask}
use Rattle.plan.specs.Columns.{no_run, nth_run, parent_in, Holds, children_before}
use Rattle.plan.specs.Lists.{before, Numbered}
use Rattle.plan.specs.declared.table.ListRun.{ListRun}
use Rattle.plan.proofs.Asking.{ask_from, ask-but_first, ask-more, ask-stop, granted-none, refused-some}
use Rattle.plan.proofs.Filling.{cell, children-none, children-counted}
use Rattle.plan.proofs.Turning.{turn-taken}
use Rattle.plan.proofs.lists.Lists.numbered.Goals as goal

pub loop-v-init : goal.loop-v-init
loop-v-init c =
    let s = c.args.self.now in (
      omega arith,
      refl,
      refl,
      λ u z h. absurd (omega arith),
      λ u h. refl,
      children-none (parent_in s.runs),
      ask-but_first (λ v. ask (ltb (before s v) most_children) (fault TooManyChildren v 0)) s.len s.some refl,
    )

pub offset_bounds-children-list : goal.offset_bounds-children-list
offset_bounds-children-list c =
    let s = c.args.self.now in
    let v = c.in-Some.v in
    let t = turn-taken c.into_iter-v-iterator.result s.len s.runs (omega arith) (cc) (cc) (cc) c.loop-v.yielded _ c.loop-v.yielded_by _ _ v c.in-Some.list no_run c.in-Some.is c.next.ensures.steps in
    let p = ap (λ (r : ListRun). r.parent) t.2 in
    let l = s.smaller v (omega arith) t.1 in
    let f = s.few in
    record { fits = omega arith }

pub bounds-children-list : goal.bounds-children-list
bounds-children-list c =
    let s = c.args.self.now in
    let v = c.in-Some.v in
    let t = turn-taken c.into_iter-v-iterator.result s.len s.runs (omega arith) (cc) (cc) (cc) c.loop-v.yielded _ c.loop-v.yielded_by _ _ v c.in-Some.list no_run c.in-Some.is c.next.ensures.steps in
    let p = ap (λ (r : ListRun). r.parent) t.2 in
    let l = s.smaller v (omega arith) t.1 in
    let f = s.few in
    omega arith

pub offset_bounds-children-list-in-loop-v : goal.offset_bounds-children-list-in-loop-v
offset_bounds-children-list-in-loop-v c =
    let s = c.args.self.now in
    let v = c.in-Some.v in
    let t = turn-taken c.into_iter-v-iterator.result s.len s.runs (omega arith) (cc) (cc) (cc) c.loop-v.yielded _ c.loop-v.yielded_by _ _ v c.in-Some.list no_run c.in-Some.is c.next.ensures.steps in
    let p = ap (λ (r : ListRun). r.parent) t.2 in
    let l = s.smaller v (omega arith) t.1 in
    let f = s.few in
    record { fits = omega arith }

pub bounds-children-list-in-loop-v : goal.bounds-children-list-in-loop-v
bounds-children-list-in-loop-v c =
    let s = c.args.self.now in
    let v = c.in-Some.v in
    let t = turn-taken c.into_iter-v-iterator.result s.len s.runs (omega arith) (cc) (cc) (cc) c.loop-v.yielded _ c.loop-v.yielded_by _ _ v c.in-Some.list no_run c.in-Some.is c.next.ensures.steps in
    let p = ap (λ (r : ListRun). r.parent) t.2 in
    let l = s.smaller v (omega arith) t.1 in
    let f = s.few in
    omega arith

pub bounds-children-list-in-loop-v-2 : goal.bounds-children-list-in-loop-v-2
bounds-children-list-in-loop-v-2 c =
    let s = c.args.self.now in
    let v = c.in-Some.v in
    let t = turn-taken c.into_iter-v-iterator.result s.len s.runs (omega arith) (cc) (cc) (cc) c.loop-v.yielded _ c.loop-v.yielded_by _ _ v c.in-Some.list no_run c.in-Some.is c.next.ensures.steps in
    let p = ap (λ (r : ListRun). r.parent) t.2 in
    let l = s.smaller v (omega arith) t.1 in
    let f = s.few in
    omega arith

pub returns-in_err-ask : goal.returns-in_err-ask
returns-in_err-ask c =
    let s = c.args.self.now in
    let v = c.in-Some.v in
    let t = turn-taken c.into_iter-v-iterator.result s.len s.runs (omega arith) (cc) (cc) (cc) c.loop-v.yielded _ c.loop-v.yielded_by _ _ v c.in-Some.list no_run c.in-Some.is c.next.ensures.steps in
    let p = ap (λ (r : ListRun). r.parent) t.2 in
    let l = s.smaller v (omega arith) t.1 in
    let few = s.few in
    let f = c.in_err-ask.field-0.0 in
    let r = err_from_is_err_and c.from_residual.result c.from_residual.ensures.1 in
    let ord : cell c.loop-v.children c.in-Some.list.now.parent ≡ before s v =
    c.loop-v.invariant.5 c.in-Some.list.now.parent (omega arith) ∙ ap (λ k. children_before (parent_in s.runs) k c.in-Some.list.now.parent) (sym t.0) ∙ ap (children_before (parent_in s.runs) v) p in
    let same : ask (ltb (before s v) most_children) (fault TooManyChildren v 0) ≡ ask (ltb (cell c.loop-v.children c.in-Some.list.now.parent) most_children) c.new.result =
    ap (λ k. ask (ltb k most_children) (fault TooManyChildren v 0)) (sym ord) ∙ ap (ask (ltb (cell c.loop-v.children c.in-Some.list.now.parent) most_children)) (sym c.new.ensures) in
    subst (Numbered s) (sym (r.1 ∙ ap (λ e. Err e) r.2))
    (sym c.loop-v.invariant.6
    ∙ ap (λ k. ask_from (λ u. ask (ltb (before s u) most_children) (fault TooManyChildren u 0)) k s.len) (sym t.0)
    ∙ ask-stop (λ u. ask (ltb (before s u) most_children) (fault TooManyChildren u 0)) v s.len f t.1 (same ∙ refused-some (ask (ltb (cell c.loop-v.children c.in-Some.list.now.parent) most_children) c.new.result) f c.in_err-ask.ensures))

pub loop-v-preserved : goal.loop-v-preserved
loop-v-preserved c =
    let s = c.args.self.now in
    let v = c.in-Some.v in
    let rs = c.loop-v.runs in
    let cs = c.loop-v.children in
    let inv = c.loop-v.invariant in
    let t = turn-taken c.into_iter-v-iterator.result s.len s.runs (omega arith) (cc) (cc) (cc) c.loop-v.yielded _ c.loop-v.yielded_by _ _ v c.in-Some.list no_run c.in-Some.is c.next.ensures.steps in
    let p = ap (λ (r : ListRun). r.parent) t.2 in
    let l = s.smaller v (omega arith) t.1 in
    let few = s.few in
    let ord : cell cs c.in-Some.list.now.parent ≡ before s v =
    inv.5 c.in-Some.list.now.parent (omega arith) ∙ ap (λ k. children_before (parent_in s.runs) k c.in-Some.list.now.parent) (sym t.0) ∙ ap (children_before (parent_in s.runs) v) p in
    let same : ask (ltb (before s v) most_children) (fault TooManyChildren v 0) ≡ ask (ltb (cell cs c.in-Some.list.now.parent) most_children) c.new.result =
    ap (λ k. ask (ltb k most_children) (fault TooManyChildren v 0)) (sym ord) ∙ ap (ask (ltb (cell cs c.in-Some.list.now.parent) most_children)) (sym c.new.ensures) in
    let yes = granted-none (ask (ltb (cell cs c.in-Some.list.now.parent) most_children) c.new.result) c.in_ok-ask.ensures in
    let n = length_push c.loop-v.yielded (v, c.in-Some.list) in
    let e : length (c.loop-v.yielded ++ ((v, c.in-Some.list) ∷ [])) + 1 ≡ v + 1 = omega arith in
    let x : ListRun = record (nth_run rs v) { ordinal = cell cs c.in-Some.list.now.parent } in
    let here : x ≡ record (nth_run s.runs v) { ordinal = before s v } = let o = inv.4 v (omega arith) in cc in
    let C : ℕ → Type 0 = λ q. Holds most_lists (children_before (parent_in s.runs) (v + 1)) (cell (set cs q (cell cs q + 1))) in
    let counted : C c.in-Some.list.now.parent = subst C (sym p) (children-counted (parent_in s.runs) cs v inv.1 (omega arith) (λ u h. inv.5 u h ∙ ap (λ k. children_before (parent_in s.runs) k u) (sym t.0))) in (
      length-set rs _ _ ∙ inv.0,
      length-set cs _ _ ∙ inv.1,
      get_or-set_other rs v 0 x no_run (λ z. omega arith) ∙ inv.2,
      λ u z h.
          elim (cases_eq u v) [
            | inl w ↦ subst (λ k. nth_run (set rs v x) k ≡ record (nth_run s.runs k) { ordinal = before s k }) (sym w) (get_or-set_same rs v x no_run (omega arith) ∙ here)
            | inr d ↦ get_or-set_other rs v u x no_run d ∙ inv.3 u z (omega arith)
          ],
      λ u h. get_or-set_other rs v u x no_run (λ z. omega arith) ∙ inv.4 u (omega arith),
      λ u h. counted u h ∙ ap (λ k. children_before (parent_in s.runs) k u) (sym e),
      ap (λ k. ask_from (λ u. ask (ltb (before s u) most_children) (fault TooManyChildren u 0)) k s.len) e
          ∙ ask-more (λ u. ask (ltb (before s u) most_children) (fault TooManyChildren u 0)) v s.len t.1 (same ∙ yes)
          ∙ ap (λ k. ask_from (λ u. ask (ltb (before s u) most_children) (fault TooManyChildren u 0)) k s.len) t.0
          ∙ inv.6,
    )
