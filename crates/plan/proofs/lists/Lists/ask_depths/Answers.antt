use Rattle.std.proofs.Common.{◌≡◌, ◌+◌, leb, length, [], ◌∷◌, ◌++◌, Err, sym, refl, ap, ◌∙◌, arith, length-set}
use Rattle.std.proofs.lemmas.Bool.{leb-true}
use Rattle.std.proofs.lemmas.List.{length_push}
use Rattle.std.proofs.lemmas.Result.{err_from_is_err_and}
use Rattle.faults.specs.Refusals.{fault}
use Rattle.faults.specs.declared.Reason.TheVariants.{TooDeep}
use Rattle.register.specs.Limits.{most_edges}
use Rattle.register.specs.Questions.{ask}
use Rattle.plan.specs.Columns.{no_run, parent_in, most_asked}
use Rattle.plan.specs.declared.table.ListRun.{ListRun}
use Rattle.plan.proofs.Asking.{ask-yes, ask_from, ask-but_first, ask-more, ask-stop, refuse, granted-none, refused-some}
use Rattle.plan.proofs.Filling.{cell, low-none, depths-none, depths-low, depths-more}
use Rattle.plan.proofs.Turning.{turn-taken}
use Rattle.plan.proofs.lists.Lists.ask_depths.Goals as goal

pub loop-v-init : goal.loop-v-init
loop-v-init c = (
  refl,
  low-none,
  λ depth d. (
    depths-none depth d.root,
    ask-but_first (λ v. ask (leb (depth v) most_edges) (fault TooDeep v 0)) c.args.self.now.len c.args.self.now.some (ap (λ k. ask (leb k most_edges) (fault TooDeep 0 0)) d.root),
  ),
)

pub offset_bounds-depths-list : goal.offset_bounds-depths-list
offset_bounds-depths-list c =
    let s = c.args.self.now in
    let v = c.in-Some.v in
    let t = turn-taken c.into_iter-v-iterator.result s.len s.runs (omega arith) (cc) (cc) (cc) c.loop-v.yielded _ c.loop-v.yielded_by _ _ v c.in-Some.list no_run c.in-Some.is c.next.ensures.steps in
    let p = ap (λ (r : ListRun). r.parent) t.2 in
    let l = s.smaller v (omega arith) t.1 in
    let f = s.few in
    record { fits = omega arith }

pub bounds-depths-list : goal.bounds-depths-list
bounds-depths-list c =
    let s = c.args.self.now in
    let v = c.in-Some.v in
    let t = turn-taken c.into_iter-v-iterator.result s.len s.runs (omega arith) (cc) (cc) (cc) c.loop-v.yielded _ c.loop-v.yielded_by _ _ v c.in-Some.list no_run c.in-Some.is c.next.ensures.steps in
    let p = ap (λ (r : ListRun). r.parent) t.2 in
    let l = s.smaller v (omega arith) t.1 in
    let f = s.few in
    omega arith

pub returns-in_err-ask : goal.returns-in_err-ask
returns-in_err-ask c depth d =
    let s = c.args.self.now in
    let v = c.in-Some.v in
    let ds = c.loop-v.depths in
    let par = c.in-Some.list.now.parent in
    let t = turn-taken c.into_iter-v-iterator.result s.len s.runs (omega arith) (cc) (cc) (cc) c.loop-v.yielded _ c.loop-v.yielded_by _ _ v c.in-Some.list no_run c.in-Some.is c.next.ensures.steps in
    let p = ap (λ (r : ListRun). r.parent) t.2 in
    let l = s.smaller v (omega arith) t.1 in
    let f = c.in_err-ask.field-0.0 in
    let r = err_from_is_err_and c.from_residual.result c.from_residual.ensures.1 in
    let i = c.loop-v.invariant.2 depth d in
    let above = i.0 par (omega arith) in
    let twin = ap depth p in
    let below = d.below v (omega arith) t.1 in
    let one : depth v ≡ cell ds par + 1 = omega arith in
    let same : ask (leb (depth v) most_edges) (fault TooDeep v 0) ≡ ask (leb (cell ds par + 1) most_edges) c.new.result =
    ap (λ k. ask (leb k most_edges) (fault TooDeep v 0)) one ∙ ap (ask (leb (cell ds par + 1) most_edges)) (sym c.new.ensures) in
    r.1 ∙ ap (λ e. Err e) r.2
    ∙ refuse (most_asked TooDeep most_edges s.len depth) f
    (sym i.1
    ∙ ap (λ k. ask_from (λ u. ask (leb (depth u) most_edges) (fault TooDeep u 0)) k s.len) (sym t.0)
    ∙ ask-stop (λ u. ask (leb (depth u) most_edges) (fault TooDeep u 0)) v s.len f t.1 (same ∙ refused-some (ask (leb (cell ds par + 1) most_edges) c.new.result) f c.in_err-ask.ensures))

pub loop-v-preserved : goal.loop-v-preserved
loop-v-preserved c =
    let s = c.args.self.now in
    let v = c.in-Some.v in
    let ds = c.loop-v.depths in
    let par = c.in-Some.list.now.parent in
    let t = turn-taken c.into_iter-v-iterator.result s.len s.runs (omega arith) (cc) (cc) (cc) c.loop-v.yielded _ c.loop-v.yielded_by _ _ v c.in-Some.list no_run c.in-Some.is c.next.ensures.steps in
    let p = ap (λ (r : ListRun). r.parent) t.2 in
    let l = s.smaller v (omega arith) t.1 in
    let n = length_push c.loop-v.yielded (v, c.in-Some.list) in
    let few = s.few in
    let yes = granted-none (ask (leb (cell ds par + 1) most_edges) c.new.result) c.in_ok-ask.ensures in
    let shallow = leb-true (cell ds par + 1) most_edges (ask-yes (leb (cell ds par + 1) most_edges) c.new.result yes) in
    let e : length (c.loop-v.yielded ++ ((v, c.in-Some.list) ∷ [])) + 1 ≡ v + 1 = omega arith in (
      length-set ds _ _ ∙ c.loop-v.invariant.0,
      depths-low (parent_in s.runs) ds v s.len par (omega arith) t.1 few c.loop-v.invariant.0 p shallow c.loop-v.invariant.1,
      λ depth d.
          let i = c.loop-v.invariant.2 depth d in
          let above = i.0 par (omega arith) in
          let twin = ap depth p in
          let below = d.below v (omega arith) t.1 in
          let one : depth v ≡ cell ds par + 1 = omega arith in
          let same : ask (leb (depth v) most_edges) (fault TooDeep v 0) ≡ ask (leb (cell ds par + 1) most_edges) c.new.result =
          ap (λ k. ask (leb k most_edges) (fault TooDeep v 0)) one ∙ ap (ask (leb (cell ds par + 1) most_edges)) (sym c.new.ensures) in (
            λ u h. depths-more (parent_in s.runs) ds v s.len par (omega arith) t.1 few c.loop-v.invariant.0 p depth d above (λ w k. i.0 w (omega arith)) u (omega arith),
            ap (λ k. ask_from (λ u. ask (leb (depth u) most_edges) (fault TooDeep u 0)) k s.len) e
                ∙ ask-more (λ u. ask (leb (depth u) most_edges) (fault TooDeep u 0)) v s.len t.1 (same ∙ yes)
                ∙ ap (λ k. ask_from (λ u. ask (leb (depth u) most_edges) (fault TooDeep u 0)) k s.len) t.0
                ∙ i.1,
          ),
    )
