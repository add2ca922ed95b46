use Rattle.std.proofs.Common.{◌≡◌, ℕ, ◌+◌, ◌-◌, map, get_or, set, take, drop, length, sym, refl, ap, ◌∙◌, subst, arith, length-set}
use lib.ListN.{length-map}
use borrow.Rule.Slice.PartMut.{mid_of, mid_len}
use Rattle.std.proofs.lemmas.List.{map-set}
use Rattle.plan.specs.declared.table.ListRun.{ListRun}
use Rattle.laying.proofs.Siblings.{behind-root, childless, child-put, child-skip}
use Rattle.laying.specs.Children.{no_run, run_of, keys_in, ChildKeys}
use Rattle.laying.proofs.children.children_of.Goals as goal
use Rattle.laying.proofs.children.children_of.Goals.{then-run-list, else-run-list}

pub loop-run-init : goal.loop-run-init
loop-run-init g c = (childless c.args.table.now.runs c.args.list c.args.end c.args.behind.now, refl)

pub loop-run-preserved : goal.loop-run-preserved
loop-run-preserved g c =
    let table = c.args.table.now in
    let v = c.args.list in
    let end = c.args.end in
    let keys = c.args.behind.now in
    let w = c.loop-run.run-index + 1 in
    let cs = map (λ k. k.now) c.loop-run.children in
    let long = length-map c.loop-run.children (λ k. k.now) in
    let some = c.requires.inside in
    let room = mid_len 1 table.len table.runs (omega arith) in
    let item = get_or (mid_of 1 (table.len - 1) table.runs) c.loop-run.run-index no_run in
    let run = behind-root table.runs table.len c.loop-run.run-index (omega arith) in
    elim c.if-run-list.branch [
      | then-run-list way ↦
          let laid : map (λ k. k.now) c.if-run-list.children ≡ set cs (run_of table.runs w).ordinal (keys_in (run_of table.runs w) end keys) =
          ap (map (λ k. k.now)) way.children-is
          ∙ map-set (λ k. k.now) c.loop-run.children item.ordinal _
          ∙ ap (λ (n : ℕ). set cs item.ordinal (take n (drop (item.start - end) keys))) (omega arith)
          ∙ ap (λ (r : ListRun). set cs r.ordinal (keys_in r end keys)) run in (
            subst (ChildKeys table.runs (w + 1) v end keys) (sym laid)
                (child-put table.runs v end keys table.len w cs (omega arith) (omega arith) c.loop-run.invariant.0 c.requires.ordinals (omega arith) (ap (λ (r : ListRun). r.parent) (sym run) ∙ way.if-run-list.true)),
            ap length way.children-is ∙ length-set c.loop-run.children item.ordinal _ ∙ c.loop-run.invariant.1,
          )
      | else-run-list way ↦ (
        subst (λ xs. ChildKeys table.runs (w + 1) v end keys (map (λ k. k.now) xs)) (sym way.children-is)
            (child-skip table.runs v end keys table.len w cs (omega arith) (omega arith) c.loop-run.invariant.0 (λ e. way.if-run-list.false (ap (λ (r : ListRun). r.parent) run ∙ e))),
        ap length way.children-is ∙ c.loop-run.invariant.1,
      )
    ]

pub returns : goal.returns
returns g c =
    let table = c.args.table.now in
    let some = c.requires.inside in
    let few = c.requires.ordinals.few in
    let room = mid_len 1 table.len table.runs (omega arith) in
    let n : c.loop-run.run-index + 1 ≡ table.len = omega arith in
    subst (λ n. ChildKeys table.runs n c.args.list c.args.end c.args.behind.now (map (λ k. k.now) c.loop-run.children)) n c.loop-run.invariant.0
