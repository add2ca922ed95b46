use Rattle.std.proofs.Common.{arith, ap, ◌∙◌, length}
use Rattle.jobs.specs.Left.{left}
use Rattle.jobs.proofs.Counting.{none_yet, adds, counted, onward, finished, no-fault}
use Rattle.jobs.proofs.job.count_job.Goals as goal

pub loop-line-init : goal.loop-line-init
loop-line-init c =
    let z = c.default-count.ensures in
    let e = ap left c.into_iter-line-iterator.ensures.into_iter_gives ∙ c.of-line-items.ensures in
    none_yet _ _ _ _ _ e z.0 z.1.0 z.1.1.0 z.1.1.1.0 z.1.1.1.1.0

pub add-requires : goal.add-requires
add-requires c =
    let l = c.loop-line in
    let n = counted _ _ _ _ _ l.invariant in
    let m = ap length c.in-Some.ensures.steps in
    (adds _ _ _ _ _ l.invariant, omega arith)

pub loop-line-preserved : goal.loop-line-preserved
loop-line-preserved c =
    let l = c.loop-line in
    onward _ _ _ _ _ l.invariant _ _ c.in-Some.ensures.steps _ c.in_ok-judge_line.ensures c.add.new.self c.add.ensures

pub offered_share-requires : goal.offered_share-requires
offered_share-requires c =
    let l = c.loop-line in
    let n = counted _ _ _ _ _ l.invariant in
    (adds _ _ _ _ _ l.invariant, omega arith)

pub returns : goal.returns
returns c =
    let l = c.loop-line in (
      no-fault _ _ _ (omega arith) c.in_ok-ask_list.ensures,
      finished _ _ _ _ _ l.invariant c.in-None.ensures.steps.0 c.offered_share.result c.offered_share.ensures,
    )
