use Rattle.std.proofs.Common.{◌≡◌, unwrap_or, ap, ◌∙◌, arith}
use Rattle.layout.specs.KeyTrees.{key_tree}
use Rattle.register.specs.Limits.{most_lists}
use Rattle.plan.specs.Columns.{no_run, run_read}
use Rattle.plan.specs.declared.table.ListRun.{ListRun}
use Rattle.plan.proofs.Filling.{fill_more}
use Rattle.plan.proofs.Reading.{parent-read}
use Rattle.plan.proofs.lists.read_runs.Goals as goal

pub loop-v-preserved : goal.loop-v-preserved
loop-v-preserved g c =
    let bs = g.S.Shelf.meaning c.args.shelf.now in
    let v = c.loop-v.v in
    let x : ListRun = record { parent = c.unwrap_or.result; ordinal = 0; start = 0; length = 0; first = 0; count = 0 } in
    let p = c.unwrap_or.ensures ∙ ap (λ o. unwrap_or o 0) c.parent.ensures ∙ parent-read bs v in
    let e : x ≡ run_read (key_tree bs) v = cc in
    fill_more no_run (run_read (key_tree bs)) c.loop-v.run-items v x most_lists (omega arith) e c.loop-v.invariant.0 c.loop-v.invariant.1
