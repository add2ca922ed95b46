use Rattle.std.proofs.Common.{◌≡◌, ◌∙◌, arith}
use Rattle.std.proofs.lemmas.List.{get_or-set_other}
use Rattle.layout.specs.KeyTrees.{key_tree}
use Rattle.register.specs.Limits.{most_lists}
use Rattle.plan.specs.Columns.{no_run, nth_run, run_counted}
use Rattle.plan.specs.declared.table.ListRun.{ListRun}
use Rattle.plan.proofs.Filling.{fill_more}
use Rattle.plan.proofs.Reading.{count-read}
use Rattle.plan.proofs.lists.Lists.counted.Goals as goal

pub loop-v-preserved : goal.loop-v-preserved
loop-v-preserved g c =
    let bs = g.S.Shelf.meaning c.args.shelf.now in
    let s = c.args.self.now in
    let v = c.loop-v.v in
    let rs = c.loop-v.run-items in
    let inv = c.loop-v.invariant in
    let x : ListRun = record (nth_run rs v) { length = c.count-count.result; count = c.count-count.result } in
    let n = c.count-count.ensures ∙ count-read bs v in
    let o = inv.2 v (omega arith) in
    let e : x ≡ run_counted (key_tree bs) (nth_run s.runs v) v = cc in
    let f = fill_more no_run (λ u. run_counted (key_tree bs) (nth_run s.runs u) u) rs v x most_lists (omega arith) e inv.0 inv.1 in
    (f.0, f.1, λ u h. get_or-set_other rs v u x no_run (λ z. omega arith) ∙ inv.2 u (omega arith))
