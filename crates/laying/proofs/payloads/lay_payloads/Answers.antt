use Rattle.std.proofs.Common.{rules, ◌+◌, ◌-◌, ◌≤◌, ◌++◌, length, get_or, take, drop, ap, ◌∙◌, ap₂, arith}
use lib.Seq.{paste}
use Rattle.std.proofs.lemmas.List.{take_all}
use Rattle.std.proofs.lemmas.List.FromFn.{length-map-range_with_len}
use Rattle.std.proofs.lemmas.Slice.{put_mid-paste}
use borrow.Rule.Slice.PartMut.{mid_len}
use Rattle.cascade.specs.Trees.{all_keys, augmented_lists}
use Rattle.layout.specs.KeyTrees.{key_tree}
use Rattle.plan.specs.Table.{run_at}
use Rattle.register.specs.Memory.{payloads_laid}
use Rattle.laying.proofs.Pasting.{payload-run, lists-more}
use Rattle.laying.proofs.Reading.{length-key_tree}
use Rattle.laying.specs.Children.{no_run}
use Rattle.laying.specs.Laying.{payloads_at}
use Rattle.laying.proofs.payloads.lay_payloads.Goals as goal

pub overflow_add-run : goal.overflow_add-run
overflow_add-run g c =
    let run = payload-run g.S.Key.KeyOrder.order (g.S.Shelf.meaning c.args.shelf.now) c.args.table.now c.requires.tabled c.loop-list.list c.loop-list-test.true in
    omega arith

pub offset_bounds-payloads-run : goal.offset_bounds-payloads-run
offset_bounds-payloads-run g c =
    let run = payload-run g.S.Key.KeyOrder.order (g.S.Shelf.meaning c.args.shelf.now) c.args.table.now c.requires.tabled c.loop-list.list c.loop-list-test.true in
    let at = get_or (take c.args.table.now.len c.args.table.now.runs) c.loop-list.list no_run in
    let room : at.first ≤ length c.loop-list.payloads = omega arith in
    search rules

pub slice_bounds-lay_list_payloads-end : goal.slice_bounds-lay_list_payloads-end
slice_bounds-lay_list_payloads-end g c =
    let run = payload-run g.S.Key.KeyOrder.order (g.S.Shelf.meaning c.args.shelf.now) c.args.table.now c.requires.tabled c.loop-list.list c.loop-list-test.true in
    omega arith

pub lay_list_payloads-requires : goal.lay_list_payloads-requires
lay_list_payloads-requires g c =
    let run = payload-run g.S.Key.KeyOrder.order (g.S.Shelf.meaning c.args.shelf.now) c.args.table.now c.requires.tabled c.loop-list.list c.loop-list-test.true in
    let at = get_or (take c.args.table.now.len c.args.table.now.runs) c.loop-list.list no_run in
    mid_len at.first (at.first + at.count) c.loop-list.payloads (omega arith) ∙ omega arith

pub loop-list-preserved : goal.loop-list-preserved
loop-list-preserved g c =
    let bs = g.S.Shelf.meaning c.args.shelf.now in
    let v = c.loop-list.list in
    let run = payload-run g.S.Key.KeyOrder.order bs c.args.table.now c.requires.tabled v c.loop-list-test.true in
    let at = get_or (take c.args.table.now.len c.args.table.now.runs) v no_run in
    put_mid-paste at.first (at.first + at.count - at.first) c.loop-list.payloads c.lay_list_payloads.new.payloads (payloads_at bs v) at.count c.lay_list_payloads.ensures (omega arith) run.2
    ∙ ap (λ zs. paste zs at.first (payloads_at bs v) at.count) c.loop-list.invariant
    ∙ lists-more bs v c.args.payloads.now at.first at.count run.0 run.1 run.2

pub returns : goal.returns
returns g c =
    let bs = g.S.Shelf.meaning c.args.shelf.now in
    let lists = c.requires.tabled.lists in
    let l = length-key_tree bs in
    let n = ap length c.requires.tabled.runs in
    let r = length-map-range_with_len (run_at (key_tree bs) (augmented_lists g.S.Key.KeyOrder.order (key_tree bs))) 0 (length (key_tree bs)) in
    c.loop-list.invariant
    ∙ ap₂ (λ xs ys. payloads_laid xs ++ drop (all_keys ys) c.args.payloads.now) (take_all c.loop-list.list bs (omega arith)) (take_all c.loop-list.list (key_tree bs) (omega arith))
