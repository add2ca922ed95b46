use Rattle.std.proofs.Common.{None, sym, ◌∙◌}
use Rattle.layout.specs.KeyTrees.{key_tree}
use Rattle.register.specs.Questions.{order_fault}
use Rattle.plan.specs.Columns.{shape_fault}
use Rattle.plan.proofs.Asking.{or-next, granted-none}
use Rattle.plan.proofs.Granting.{shape-parts, shaped-by, lists-asked}
use Rattle.plan.proofs.Planning.{own-within, keys-within, counts-within, tabled}
use Rattle.plan.proofs.Reading.{length-tree}
use Rattle.plan.proofs.plan.Goals as goal

pub ask_order-requires : goal.ask_order-requires
ask_order-requires g c = c.in_ok-lists.ensures.1.lists ∙ length-tree (g.S.Shelf.meaning c.args.shelf.now)

pub sampled-sampled-requires : goal.sampled-sampled-requires
sampled-sampled-requires g c =
    let t = key_tree (g.S.Shelf.meaning c.args.shelf.now) in
    let m = c.in_ok-lists.ensures in
    own-within t c.in_ok-lists.lists m.1 (shaped-by t (shape-parts t m.0))

pub table-requires-clause-keys : goal.table-requires-clause-keys
table-requires-clause-keys g c =
    let t = key_tree (g.S.Shelf.meaning c.args.shelf.now) in
    let m = c.in_ok-lists.ensures in
    let r = c.sampled-sampled.ensures in
    keys-within t c.in_ok-lists.lists m.1 (shaped-by t (shape-parts t m.0)) g.S.Key.KeyOrder.order c.sampled-sampled.result r.len r.size r.same r.long

pub table-requires-clause-entries : goal.table-requires-clause-entries
table-requires-clause-entries g c =
    let t = key_tree (g.S.Shelf.meaning c.args.shelf.now) in
    let m = c.in_ok-lists.ensures in
    let r = c.sampled-sampled.ensures in
    counts-within t c.in_ok-lists.lists m.1 (shaped-by t (shape-parts t m.0)) g.S.Key.KeyOrder.order c.sampled-sampled.result r.len r.size r.same r.long

pub returns : goal.returns
returns g c =
    let t = key_tree (g.S.Shelf.meaning c.args.shelf.now) in
    let m = c.in_ok-lists.ensures in
    let o = g.S.Key.KeyOrder.order in
    let r = c.sampled-sampled.ensures in
    let u = c.table.ensures in (
      sym (lists-asked o t) ∙ or-next (shape_fault t) (order_fault o t) None m.0 (granted-none (order_fault o t) c.in_ok-ask_order.ensures),
      tabled t c.in_ok-lists.lists m.1 (shaped-by t (shape-parts t m.0)) o c.sampled-sampled.result r.len r.size r.same r.long c.table.result u.len u.size u.each,
    )
