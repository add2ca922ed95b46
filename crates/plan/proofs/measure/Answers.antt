use Rattle.std.proofs.Common.{Err, ap, ◌∙◌}
use Rattle.std.proofs.lemmas.Result.{err_from_is_err_and}
use Rattle.layout.specs.KeyTrees.{key_tree}
use Rattle.cascade.specs.Trees.{depth_of}
use Rattle.plan.proofs.Measuring.{refused, deep, no-depths, no-children, no-entries, measured}
use Rattle.plan.proofs.measure.Goals as goal

pub returns-in_err-ask_depths : goal.returns-in_err-ask_depths
returns-in_err-ask_depths g c =
    let t = key_tree (g.S.Shelf.meaning c.args.shelf.now) in
    let ls = c.in_ok-lists.lists in
    let read = c.in_ok-lists.ensures in
    let f = c.in_err-ask_depths.field-0.0 in
    let p = err_from_is_err_and c.from_residual-in_err-ask_depths.result c.from_residual-in_err-ask_depths.ensures.1 in
    refused t c.from_residual-in_err-ask_depths.result f (p.1 ∙ ap (λ e. Err e) p.2) (no-depths t ls read f (c.in_err-ask_depths.ensures (depth_of t) (deep t ls read)))

pub returns-in_err-numbered : goal.returns-in_err-numbered
returns-in_err-numbered g c =
    let t = key_tree (g.S.Shelf.meaning c.args.shelf.now) in
    let ls = c.in_ok-lists.lists in
    let read = c.in_ok-lists.ensures in
    let f = c.in_err-numbered.field-0.0 in
    let p = err_from_is_err_and c.from_residual-in_err-numbered.result c.from_residual-in_err-numbered.ensures.1 in
    refused t c.from_residual-in_err-numbered.result f (p.1 ∙ ap (λ e. Err e) p.2) (no-children t ls read (c.in_ok-ask_depths.ensures (depth_of t) (deep t ls read)) f c.in_err-numbered.ensures)

pub returns-in_err-ask_entries : goal.returns-in_err-ask_entries
returns-in_err-ask_entries g c =
    let t = key_tree (g.S.Shelf.meaning c.args.shelf.now) in
    let ls = c.in_ok-lists.lists in
    let read = c.in_ok-lists.ensures in
    let f = c.in_err-ask_entries.field-0.0 in
    let p = err_from_is_err_and c.from_residual-in_err-ask_entries.result c.from_residual-in_err-ask_entries.ensures.1 in
    refused t c.from_residual-in_err-ask_entries.result f (p.1 ∙ ap (λ e. Err e) p.2) (no-entries t ls read (c.in_ok-ask_depths.ensures (depth_of t) (deep t ls read)) c.in_ok-numbered.numbered c.in_ok-numbered.ensures c.counted-counted.result c.counted-counted.ensures f c.in_err-ask_entries.ensures)

pub returns : goal.returns
returns g c =
    let t = key_tree (g.S.Shelf.meaning c.args.shelf.now) in
    let ls = c.in_ok-lists.lists in
    let read = c.in_ok-lists.ensures in
    measured t ls read (c.in_ok-ask_depths.ensures (depth_of t) (deep t ls read)) c.in_ok-numbered.numbered c.in_ok-numbered.ensures c.counted-counted.result c.counted-counted.ensures c.in_ok-ask_entries.ensures
