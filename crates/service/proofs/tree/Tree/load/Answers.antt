use Rattle.std.proofs.Common.{◌∙◌}
use Rattle.std.proofs.lemmas.List.{with_items_is}
use Rattle.std.specs.Vec.{with_items}
use Rattle.service.proofs.Loading.{not-refused, loaded}
use Rattle.service.proofs.tree.Tree.load.Goals as goal

pub returns-in_err-load : goal.returns-in_err-load
returns-in_err-load c =
    let n = c.in_ok-lists.ensures.len in
    let m = c.in_ok-entries.ensures.len in
    absurd (not-refused c.args.file.now c.in_ok-needed.needed c.in_ok-needed.ensures
    c.as_mut_slice.result.now c.load.new.lists c.as_mut_slice-2.result.now c.load.new.entries
    (c.as_mut_slice.ensures.len ∙ n) (c.as_mut_slice-2.ensures.len ∙ m)
    c.in_err-load.field-0.0 c.in_err-load.ensures)

pub returns : goal.returns
returns c =
    let n = c.in_ok-lists.ensures.len in
    let m = c.in_ok-entries.ensures.len in
    let l = c.as_mut_slice.ensures.len in
    let e = c.as_mut_slice-2.ensures.len in
    loaded c.args.file.now c.in_ok-needed.needed c.in_ok-needed.ensures
    c.as_mut_slice.result.now c.load.new.lists c.as_mut_slice-2.result.now c.load.new.entries
    (l ∙ n) (e ∙ m) c.load.auto.entries c.in_ok-load.field-0 c.in_ok-load.ensures
    (with_items c.in_ok-lists.lists c.load.new.lists).items
    (with_items_is c.in_ok-lists.lists c.load.new.lists (c.load.auto.lists ∙ l))
    (with_items c.in_ok-entries.entries c.load.new.entries).items
    (with_items_is c.in_ok-entries.entries c.load.new.entries (c.load.auto.entries ∙ e))
