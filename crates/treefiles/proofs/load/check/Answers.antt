use Rattle.std.proofs.Common.{List, Ok, Option, Result, sym, ap, ◌∙◌}
use Rattle.std.proofs.lemmas.Result.{err_from_is_err_and}
use Rattle.faults.specs.declared.Fault.{Fault}
use Rattle.treefiles.specs.Loading.{checked}
use Rattle.treefiles.specs.Reader.{Item, tree_read}
use Rattle.treefiles.specs.declared.item.Item.{Item as CodeItem}
use Rattle.treefiles.specs.declared.loaded.Loaded.{Loaded}
use Rattle.treefiles.proofs.Runs.{begun, goes_on, comes-to-end, breaks-off, counted}
use Rattle.treefiles.proofs.load.check.Goals as goal

pub loop-init : goal.loop-init
loop-init c = begun c.args.file.now c.new-loader.result c.in_ok-check_opening.ensures c.new-loader.ensures

pub loop-preserved : goal.loop-preserved
loop-preserved c =
    goes_on c.args.file.now c.loop.loader c.loop.invariant c.next.new.self c.next.result c.in-Some.field-0
    (c.in_ok-next.was ∙ ap (λ (o : Option CodeItem). Ok o) c.in-Some.is) c.next.ensures

pub returns-in_err-next : goal.returns-in_err-next
returns-in_err-next c =
    let p = err_from_is_err_and c.from_residual-in_err-next.result c.from_residual-in_err-next.ensures.1 in
    let e = breaks-off c.args.file.now c.loop.loader c.loop.invariant c.next.new.self c.next.result c.in_err-next.field-0.0 c.in_err-next.was c.next.ensures in
    rw (p.1, p.2) (sym (ap (λ (r : Result (List Item) Fault). checked (tree_read r)) e))

pub returns : goal.returns
returns c =
    let file = c.args.file.now in
    let e = comes-to-end file c.loop.loader c.loop.invariant c.next.new.self c.next.result (c.in_ok-next.was ∙ ap (λ (o : Option CodeItem). Ok o) c.in_default.is) c.next.ensures in
    let n = counted file c.loop.loader c.loop.invariant e.0 in
    let l = c.loaded.ensures in
    let s = ap (λ (r : Result (List Item) Fault). checked (tree_read r)) e.0 in
    let same = e.1 in
    ap (λ (n : Loaded). Ok n) (cc) ∙ sym s
