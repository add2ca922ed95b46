use Rattle.std.proofs.Common.{Err, sym, ap, ◌∙◌}
use Rattle.std.proofs.lemmas.Result.{err_from_is_err_and}
use Rattle.layout.specs.KeyTrees.{key_tree}
use Rattle.plan.proofs.Measuring.{refused-read, no-parents, count_none, within, parents_none, smaller-here, read-each}
use Rattle.plan.proofs.Reading.{length-tree}
use Rattle.plan.proofs.lists.Lists.read.Goals as goal

pub returns-in_err-ask_parents : goal.returns-in_err-ask_parents
returns-in_err-ask_parents g c =
    let t = key_tree (g.S.Shelf.meaning c.args.shelf.now) in
    let len = c.lists-len.ensures ∙ sym (length-tree (g.S.Shelf.meaning c.args.shelf.now)) in
    let f = c.in_err-ask_parents.field-0.0 in
    let p = err_from_is_err_and c.from_residual-in_err-ask_parents.result c.from_residual-in_err-ask_parents.ensures.1 in
    refused-read t c.from_residual-in_err-ask_parents.result f (p.1 ∙ ap (λ e. Err e) p.2) (no-parents t c.lists-len.result len c.in_ok-ask_count.ensures c.read_runs-runs.result c.read_runs-runs.ensures.size c.read_runs-runs.ensures.each f c.in_err-ask_parents.ensures)

pub invariant_of-result : goal.invariant_of-result
invariant_of-result g c =
    let t = key_tree (g.S.Shelf.meaning c.args.shelf.now) in
    let len = c.lists-len.ensures ∙ sym (length-tree (g.S.Shelf.meaning c.args.shelf.now)) in
    let w = within t c.lists-len.result len c.in_ok-ask_count.ensures in
    record { some = w.0; few = w.1; smaller = smaller-here t c.lists-len.result len c.in_ok-ask_count.ensures c.read_runs-runs.result c.read_runs-runs.ensures.size c.read_runs-runs.ensures.each c.in_ok-ask_parents.ensures }

pub returns : goal.returns
returns g c =
    let t = key_tree (g.S.Shelf.meaning c.args.shelf.now) in
    let len = c.lists-len.ensures ∙ sym (length-tree (g.S.Shelf.meaning c.args.shelf.now)) in
    let runs = c.read_runs-runs.result in (
      count_none t c.lists-len.result len c.in_ok-ask_count.ensures,
      parents_none t c.lists-len.result len c.in_ok-ask_count.ensures runs c.read_runs-runs.ensures.size c.read_runs-runs.ensures.each c.in_ok-ask_parents.ensures,
      record { lists = len; size = c.read_runs-runs.ensures.size; each = read-each t c.lists-len.result len c.in_ok-ask_count.ensures runs c.read_runs-runs.ensures.size c.read_runs-runs.ensures.each c.in_ok-ask_parents.ensures },
    )
