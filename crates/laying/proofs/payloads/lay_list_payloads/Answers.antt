use Rattle.std.proofs.Common.{sym, ◌∙◌, arith}
use lib.ListN.{length-map}
use Rattle.std.specs.List.{slice_get}
use Rattle.shelves.specs.Meaning.{entries_of}
use Rattle.laying.proofs.Pasting.{payload-more, paste-whole}
use Rattle.laying.proofs.Reading.{nth-some}
use Rattle.laying.specs.Laying.{payloads_at}
use Rattle.laying.proofs.payloads.lay_list_payloads.Goals as goal

pub unwrap-requires : goal.unwrap-requires
unwrap-requires g c =
    let entries = entries_of (slice_get (g.S.Shelf.meaning c.args.shelf.now) c.args.list) in
    let l = length-map entries (λ e. e.payload) in
    nth-some entries c.loop-place.place c.entry.result (omega arith) c.entry.ensures

pub loop-place-preserved : goal.loop-place-preserved
loop-place-preserved g c =
    let bs = g.S.Shelf.meaning c.args.shelf.now in
    let i = c.loop-place.place in
    payload-more bs c.args.list i c.args.payloads.now c.loop-place.payloads c.unwrap.result (omega arith) c.loop-place.invariant (sym c.unwrap.ensures ∙ c.entry.ensures)

pub returns : goal.returns
returns g c = c.loop-place.invariant ∙ paste-whole c.args.payloads.now (payloads_at (g.S.Shelf.meaning c.args.shelf.now) c.args.list) c.loop-place.place (omega arith) (omega arith)
