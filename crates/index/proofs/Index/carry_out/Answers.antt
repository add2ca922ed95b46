use Rattle.std.proofs.lemmas.Result.{err_from_is_err_and}
use Rattle.std.proofs.Common.{Ok, Err, sym, ap, ◌∙◌, subst}
use Rattle.index.specs.Calls.{outcome_read, or_refused, entries, answer, Counted}
use Rattle.index.specs.Held.{machine_of}
use Rattle.index.specs.Machine.{sizes_of}
use Rattle.index.specs.declared.requests.Granted.TheVariants.{Ranged}
use Rattle.index.specs.declared.requests.Request.{Request}
use Rattle.index.proofs.Index.carry_out.Goals as goal

pub returns-in_err-range-in-Range-clause-answer : goal.returns-in_err-range-in-Range-clause-answer
returns-in_err-range-in-Range-clause-answer g c =
    let m = machine_of c.args.self.now in
    let p = err_from_is_err_and c.from_residual-in_err-range-in-Range.result c.from_residual-in_err-range-in-Range.ensures.1 in
    ap outcome_read (p.1 ∙ ap (λ e. Err e) p.2)
    ∙ ap (or_refused entries) c.in_err-range-in-Range.ensures.answer
    ∙ sym (ap (answer g.K.KeyOrder.order g.P.Payload.neutral g.P.Payload.joined g.S.Shelf.meaning (sizes_of m) m.register) c.in-Range.is)

pub returns-in_ok-range-in-Range-clause-answer : goal.returns-in_ok-range-in-Range-clause-answer
returns-in_ok-range-in-Range-clause-answer g c =
    let m = machine_of c.args.self.now in
    ap (or_refused entries) c.in_ok-range-in-Range.ensures.answer ∙ sym (ap (answer g.K.KeyOrder.order g.P.Payload.neutral g.P.Payload.joined g.S.Shelf.meaning (sizes_of m) m.register) c.in-Range.is)

pub returns-in_ok-range-in-Range-clause-counts : goal.returns-in_ok-range-in-Range-clause-counts
returns-in_ok-range-in-Range-clause-counts g c =
    let m = machine_of c.args.self.now in
    let r = c.in_ok-range-in-Range in
    subst (λ (q : Request g.row.S.Denot g.row.K.Denot g.row.P.Denot). Counted g.K.KeyOrder.order m.register q (Ok (Ranged r.field-0))) (sym c.in-Range.is) (r.ensures.counts, r.ensures.points)
