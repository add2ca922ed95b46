use Rattle.std.proofs.Common.{◌≡◌, ◌+◌, ◌<◌, List, length, sym, ◌∙◌, subst, arith}
use Rattle.std.proofs.lemmas.List.{get_or-take, length-take}
use Rattle.index.specs.Held.{machine_of}
use Rattle.index.specs.Calls.{Outcome}
use Rattle.index.proofs.Running.{Inv, start, step, law}
use Rattle.index.proofs.Index.run.Goals as goal

pub loop-i-init : goal.loop-i-init
loop-i-init g c =
    start g.K.KeyOrder.order g.P.Payload.neutral g.P.Payload.joined g.S.Shelf.meaning (machine_of c.args.self.now) c.args.requests.now c.args.outcomes.now c.sound.ensures

pub loop-i-preserved : goal.loop-i-preserved
loop-i-preserved g c =
    let i = c.loop-i.i in
    let n = c.min-count.ensures in
    let t = c.loop-i-test.true in
    let s = c.loop-i.invariant.sized in
    let few : i < c.min-count.result = omega (arith, t, length-take c.min-count.result c.args.requests.now) in
    let within : i < length c.args.requests.now = omega (arith, n, few) in
    let room : i < length c.loop-i.outcomes = omega (arith, n, few, s) in
    subst (λ (out : List (Outcome g.row.P.Denot)).
    Inv g.K.KeyOrder.order g.P.Payload.neutral g.P.Payload.joined g.S.Shelf.meaning (machine_of c.args.self.now) c.args.requests.now c.args.outcomes.now out (i + 1) (machine_of c.carry_out-outcome.new.self)) (sym c.put.ensures)
    (step g.K.KeyOrder.order g.P.Payload.neutral g.P.Payload.joined g.S.Shelf.meaning (machine_of c.args.self.now) c.args.requests.now c.args.outcomes.now c.loop-i.outcomes i
    (machine_of c.loop-i.self) (machine_of c.carry_out-outcome.new.self) c.loop-i.invariant c.request-item.result c.carry_out-outcome.result within room (c.request-item.is ∙ get_or-take c.min-count.result c.args.requests.now i _ few)
    c.carry_out-outcome.ensures.answer c.carry_out-outcome.ensures.counts c.carry_out-outcome.ensures.after c.sound-in-loop-i.ensures)

pub returns : goal.returns
returns g c =
    let i = c.loop-i.i in
    let n = c.min-count.ensures in
    let end = c.loop-i.auto.i-end in
    let left = c.loop-i-test.false in
    let e : i ≡ c.min-count.result = omega (arith, n, end, left, length-take c.min-count.result c.args.requests.now) in
    record {
      count = c.min-count.ensures;
      law = law g.K.KeyOrder.order g.P.Payload.neutral g.P.Payload.joined g.S.Shelf.meaning (machine_of c.args.self.now) c.args.requests.now c.args.outcomes.now c.loop-i.outcomes i (machine_of c.loop-i.self) (e ∙ c.min-count.ensures) c.loop-i.invariant;
    }
