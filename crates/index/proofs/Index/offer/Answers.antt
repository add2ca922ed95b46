use Rattle.std.proofs.Common.{◌<◌, length, Err, sym, ap, ◌∙◌, subst}
use Rattle.faults.specs.declared.Fault.{Fault}
use Rattle.walking.specs.Walked.{offered_at}
use Rattle.index.proofs.Walked.{there, no-offer, offer-answer, offer-counts}
use Rattle.index.proofs.Index.offer.Goals as goal

pub returns-then-list-self : goal.returns-then-list-self
returns-then-list-self g c = record {
  answer = ap (λ (f : Fault). Err f) c.new.ensures ∙ no-offer g.K.KeyOrder.order c.args.self.now c.args.list g.P.Payload.neutral g.P.Payload.joined c.args.key.now c.if-list-self.true;
  counts = tt;
}

pub offer-requires-clause-there : goal.offer-requires-clause-there
offer-requires-clause-there g c = subst (λ u. c.args.list < length u) (sym c.cascade.ensures.tree) (there g.K.KeyOrder.order c.args.self.now c.args.list c.if-list-self.false)

pub returns : goal.returns
returns g c =
    let i = c.args.self.now in
    let o = g.K.KeyOrder.order in
    let laws = g.met.K.KeyOrder.lawful in
    let neutral = g.P.Payload.neutral in
    let joined = g.P.Payload.joined in
    let is = c.offer.ensures
    ∙ ap (λ u. offered_at o neutral joined u c.cascade.result.payloads.now c.args.list c.args.key.now) c.cascade.ensures.tree
    ∙ ap (λ ps. offered_at o neutral joined i.layout.tree ps c.args.list c.args.key.now) c.cascade.ensures.payloads in
    record {
      answer = offer-answer o i c.args.list c.if-list-self.false laws neutral joined c.args.key.now c.offer.result is;
      counts = offer-counts o i c.args.list c.if-list-self.false laws neutral joined c.args.key.now c.offer.result is;
    }
