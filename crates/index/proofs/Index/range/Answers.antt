use Rattle.std.proofs.Common.{◌≡◌, ◌<◌, ◌≤◌, true, ◌&&◌, leb, ltb, Err, is_some, sym, ap, ◌∙◌, subst, arith}
use Rattle.std.specs.Ordering.{is_le}
use Rattle.faults.specs.declared.Fault.{Fault}
use Rattle.shelves.specs.Slots.{slot_count}
use Rattle.cascade.specs.SlotTree.{SieveShaped}
use Rattle.walking.specs.Ranged.{ranged_at}
use Rattle.index.proofs.Ranged.{no-sieve, no-slots, no_keys, shape, range-answer, range-counts, range-points}
use Rattle.index.proofs.Index.range.Goals as goal

pub returns-then-not-is_sieve-clause-answer : goal.returns-then-not-is_sieve-clause-answer
returns-then-not-is_sieve-clause-answer g c =
    ap (λ (f : Fault). Err f) c.new.ensures
    ∙ no-sieve g.K.KeyOrder.order c.args.self.now c.is_sieve.result c.is_sieve.ensures c.args.a c.args.b c.args.low.now c.args.high.now g.P.Payload.neutral g.P.Payload.joined c.if-not-is_sieve.true

pub returns-in_default-clause-answer : goal.returns-in_default-clause-answer
returns-in_default-clause-answer g c =
    ap (λ (f : Fault). Err f) c.new-in_default.ensures
    ∙ no-slots g.K.KeyOrder.order c.args.self.now c.is_sieve.result c.is_sieve.ensures c.args.a c.args.b c.args.low.now c.args.high.now g.P.Payload.neutral g.P.Payload.joined
    c.if-not-is_sieve.false (sym c.new-2.ensures.found ∙ ap is_some c.in_default.is)

pub returns-in_default-new-clause-answer : goal.returns-in_default-new-clause-answer
returns-in_default-new-clause-answer g c =
    ap (λ (f : Fault). Err f) c.new-in_default-new.ensures
    ∙ no_keys g.K.KeyOrder.order c.args.self.now c.is_sieve.result c.is_sieve.ensures c.args.a c.args.b c.args.low.now c.args.high.now g.P.Payload.neutral g.P.Payload.joined
    c.if-not-is_sieve.false (sym c.new-2.ensures.found ∙ ap is_some c.in-Some.is) (sym c.new-3.ensures.found ∙ ap is_some c.in_default-new.is)

pub range-requires-clause-sieve : goal.range-requires-clause-sieve
range-requires-clause-sieve g c =
    subst SieveShaped (sym c.cascade.ensures.tree)
    (shape g.K.KeyOrder.order c.args.self.now c.is_sieve.result c.is_sieve.ensures c.args.a c.args.b c.args.low.now c.args.high.now c.if-not-is_sieve.false)

pub returns : goal.returns
returns g c =
    let i = c.args.self.now in
    let o = g.K.KeyOrder.order in
    let laws = g.met.K.KeyOrder.lawful in
    let says = c.is_sieve.result in
    let told = c.is_sieve.ensures in
    let a = c.args.a in
    let b = c.args.b in
    let low = c.args.low.now in
    let high = c.args.high.now in
    let neutral = g.P.Payload.neutral in
    let joined = g.P.Payload.joined in
    let yes = c.if-not-is_sieve.false in
    let slots = c.in-Some.slots in
    let s = c.in-Some.ensures.is in
    let keys = c.in-Some-new.keys in
    let k = c.in-Some-new.ensures.is in
    let on : (leb a b && ltb b slot_count) ≡ true = sym c.new-2.ensures.found ∙ ap is_some c.in-Some.is in
    let up : a ≤ b = omega (arith, slots.forward, s.0, s.1) in
    let top : b < slot_count = omega (arith, slots.few, s.1) in
    let upward : is_le (o low high) ≡ true = sym c.new-3.ensures.found ∙ ap is_some c.in-Some-new.is in
    let r = c.range.result in
    let is = c.range.ensures
    ∙ ap (λ u. ranged_at o neutral joined u c.cascade.result.payloads.now slots.first slots.last keys.low.now keys.high.now) c.cascade.ensures.tree
    ∙ ap (λ ps. ranged_at o neutral joined i.layout.tree ps slots.first slots.last keys.low.now keys.high.now) c.cascade.ensures.payloads
    ∙ ap (λ n. ranged_at o neutral joined i.layout.tree i.memory.payloads.now n slots.last keys.low.now keys.high.now) s.0
    ∙ ap (λ n. ranged_at o neutral joined i.layout.tree i.memory.payloads.now a n keys.low.now keys.high.now) s.1
    ∙ ap (λ q. ranged_at o neutral joined i.layout.tree i.memory.payloads.now a b q keys.high.now) k.0
    ∙ ap (λ q. ranged_at o neutral joined i.layout.tree i.memory.payloads.now a b low q) k.1 in
    record {
      answer = range-answer o i says told a b low high yes on up top upward laws neutral joined r is;
      counts = range-counts o i says told a b low high yes on up top upward laws neutral joined r is;
      points = range-points o i says told a b low high yes on up top upward laws neutral joined r is i.layout.in_order;
    }
