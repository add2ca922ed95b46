use Rattle.std.proofs.Common.{replicate, sym, subst, ap₂, arith}
use Rattle.register.specs.Answers.{stop}
use Rattle.walking.specs.Reached.{end_of}
use Rattle.walking.proofs.Gathering.{gathered-all}
use Rattle.walking.proofs.Descending.{Descended, descended_none, lists-few, list-there, from-parent, place-within, comparisons-few, descended-more}
use Rattle.walking.proofs.walk.Cascade.walk.Goals as goal

pub loop-i-init : goal.loop-i-init
loop-i-init g c =
    let order = g.K.KeyOrder.order in
    let t = c.args.self.now.tree.now in
    subst (λ none. Descended order t c.args.side c.args.key.now c.args.lists.now 0 0 0 (replicate 9 none)) (sym (ap₂ stop c.default-stops.ensures.0 c.default-stops.ensures.1))
    (descended_none order t c.args.side c.args.key.now c.args.lists.now)

pub arrive-next-requires : goal.arrive-next-requires
arrive-next-requires g c =
    let laws = g.met.K.KeyOrder.lawful in
    let shaped = c.args.self.now.laid.shaped in
    let i = c.loop-i.i in
    record {
      there = list-there laws shaped c.requires c.args.side c.args.key.now i c.loop-i-test.true;
      from_parent = from-parent laws shaped c.requires c.args.side c.args.key.now i c.loop-i.at c.loop-i.comparisons c.loop-i.stops c.loop-i-test.true c.loop-i.invariant;
    }

pub overflow_add-comparisons : goal.overflow_add-comparisons
overflow_add-comparisons g c =
    let few = comparisons-few g.met.K.KeyOrder.lawful c.args.self.now.laid.shaped c.requires c.args.side c.args.key.now c.loop-i.i c.loop-i-test.true
    c.arrive-next.result c.arrive-next.ensures c.loop-i.at c.loop-i.comparisons c.loop-i.stops c.loop-i.invariant in
    record { fits = omega arith }

pub own_place-requires : goal.own_place-requires
own_place-requires g c =
    let laws = g.met.K.KeyOrder.lawful in
    let shaped = c.args.self.now.laid.shaped in
    let i = c.loop-i.i in
    record {
      there = list-there laws shaped c.requires c.args.side c.args.key.now i c.loop-i-test.true;
      within = place-within laws shaped c.requires c.args.side c.args.key.now i c.loop-i-test.true c.arrive-next.result c.arrive-next.ensures;
    }

pub bounds-stops-i : goal.bounds-stops-i
bounds-stops-i g c =
    let f = lists-few g.met.K.KeyOrder.lawful c.args.self.now.laid.shaped c.requires c.args.side c.args.key.now in
    let l = c.loop-i-test.true in
    omega arith

pub loop-i-preserved : goal.loop-i-preserved
loop-i-preserved g c =
    descended-more g.met.K.KeyOrder.lawful c.args.self.now.laid.shaped c.requires c.args.side c.args.key.now c.loop-i.i c.loop-i-test.true
    c.arrive-next.result c.arrive-next.ensures c.loop-i.at c.loop-i.comparisons c.loop-i.stops c.loop-i.invariant c.own_place.result c.own_place.ensures

pub returns : goal.returns
returns g c =
    let k = c.loop-i.auto.i-end in
    gathered-all g.K.KeyOrder.order c.args.self.now.tree.now c.args.side c.args.key.now c.args.lists.now (end_of c.args.lists.now) c.loop-i.i c.loop-i.comparisons c.loop-i.stops
    c.requires.is (omega arith) c.loop-i.invariant.gathered
