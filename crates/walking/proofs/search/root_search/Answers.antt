use Rattle.std.proofs.Common.{sym, refl, ap, ◌∙◌}
use Rattle.orders.specs.Places.{passed}
use Rattle.walking.specs.Reached.{arrived}
use Rattle.walking.proofs.Halving.{halved_none, halved-right, halved-left, halved-all}
use Rattle.walking.proofs.search.root_search.Goals as goal

pub loop-lo-init : goal.loop-lo-init
loop-lo-init g c = halved_none (passed g.K.KeyOrder.order c.args.side c.args.sought.now) c.args.keys.now

pub loop-lo-preserved-then-is_passed : goal.loop-lo-preserved-then-is_passed
loop-lo-preserved-then-is_passed g c =
    halved-right (passed g.K.KeyOrder.order c.args.side c.args.sought.now) c.args.keys.now c.loop-lo.lo c.loop-lo.hi c.loop-lo.comparisons _
    c.loop-lo-test.true refl c.loop-lo.invariant c.index-keys-mid.result c.index-keys-mid.is (sym c.is_passed.ensures ∙ c.if-is_passed.true)

pub loop-lo-preserved : goal.loop-lo-preserved
loop-lo-preserved g c =
    halved-left (passed g.K.KeyOrder.order c.args.side c.args.sought.now) c.args.keys.now c.loop-lo.lo c.loop-lo.hi c.loop-lo.comparisons _
    c.loop-lo-test.true refl c.loop-lo.invariant c.index-keys-mid.result c.index-keys-mid.is (sym c.is_passed.ensures ∙ c.if-is_passed.false)

pub returns : goal.returns
returns g c =
    ap arrived (halved-all (passed g.K.KeyOrder.order c.args.side c.args.sought.now) c.args.keys.now c.loop-lo.lo c.loop-lo.hi c.loop-lo.comparisons
    c.loop-lo-test.false c.loop-lo.invariant)
