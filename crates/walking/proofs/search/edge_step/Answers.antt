use Rattle.std.proofs.Common.{◌≡◌, suc, ◌+◌, ◌-◌, ◌*◌, length, sym, ap, ◌∙◌, arith}
use Rattle.orders.specs.Places.{passed}
use Rattle.walking.specs.Reached.{arrived}
use Rattle.walking.proofs.Stepping.{stepped, stepped-more, near, near-reads, near-end}
use Rattle.walking.proofs.search.edge_step.Goals as goal

pub loop-n-preserved : goal.loop-n-preserved
loop-n-preserved g c =
    let f = passed g.K.KeyOrder.order c.args.side c.args.sought.now in
    let keys = c.args.keys.now in
    let from = 4 * c.args.samples in
    let n = c.loop-n.n in
    let r = near-reads f keys from c.min.result c.min-2.result c.min.ensures c.min-2.ensures n c.index-near-n.result c.loop-n-test.true c.index-near-n.is in
    let l = r.0 in
    let k : 3 - n ≡ suc (3 - (n + 1)) = omega arith in
    c.loop-n.invariant ∙ ap (stepped f keys from n) k
    ∙ stepped-more f keys from n (3 - (n + 1)) c.index-near-n.result r.1 r.2 (sym c.is_passed.ensures ∙ c.if-not-is_passed.false)

pub returns : goal.returns
returns g c =
    let f = passed g.K.KeyOrder.order c.args.side c.args.sought.now in
    let keys = c.args.keys.now in
    let from = 4 * c.args.samples in
    let e : c.loop-n.n ≡ length (near f keys from c.min.result c.min-2.result c.min.ensures c.min-2.ensures) = let h = c.loop-n-test.false in let k = c.loop-n.auto.n-end in omega arith in
    sym (ap arrived (c.loop-n.invariant ∙ ap (λ m. stepped f keys from m (3 - m)) e ∙ near-end f keys from c.min.result c.min-2.result c.min.ensures c.min-2.ensures))
