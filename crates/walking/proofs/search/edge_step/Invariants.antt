use Rattle.std.proofs.Common.{◌≡◌, ◌-◌, ◌*◌}
use Rattle.orders.specs.Places.{passed}
use Rattle.cascade.specs.Searches.{edge_step}
use Rattle.walking.proofs.Stepping.{stepped}
use Rattle.walking.proofs.search.edge_step.Given as goal

abbrev pub invariant-loop-n : goal.invariant-loop-n
invariant-loop-n g l =
    let f = passed g.K.KeyOrder.order l.side l.sought in
    edge_step f l.samples l.keys ≡ stepped f l.keys (4 * l.samples) l.n (3 - l.n)
