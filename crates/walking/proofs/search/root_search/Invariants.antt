use Rattle.std.proofs.Common.{◌-◌}
use Rattle.orders.specs.Places.{passed}
use Rattle.walking.proofs.Halving.{Halved}
use Rattle.walking.proofs.search.root_search.Given as goal

abbrev pub invariant-loop-lo : goal.invariant-loop-lo
invariant-loop-lo g l = Halved (passed g.K.KeyOrder.order l.side l.sought) l.keys l.lo l.hi l.comparisons

abbrev pub decreases-loop-lo : goal.decreases-loop-lo
decreases-loop-lo g l = l.hi - l.lo
