use Rattle.walking.proofs.Descending.{Descended}
use Rattle.walking.proofs.walk.Cascade.walk.Given as goal

abbrev pub invariant-loop-i : goal.invariant-loop-i
invariant-loop-i g l = Descended g.K.KeyOrder.order l.self.tree.now l.side l.key l.lists l.i l.at l.comparisons l.stops
