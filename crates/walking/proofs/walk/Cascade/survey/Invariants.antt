use Rattle.std.proofs.Common.{◌≡◌, length}
use Rattle.walking.proofs.Surveying.{Seen}
use Rattle.walking.proofs.walk.Cascade.survey.Given as goal

abbrev pub invariant-loop-list : goal.invariant-loop-list
invariant-loop-list g l = record {
  sized : length l.places ≡ 127;
  seen : Seen g.K.KeyOrder.order l.self.tree.now l.keys.low.now l.keys.high.now l.slots.first l.slots.last l.list l.comparisons l.places;
}
