use Rattle.std.proofs.Common.{◌≡◌, map, length}
use Rattle.register.specs.Answers.{filled_up}
use Rattle.walking.specs.Reached.{no_span}
use Rattle.walking.specs.Surveyed.{placed_span}
use Rattle.walking.proofs.Choosing.{chosen_before}
use Rattle.walking.proofs.walk.Cascade.chosen_spans.Given as goal

abbrev pub invariant-loop-list : goal.invariant-loop-list
invariant-loop-list g l = record {
  count : l.used ≡ length (chosen_before l.slots.first l.slots.last l.list);
  filled : l.spans ≡ filled_up 10 no_span (map (placed_span g.K.KeyOrder.order l.self.tree.now l.places) (chosen_before l.slots.first l.slots.last l.list));
}
