use Rattle.walking.proofs.Climbing.{Climbed}
use Rattle.walking.proofs.walk.Cascade.path_to.Given as goal

abbrev pub invariant-loop-list : goal.invariant-loop-list
invariant-loop-list g l = Climbed l.self.tree.now l.end l.list l.from l.lists

abbrev pub decreases-loop-list : goal.decreases-loop-list
decreases-loop-list g l = l.from
