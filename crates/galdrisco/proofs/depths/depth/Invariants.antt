use Rattle.std.proofs.Common.{◌≡◌, ◌+◌, ◌≤◌}
use Rattle.galdrisco.specs.Depths.{climbed, depth_of}
use Rattle.galdrisco.proofs.depths.depth.Given as goal

abbrev pub invariant-loop-at : goal.invariant-loop-at
invariant-loop-at l = (l.steps + l.at ≤ l.list) × (climbed l.at l.lists l.at l.steps ≡ depth_of l.lists l.list)

abbrev pub decreases-loop-at : goal.decreases-loop-at
decreases-loop-at l = l.at
