use Rattle.std.proofs.Common.{◌≡◌, ◌+◌, map, length}
use Rattle.laying.specs.Children.{ChildKeys}
use Rattle.laying.proofs.children.children_of.Given as goal

abbrev pub invariant-loop-run : goal.invariant-loop-run
invariant-loop-run g l =
    ChildKeys l.table.runs (l.run-index + 1) l.list l.end l.behind (map (λ keys. keys.now) l.children) × (length l.children ≡ 4)
