-- The shape of the lists that an index can hold.
use Rattle.std.specs.Prelude.{ℕ, ◌<◌, ◌≤◌, length}
use Rattle.cascade.specs.Trees.{KeyTree, ParentsSmaller, ordinal, depth_of, all_keys}
use Rattle.register.specs.Limits.{most_lists, most_edges, most_children, most_entries}

pub record Shaped {K : Type 0} (t : KeyTree K) : Type 0 where
  pub lists : length t ≤ most_lists
  -- each parent is smaller than its child
  pub smaller : ParentsSmaller t
  -- no list is too deep
  pub shallow : (v : ℕ) → v < length t → depth_of t v ≤ most_edges
  -- no list is too late a child of its parent
  pub narrow : (v : ℕ) → v < length t → ordinal t v < most_children
  pub entries : all_keys t ≤ most_entries
