-- Lookups in a tree of key lists: the root search, then an edge step from each list of the path to the next.
use Rattle.std.specs.Prelude.{ℕ, zero, suc, Bool, cond, List, map, sum_by, ◌==◌}
use Rattle.std.specs.declared.cmp.Ordering.{Ordering}
use Rattle.orders.specs.declared.side.Side.{Side}
use Rattle.orders.specs.Places.{passed}
use Rattle.cascade.specs.Trees.{KeyTree, Tagged, own_source, child_source, parent_of, ordinal, path, augmented}
use Rattle.cascade.specs.Rows.{tally}
use Rattle.cascade.specs.Searches.{root_search, edge_step}

module _ {K : Type 0} (order : K → K → Ordering) where
  -- whether an element's key is passed on the way to q
  abbrev pub passes : Side → K → Tagged K → Bool
  passes side q x = passed order side q x.1

  module _ (t : KeyTree K) (side : Side) (q : K) where
    abbrev pub root_arrival : ℕ × ℕ
    root_arrival = root_search (passes side q) (augmented order t 0)

    -- from the augmented place p of the parent of list v into list v
    abbrev pub edge_arrival : (v p : ℕ) → ℕ × ℕ
    edge_arrival v p = edge_step (passes side q) (tally (child_source (ordinal t v)) p (augmented order t (parent_of t v))) (augmented order t v)

    -- the augmented place at list v, and the comparisons of the step into it; `most` bounds the edges
    abbrev pub arrival_within : (most v : ℕ) → ℕ × ℕ
    arrival_within zero v = root_arrival
    arrival_within (suc n) v = let above = arrival_within n (parent_of t v) in cond (v == 0) root_arrival (edge_arrival v above.0)

    abbrev pub arrival : ℕ → ℕ × ℕ
    arrival v = arrival_within v v

    -- the place in list v: the own tally at the augmented place
    abbrev pub walked_place : ℕ → ℕ
    walked_place v = tally own_source (arrival v).0 (augmented order t v)

    -- a lookup that ends at list w: from the root on, each list's number and place, and the comparisons of all steps
    abbrev pub stops : ℕ → List (ℕ × ℕ)
    stops w = map (λ v. (v, walked_place v)) (path t w)

    abbrev pub comparisons : ℕ → ℕ
    comparisons w = sum_by (λ v. (arrival v).1) (path t w)
