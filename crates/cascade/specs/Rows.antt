-- Rows of an augmented list: tallies by source of the elements in front of a place.
use Rattle.std.specs.Prelude.{ℕ, suc, List, map, length, take, nat_eq}
use Rattle.std.specs.List.{range_with_len}
use Rattle.orders.specs.Places.{count}
use Rattle.cascade.specs.declared.row.Row.{Row}
use Rattle.cascade.specs.Trees.{Tagged, own_source, child_source}

module _ {K : Type 0} where
  -- how many of the first p elements are from a source
  abbrev pub tally : (source p : ℕ) → List (Tagged K) → ℕ
  tally source p xs = count (λ x. nat_eq x.0 source) (take p xs)

  abbrev pub row_at : ℕ → List (Tagged K) → Row
  row_at p xs = record {
    own = tally own_source p xs;
    children = map (λ j. tally (child_source j) p xs) (range_with_len 0 4);
  }

  -- the rows of a list, for each p from 0 to its length
  abbrev pub rows_of : List (Tagged K) → List Row
  rows_of xs = map (λ p. row_at p xs) (range_with_len 0 (suc (length xs)))
