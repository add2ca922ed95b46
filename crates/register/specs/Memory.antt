-- What build lays down in the three memories for lists.
use Rattle.std.specs.Prelude.{List, [], ◌∷◌, ◌++◌, map}
use Rattle.shelves.specs.Meaning.{Branch, payloads_of}
use Rattle.cascade.specs.declared.row.Row.{Row}
use Rattle.cascade.specs.Rows.{rows_of}
use Rattle.cascade.specs.Trees.{Tagged, keys_of}

abbrev pub joined_lists : {X : Type 0} → List (List X) → List X
joined_lists [] = []
joined_lists (xs ∷ xss) = xs ++ joined_lists xss

module _ {K : Type 0} where
  -- the keys of augmented lists, one list after the other, and their rows
  abbrev pub keys_laid : List (List (Tagged K)) → List K
  keys_laid gs = joined_lists (map keys_of gs)

  abbrev pub rows_laid : List (List (Tagged K)) → List Row
  rows_laid gs = joined_lists (map rows_of gs)

-- the payloads of the lists, one list after the other
abbrev pub payloads_laid : {K P : Type 0} → List (Branch K P) → List P
payloads_laid bs = joined_lists (map (λ b. payloads_of b.entries) bs)
