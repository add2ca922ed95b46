-- The working table of a range: for each visited list the augmented places of both sides.
use Rattle.std.specs.Prelude.{◌≡◌, ℕ, ◌<◌, ◌≤◌, true, List, map, length, slice_index_or}
use Rattle.std.specs.declared.cmp.Ordering.{Ordering}
use Rattle.orders.specs.declared.side.Side.TheVariants.{Low, High}
use Rattle.shelves.specs.Slots.{sieve_lists}
use Rattle.cascade.specs.Rows.{tally}
use Rattle.cascade.specs.SlotTree.{visited, chosen, chosen_lists}
use Rattle.cascade.specs.Trees.{KeyTree, own_source, augmented}
use Rattle.cascade.specs.Walks.{arrival}
use Rattle.register.specs.Answers.{span}
use Rattle.register.specs.declared.answers.Span.{Span}

-- the places of a list in a table
abbrev pub places_at : List (ℕ × ℕ) → ℕ → ℕ × ℕ
places_at places v = slice_index_or places v (0, 0)

-- a list from its first place on to its second: the own tallies there
abbrev pub placed_span : {K : Type 0} → (K → K → Ordering) → KeyTree K → List (ℕ × ℕ) → ℕ → Span
placed_span order t places v =
    span v (tally own_source (places_at places v).0 (augmented order t v)) (tally own_source (places_at places v).1 (augmented order t v))

module _ {K : Type 0} (order : K → K → Ordering) (t : KeyTree K) (a b : ℕ) where
  -- each visited list has its places
  abbrev pub PlacesOf : (low high : K) → List (ℕ × ℕ) → Type 0
  PlacesOf low high places =
      (v : ℕ) → v < sieve_lists → visited a b v ≡ true → places_at places v ≡ ((arrival order t Low low v).0, (arrival order t High high v).0)

  -- the places of each chosen list are in its augmented list
  abbrev pub PlacesWithin : List (ℕ × ℕ) → Type 0
  PlacesWithin places =
      (v : ℕ) → v < sieve_lists → chosen a b v ≡ true
      → ((places_at places v).0 ≤ length (augmented order t v)) × ((places_at places v).1 ≤ length (augmented order t v))

  -- each chosen list from its first place on to its second
  abbrev pub spans_at : List (ℕ × ℕ) → List Span
  spans_at places = map (placed_span order t places) (chosen_lists a b)
