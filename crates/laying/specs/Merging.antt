-- The merge of a list's own keys with its children's samples: the sources, their heads, and the step to the least head.
use Rattle.std.specs.Prelude.{◌≡◌, ℕ, zero, suc, ◌+◌, ◌^◌, ◌<◌, ◌≤◌, cond, List, [], length, Some, None, Option, slice_index, slice_index_or, slice_set}
use Rattle.std.specs.declared.cmp.Ordering.{Ordering}
use Rattle.std.specs.List.{slice_get}
use Rattle.std.specs.Ordering.{is_lt}
use Rattle.cascade.specs.Lists.{samples, Sorted}
use Rattle.cascade.specs.Theorems.{before, part_of}
use Rattle.cascade.specs.Trees.{Tagged}
use Rattle.cascade.specs.declared.row.Row.{Row}
use Rattle.register.specs.Limits.{most_children}

-- the own keys, and the samples of each child
abbrev pub source_count : ℕ
source_count = suc most_children

-- how much of a source a row counts
abbrev pub taken_of : Row → ℕ → ℕ
taken_of row zero = row.own
taken_of row (suc j) = slice_index row.children j

-- a row with one more of a source
abbrev pub counted_in : Row → ℕ → Row
counted_in row zero = record { own = row.own + 1; children = row.children }
counted_in row (suc j) = record { own = row.own; children = slice_set row.children j (slice_index row.children j + 1) }

module _ {K : Type 0} where
  -- source 0 is the list's own keys, and source j + 1 the samples of its child with ordinal j
  abbrev pub source_keys : List K → List (List K) → ℕ → List K
  source_keys own children zero = own
  source_keys own children (suc j) = samples (slice_index_or children j [])

  -- the first key of a source that the row does not count
  abbrev pub head_of : List K → List (List K) → Row → ℕ → Option K
  head_of own children row source = slice_get (source_keys own children source) (taken_of row source)

module _ {K : Type 0} (order : K → K → Ordering) where
  -- a source's head, where it is below the best so far
  abbrev pub lesser : Option K → ℕ → Option (ℕ × K) → Option (ℕ × K)
  lesser None source best = best
  lesser (Some key) source None = Some (source, key)
  lesser (Some key) source (Some best) = cond (is_lt (order key best.1)) (Some (source, key)) (Some best)

  -- the least head of the first n sources; of same ones the first
  abbrev pub least_head : (ℕ → Option K) → ℕ → Option (ℕ × K)
  least_head heads zero = None
  least_head heads (suc n) = lesser (heads n) n (least_head heads n)

  -- that the list xs is the merge of its sources
  pub record Mergeable (xs : List (Tagged K)) (own : List K) (children : List (List K)) : Type 0 where
    pub short : length xs < 2 ^ 32
    pub sorted : Sorted (before order) xs
    pub sources : (s : ℕ) → s < source_count → source_keys own children s ≡ part_of s xs
    pub others : (s : ℕ) → source_count ≤ s → part_of s xs ≡ []
