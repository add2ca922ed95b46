-- When lists can be laid down, and where they lie.
use Rattle.std.specs.Prelude.{◌≡◌, ℕ, ◌+◌, ◌<◌, ◌≤◌, true, List, length, take, drop, sum_by}
use Rattle.std.specs.declared.cmp.Ordering.{Ordering}
use Rattle.std.specs.List.{slice_get}
use Rattle.orders.specs.Places.{in_order}
use Rattle.shelves.specs.Meaning.{Branch, entries_of, payloads_of}
use Rattle.cascade.specs.Trees.{KeyTree, keys_at, all_keys, keys_of, augmented_lists, augmented, all_augmented}
use Rattle.register.specs.Shape.{Shaped}
use Rattle.plan.specs.Table.{Tabled}
use Rattle.plan.specs.declared.table.ListTable.{ListTable}

-- the lists of a tree, with their table, in memories of k keys, r rows and p payloads
pub record CanLay {K : Type 0} (order : K → K → Ordering) (t : KeyTree K) (table : ListTable) (k r p : ℕ) : Type 0 where
  pub shaped : Shaped t
  pub ordered : (v : ℕ) → v < length t → in_order order (keys_at t v) ≡ true
  pub tabled : Tabled t (augmented_lists order t) table
  -- there is room for all
  pub key_room : all_augmented order t ≤ k
  pub row_room : all_augmented order t + length t ≤ r
  pub payload_room : all_keys t ≤ p

-- the payloads of list v of a shelf
abbrev pub payloads_at : {K P : Type 0} → List (Branch K P) → ℕ → List P
payloads_at bs v = payloads_of (entries_of (slice_get bs v))

module _ {K : Type 0} (order : K → K → Ordering) (t : KeyTree K) where
  -- where the run of list v begins in key memory
  abbrev pub start_of : ℕ → ℕ
  start_of v = sum_by length (take v (augmented_lists order t))

  -- each list behind list v lies in its run
  abbrev pub LaidBehind : ℕ → List K → Type 0
  LaidBehind v keys = (w : ℕ) → v < w → w < length t → take (length (augmented order t w)) (drop (start_of w) keys) ≡ keys_of (augmented order t w)
