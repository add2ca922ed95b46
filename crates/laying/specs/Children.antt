-- The keys of a list's children, by ordinal.
use Rattle.std.specs.Prelude.{◌≡◌, ℕ, ◌+◌, ◌-◌, ◌<◌, ◌≤◌, List, [], take, drop, ◌≢◌, slice_index_or}
use Rattle.register.specs.Limits.{most_lists, most_children}
use Rattle.plan.specs.declared.table.ListRun.{ListRun}

-- what stands for a run past the end
abbrev pub no_run : ListRun
no_run = record { parent = 0; ordinal = 0; start = 0; length = 0; first = 0; count = 0 }

abbrev pub run_of : List ListRun → ℕ → ListRun
run_of runs w = slice_index_or runs w no_run

-- the ordinals of the first n lists tell siblings apart
pub record Ordinals (runs : List ListRun) (n : ℕ) : Type 0 where
  pub few : n ≤ most_lists
  pub below : (w : ℕ) → 0 < w → w < n → (run_of runs w).ordinal < most_children
  pub apart : (u w : ℕ) → 0 < u → u < n → 0 < w → w < n → (run_of runs u).parent ≡ (run_of runs w).parent → (run_of runs u).ordinal ≡ (run_of runs w).ordinal → u ≡ w

-- those of the first n lists of which v is the parent lie in the `size` keys behind the first `end`
abbrev pub RunsBehind : List ListRun → ℕ → ℕ → ℕ → ℕ → Type 0
RunsBehind runs n v end size = (w : ℕ) → 0 < w → w < n → (run_of runs w).parent ≡ v → (end ≤ (run_of runs w).start) × ((run_of runs w).start + (run_of runs w).length ≤ end + size)

module _ {K : Type 0} where
  -- the keys that a run holds, where memory from `end` on is `behind`
  abbrev pub keys_in : ListRun → ℕ → List K → List K
  keys_in run end behind = take run.length (drop (run.start - end) behind)

  -- the keys of those of the first n lists of which v is the parent, each at its ordinal; the root is nobody's child
  pub record ChildKeys (runs : List ListRun) (n v end : ℕ) (behind : List K) (children : List (List K)) : Type 0 where
    pub found : (w : ℕ) → 0 < w → w < n → (run_of runs w).parent ≡ v → slice_index_or children (run_of runs w).ordinal [] ≡ keys_in (run_of runs w) end behind
    pub none : (j : ℕ) → ((w : ℕ) → 0 < w → w < n → (run_of runs w).parent ≡ v → (run_of runs w).ordinal ≢ j) → slice_index_or children j [] ≡ []
