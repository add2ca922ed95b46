-- Lists in numbers: a run for each list, and columns, which have a number for each list. The questions about lists, and what
-- is worked out of their parents and counts.
use Rattle.std.specs.Prelude.{◌≡◌, ℕ, suc, ◌+◌, ◌-◌, ◌/◌, ◌<◌, ◌&&◌, List, length, take, Option, sum_by, filter, nat_eq, nat_le, nat_lt, slice_index_or}
use Rattle.std.specs.List.{range_with_len}
use Rattle.faults.specs.Refusals.{fault}
use Rattle.faults.specs.declared.Fault.{Fault}
use Rattle.faults.specs.declared.Reason.{Reason}
use Rattle.faults.specs.declared.Reason.TheVariants.{ListCount, ParentNotSmaller, TooManyEntries}
use Rattle.orders.specs.Places.{count}
use Rattle.cascade.specs.Trees.{KeyTree, parent_of, keys_at}
use Rattle.register.specs.Limits.{most_lists, most_entries}
use Rattle.register.specs.Questions.{ask, or_else, ask_each, count_fault, parent_fault, depth_fault, child_fault, entry_fault}
use Rattle.plan.specs.declared.table.ListRun.{ListRun}

abbrev pub no_run : ListRun
no_run = record { parent = 0; ordinal = 0; start = 0; length = 0; first = 0; count = 0 }

-- the run of list v
abbrev pub nth_run : List ListRun → ℕ → ListRun
nth_run runs v = slice_index_or runs v no_run

-- the columns of runs
abbrev pub parent_in : List ListRun → ℕ → ℕ
parent_in runs v = (nth_run runs v).parent

abbrev pub ordinal_in : List ListRun → ℕ → ℕ
ordinal_in runs v = (nth_run runs v).ordinal

abbrev pub length_in : List ListRun → ℕ → ℕ
length_in runs v = (nth_run runs v).length

abbrev pub count_in : List ListRun → ℕ → ℕ
count_in runs v = (nth_run runs v).count

-- the column has f v for each list v below n
abbrev pub Holds : (n : ℕ) → (f column : ℕ → ℕ) → Type 0
Holds n f column = (v : ℕ) → v < n → column v ≡ f v

-- each of n lists but the root has a smaller number in the column
abbrev pub Smaller : (n : ℕ) → (parents : ℕ → ℕ) → Type 0
Smaller n parents = (v : ℕ) → 0 < v → v < n → parents v < v

-- are there 1 to 128 lists
abbrev pub count_asked : (n : ℕ) → Option Fault
count_asked n = ask (nat_le 1 n && nat_le n most_lists) (fault ListCount n 0)

-- for each list from 1 up, is its parent smaller
abbrev pub parents_asked : (n : ℕ) → (parents : ℕ → ℕ) → Option Fault
parents_asked n parents = ask_each (λ v. ask (nat_lt (parents v) v) (fault ParentNotSmaller v (parents v))) (range_with_len 1 (n - 1))

-- has each list at most so much
abbrev pub most_asked : Reason → (most n : ℕ) → (column : ℕ → ℕ) → Option Fault
most_asked reason most n column = ask_each (λ v. ask (nat_le (column v) most) (fault reason v 0)) (range_with_len 0 n)

-- do the entries, list after list, stay within the limit
abbrev pub entries_asked : (n : ℕ) → List ListRun → Option Fault
entries_asked n runs = ask_each (λ v. ask (nat_le (sum_by (λ r. r.count) (take (suc v) runs)) most_entries) (fault TooManyEntries v 0)) (range_with_len 0 n)

-- the root has no edge above it, every other list one more than its parent
pub record Depths (n : ℕ) (parents depths : ℕ → ℕ) : Type 0 where
  pub root : depths 0 ≡ 0
  pub below : (v : ℕ) → 0 < v → v < n → depths v ≡ depths (parents v) + 1

-- how many lists before list v, the root aside, have the parent p
abbrev pub children_before : (parents : ℕ → ℕ) → (v p : ℕ) → ℕ
children_before parents v p = count (λ u. nat_eq (parents u) p) (range_with_len 1 (v - 1))

-- a list has its own keys, and of each child a fourth
abbrev pub length_by : (n : ℕ) (parents own lengths : ℕ → ℕ) → ℕ → ℕ
length_by n parents own lengths v = own v + sum_by (λ w. lengths w / 4) (filter (λ w. nat_eq (parents w) v) (range_with_len 1 (n - 1)))

-- list v: runs follow one another
abbrev pub run_by : List ListRun → ℕ → ListRun
run_by runs v = record (nth_run runs v) { start = sum_by (λ r. r.length) (take v runs); first = sum_by (λ r. r.count) (take v runs) }

-- what is read of list v
abbrev pub run_read : {K : Type 0} → KeyTree K → ℕ → ListRun
run_read t v = record { parent = parent_of t v; ordinal = 0; start = 0; length = 0; first = 0; count = 0 }

-- its run with its entries: its augmented list has its own keys at first
abbrev pub run_counted : {K : Type 0} → KeyTree K → ListRun → ℕ → ListRun
run_counted t run v = record run { length = length (keys_at t v); count = length (keys_at t v) }

-- what is asked of the lists besides the order of their keys
abbrev pub shape_fault : {K : Type 0} → KeyTree K → Option Fault
shape_fault t = or_else (count_fault t) (or_else (parent_fault t) (or_else (depth_fault t) (or_else (child_fault t) (entry_fault t))))
