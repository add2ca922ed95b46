-- The list table that belongs to lists and their augmented lists.
use Rattle.std.specs.Prelude.{◌≡◌, ℕ, List, [], map, length, take, Some, None, Ok, Err, sum_by, Result, slice_index_or}
use Rattle.std.specs.declared.cmp.Ordering.{Ordering}
use Rattle.std.specs.List.{range_with_len}
use Rattle.faults.specs.declared.Fault.{Fault}
use Rattle.cascade.specs.Trees.{KeyTree, Tagged, parent_of, keys_at, ordinal, all_keys, augmented_lists}
use Rattle.register.specs.Questions.{lists_fault}
use Rattle.plan.specs.declared.table.ListRun.{ListRun}
use Rattle.plan.specs.declared.table.ListTable.{ListTable}

module _ {K : Type 0} (t : KeyTree K) (gs : List (List (Tagged K))) where
  -- list v: runs follow one another, each as long as its list
  abbrev pub run_at : ℕ → ListRun
  run_at v = record {
    parent = parent_of t v;
    ordinal = ordinal t v;
    start = sum_by length (take v gs);
    length = length (slice_index_or gs v []);
    first = all_keys (take v t);
    count = length (keys_at t v);
  }

  abbrev pub runs_of : List ListRun
  runs_of = map run_at (range_with_len 0 (length t))

  -- the table of the lists t with the augmented lists gs
  pub record Tabled (table : ListTable) : Type 0 where
    pub lists : table.len ≡ length t
    pub runs : take table.len table.runs ≡ runs_of

-- what planning answers: the table, where no question about the lists gets a "no"; otherwise the refusal
abbrev pub Plans : {K : Type 0} → (K → K → Ordering) → KeyTree K → Result ListTable Fault → Type 0
Plans order t (Ok table) = (lists_fault order t ≡ None) × Tabled t (augmented_lists order t) table
Plans order t (Err f) = lists_fault order t ≡ Some f
