-- A list table that has the sieve's lists.
use Rattle.std.specs.Prelude.{◌≡◌, ℕ, ◌<◌, slice_index_or}
use Rattle.shelves.specs.Slots.{sieve_lists, sieve_parent}
use Rattle.plan.specs.Columns.{no_run}
use Rattle.plan.specs.declared.table.ListTable.{ListTable}

-- as many lists as the sieve has, each with the sieve's parent; that of list 0, the root, is ignored
pub record SieveTable (table : ListTable) : Type 0 where
  pub lists : table.len ≡ sieve_lists
  pub parents : (v : ℕ) → 0 < v → v < sieve_lists → (slice_index_or table.runs v no_run).parent ≡ sieve_parent v
