use Rattle.std.proofs.Common.{◌≡◌, ℕ, ◌<◌, get_or}
use Rattle.shelves.specs.Slots.{sieve_parent}
use Rattle.plan.specs.Columns.{no_run}
use Rattle.index.proofs.sieve.is_sieve.Given as goal

abbrev pub invariant-loop-list : goal.invariant-loop-list
invariant-loop-list l = (v : ℕ) → 0 < v → v < l.list → (get_or l.table.runs v no_run).parent ≡ sieve_parent v
