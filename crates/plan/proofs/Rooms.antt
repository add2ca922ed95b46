-- What the lists of a table take in the three memories.
use Rattle.std.proofs.Common.{◌≡◌, ◌+◌, ◌-◌, ◌≤◌, [], length, get_or, None, sum_by, Ordering, sym, refl, ap, ◌∙◌, arith}
use Rattle.std.proofs.lemmas.List.{take_all}
use Rattle.cascade.specs.Trees.{KeyTree, all_keys, augmented_lists, all_augmented}
use Rattle.cascade.proofs.Augmenting.{length-augmented_from}
use Rattle.cascade.proofs.Spacing.{space}
use Rattle.register.specs.Questions.{or_else, Sizes, lists_fault, memory_fault}
use Rattle.plan.specs.Columns.{no_run}
use Rattle.plan.specs.Room.{no_table, last_run, keys_taken, payloads_taken, Countable, room_fault, table_fault}
use Rattle.plan.specs.Table.{run_at, Tabled}
use Rattle.plan.specs.declared.table.ListRun.{ListRun}
use Rattle.plan.specs.declared.table.ListTable.{ListTable}
use Rattle.plan.proofs.Granting.{shaped, some-lists}
use Rattle.plan.proofs.Runs.{run-at, start-next, first_next}

-- the table of no lists
pub none-tabled : {K : Type 0} → Tabled {K = K} [] [] no_table
none-tabled = record { lists = refl; runs = refl }

module _ {K : Type 0} (order : K → K → Ordering) (t : KeyTree K) (table : ListTable) (known : Tabled t (augmented_lists order t) table) (some : 1 ≤ length t) where
  last : last_run table ≡ run_at t (augmented_lists order t) (length t - 1)
  last = ap (λ n. get_or table.runs (n - 1) no_run) known.lists ∙ run-at t (augmented_lists order t) table known (length t - 1) no_run (omega arith)

  -- T places of key memory, N of payload memory
  pub keys-taken : keys_taken table ≡ all_augmented order t
  keys-taken =
      let gs = augmented_lists order t in
      let v = length t - 1 in
      let g : length gs ≡ length t = length-augmented_from order 0 t in
      ap (λ (r : ListRun). r.start + r.length) last ∙ sym (start-next gs v (omega arith)) ∙ ap (sum_by length) (take_all (v + 1) gs (omega arith))

  pub payloads-taken : payloads_taken table ≡ all_keys t
  payloads-taken =
      let v = length t - 1 in
      ap (λ (r : ListRun). r.first + r.count) last ∙ sym (first_next t v (omega arith)) ∙ ap all_keys (take_all (v + 1) t (omega arith))

  -- the question about memory, asked of the table
  pub memory-asked : (sizes : Sizes) → table_fault table sizes ≡ memory_fault order t sizes
  memory-asked sizes =
      let k = keys-taken in
      let n = known.lists in
      ap (λ x. or_else (room_fault 1 x sizes.keys) (or_else (room_fault 2 (x + table.len) sizes.rows) (room_fault 3 (payloads_taken table) sizes.payloads))) k
      ∙ ap (λ x. or_else (room_fault 1 (all_augmented order t) sizes.keys) (or_else (room_fault 2 (all_augmented order t + x) sizes.rows) (room_fault 3 (payloads_taken table) sizes.payloads))) n
      ∙ ap (λ x. or_else (room_fault 1 (all_augmented order t) sizes.keys) (or_else (room_fault 2 (all_augmented order t + length t) sizes.rows) (room_fault 3 x sizes.payloads))) payloads-taken

-- a table of lists that every question grants can be asked
pub countable : {K : Type 0} (order : K → K → Ordering) (t : KeyTree K) (table : ListTable) → lists_fault order t ≡ None → Tabled t (augmented_lists order t) table → Countable table
countable {K} order t table granted known =
    let some = some-lists order t granted in
    let s = shaped order t granted in
    let n = known.lists in
    let l = s.lists in
    let e = s.entries in
    let k = keys-taken order t table known some in
    let p = payloads-taken order t table known some in
    let m = space K order t in
    record { some = omega arith; few = omega arith; keys_fit = omega arith; payloads_fit = omega arith }
