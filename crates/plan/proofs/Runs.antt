-- Reading the list table of lists: each list's run, and how runs follow one another.
use Rattle.std.proofs.Common.{◌≡◌, ℕ, ◌+◌, ◌<◌, ◌≤◌, List, [], length, get_or, take, sum_by, sym, ap, ◌∙◌, arith}
use Rattle.std.proofs.lemmas.List.FromFn.{get_or-map-range_with_len}
use Rattle.std.proofs.lemmas.List.{get_or-take}
use Rattle.std.proofs.lemmas.List.Sums.{sum_by_more, sum_by-take-le}
use Rattle.cascade.specs.Trees.{KeyTree, Tagged, keys_at, all_keys}
use Rattle.plan.specs.Table.{run_at, Tabled}
use Rattle.plan.specs.declared.table.ListRun.{ListRun}
use Rattle.plan.specs.declared.table.ListTable.{ListTable}

-- the run of list v, at any default
pub run-at : {K : Type 0} (t : KeyTree K) (gs : List (List (Tagged K))) (table : ListTable) → Tabled t gs table
    → (v : ℕ) (d : ListRun) → v < length t → get_or table.runs v d ≡ run_at t gs v
run-at t gs table h v d l =
    let n = h.lists in
    sym (get_or-take table.len table.runs v d (omega arith))
    ∙ ap (λ rs. get_or rs v d) h.runs
    ∙ get_or-map-range_with_len (run_at t gs) 0 (length t) v v d l (omega arith)

-- a run begins where the one before it ends, and ends within the whole
module _ {K : Type 0} (gs : List (List (Tagged K))) (v : ℕ) (there : v < length gs) where
  pub start-next : sum_by length (take (v + 1) gs) ≡ sum_by length (take v gs) + length (get_or gs v [])
  start-next = sum_by_more length gs v [] there

  pub start-within : sum_by length (take v gs) + length (get_or gs v []) ≤ sum_by length gs
  start-within = let n = start-next in let w = sum_by-take-le length gs (v + 1) in omega arith

module _ {K : Type 0} (t : KeyTree K) (v : ℕ) (there : v < length t) where
  pub first_next : all_keys (take (v + 1) t) ≡ all_keys (take v t) + length (keys_at t v)
  first_next = sum_by_more (λ b. length b.1) t v (0, []) there

  pub first-within : all_keys (take v t) + length (keys_at t v) ≤ all_keys t
  first-within = let n = first_next in let w = sum_by-take-le (λ (b : ℕ × List K). length b.1) t (v + 1) in omega arith
