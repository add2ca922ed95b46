-- Lists laid down in memory: what their table, keys and rows say of each.
use Rattle.std.proofs.Common.{◌≡◌, ℕ, suc, ◌+◌, ◌-◌, ◌*◌, ◌<◌, ◌≤◌, List, [], length, get_or, take, drop, sum_by, Ordering, sym, ap, ◌∙◌, ap₂, arith}
use Rattle.std.proofs.lemmas.List.{length-map, get_or-take, get_or-drop}
use Rattle.std.proofs.lemmas.List.FromFn.{length-map-range_with_len, get_or-map-range_with_len}
use Rattle.orders.specs.declared.KeyOrder.{Ghosts}
use Rattle.cascade.specs.declared.row.Row.{Row}
use Rattle.cascade.specs.Trees.{KeyTree, Tagged, parent_of, ordinal, all_keys, keys_of, augmented_lists, augmented}
use Rattle.cascade.specs.Rows.{row_at, rows_of}
use Rattle.cascade.proofs.Augmenting.{length-augmented_from}
use Rattle.cascade.proofs.Spacing.{space}
use Rattle.register.specs.Memory.{keys_laid, rows_laid}
use Rattle.register.specs.Shape.{Shaped}
use Rattle.plan.specs.Table.{run_at}
use Rattle.plan.specs.declared.table.ListRun.{ListRun}
use Rattle.walking.specs.declared.walk.Cascade.{Cascade}
use Rattle.walking.proofs.Runs.{run_ends, laid-ends, laid-part}

-- what a read past the end would give
abbrev pub no_run : ListRun
no_run = record { parent = 0; ordinal = 0; start = 0; length = 0; first = 0; count = 0 }

abbrev pub no_row : Row
no_row = record { own = 0; children = [] }

module _ {K : Type 0} where
  keys-sized : (xs : List (Tagged K)) → length (keys_of xs) ≡ length xs + 0
  keys-sized xs = let n : length xs ≡ length xs + 0 = omega arith in length-map xs (λ x. x.1) ∙ n

  rows-sized : (xs : List (Tagged K)) → length (rows_of xs) ≡ length xs + 1
  rows-sized xs = let n : suc (length xs) ≡ length xs + 1 = omega arith in length-map-range_with_len (λ p. row_at p xs) 0 (suc (length xs)) ∙ n

-- no augmented list is long
pub root-small : {K : Type 0} (order : K → K → Ordering) (t : KeyTree K) → Shaped t → 0 < length t → length (augmented order t 0) ≤ 53333
root-small {K} order t shaped l =
    let h : 0 < length (augmented_lists order t) = rw (length-augmented_from order 0 t) l in
    let n = shaped.entries in
    omega (arith, space K order t, run_ends (augmented_lists order t) 0 h)

module _ {K P : Type 0} {g : Ghosts K} (c : Cascade K P g) where
  abbrev t : KeyTree K
  t = c.tree.now

  abbrev gs : List (List (Tagged K))
  gs = augmented_lists g.order t

  abbrev run : ℕ → ListRun
  run v = get_or c.table.now.runs v no_run

  -- list v, read from the table
  module _ (v : ℕ) (l : v < length t) where
    pub run_is : run v ≡ run_at t gs v
    run_is =
        let h : v < c.table.now.len = rw c.laid.tabled.lists l in
        sym (get_or-take c.table.now.len c.table.now.runs v no_run h)
        ∙ ap (λ xs. get_or xs v no_run) c.laid.tabled.runs
        ∙ get_or-map-range_with_len (run_at t gs) 0 (length t) v v no_run l (omega arith)

    pub parent_is : (run v).parent ≡ parent_of t v
    parent_is = ap (λ r. r.parent) run_is

    pub ordinal-is : (run v).ordinal ≡ ordinal t v
    ordinal-is = ap (λ r. r.ordinal) run_is

    -- a list's payloads lie behind those of the lists before it
    pub first-is : (run v).first ≡ all_keys (take v t)
    first-is = ap (λ r. r.first) run_is

    pub list-few : v < 128
    list-few = let s = c.laid.shaped.lists in omega arith

  lists : length gs ≡ length t
  lists = length-augmented_from g.order 0 t

  key-front : take (sum_by length gs + length gs * 0) c.keys.now ≡ keys_laid gs
  key-front = let e : sum_by length gs + length gs * 0 ≡ sum_by length gs = omega arith in ap (λ n. take n c.keys.now) e ∙ c.laid.keyed

  row-front : take (sum_by length gs + length gs * 1) c.rows.now ≡ rows_laid gs
  row-front =
      let n = lists in
      let e : sum_by length gs + length gs * 1 ≡ sum_by length gs + length t = omega arith in
      ap (λ n. take n c.rows.now) e ∙ c.laid.rowed

  module _ (v : ℕ) (l : v < length t) where
    here : v < length gs
    here = rw lists l

    start_is : (run v).start ≡ sum_by length (take v gs)
    start_is = ap (λ r. r.start) (run_is v l)

    length-is : (run v).length ≡ length (augmented g.order t v)
    length-is = ap (λ r. r.length) (run_is v l)

    -- no sum over runs wraps
    pub run_small : (run v).start + (run v).length ≤ 53333
    run_small = let n = c.laid.shaped.entries in omega (arith, start_is, length-is, space K g.order t, run_ends gs v here)

    pub keys-end : (run v).start + (run v).length ≤ length c.keys.now
    keys-end = omega (arith, start_is, length-is, laid-ends keys_of 0 keys-sized gs c.keys.now key-front v here, keys-sized (augmented g.order t v))

    pub keys-are : take ((run v).start + (run v).length - (run v).start) (drop (run v).start c.keys.now) ≡ keys_of (augmented g.order t v)
    keys-are =
        let n : (run v).start + (run v).length - (run v).start ≡ length (keys_of (augmented g.order t v)) = omega (arith, length-is, keys-sized (augmented g.order t v)) in
        let s : (run v).start ≡ sum_by length (take v gs) + v * 0 = omega (arith, start_is) in
        ap₂ (λ m k. take m (drop k c.keys.now)) n s ∙ laid-part keys_of 0 keys-sized gs c.keys.now key-front v here

    module _ (p : ℕ) (k : p ≤ length (augmented g.order t v)) where
      pub row_small : (run v).start + v + p ≤ 60000
      row_small = omega (arith, run_small, length-is, list-few v l)

      pub row-there : (run v).start + v + p < length c.rows.now
      row-there = omega (arith, start_is, laid-ends rows_of 1 rows-sized gs c.rows.now row-front v here, rows-sized (augmented g.order t v))

      pub row_is : get_or c.rows.now ((run v).start + v + p) no_row ≡ row_at p (augmented g.order t v)
      row_is =
          let s : (run v).start + v ≡ sum_by length (take v gs) + v * 1 = omega (arith, start_is) in
          let n : p < length (rows_of (augmented g.order t v)) = omega (arith, rows-sized (augmented g.order t v)) in
          ap (λ m. get_or c.rows.now (m + p) no_row) s
          ∙ sym (get_or-drop (sum_by length (take v gs) + v * 1) c.rows.now p no_row)
          ∙ sym (get_or-take (length (rows_of (augmented g.order t v))) (drop (sum_by length (take v gs) + v * 1) c.rows.now) p no_row n)
          ∙ ap (λ xs. get_or xs p no_row) (laid-part rows_of 1 rows-sized gs c.rows.now row-front v here)
          ∙ get_or-map-range_with_len (λ j. row_at j (augmented g.order t v)) 0 (suc (length (augmented g.order t v))) p p no_row (omega arith) (omega arith)
