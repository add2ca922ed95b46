-- Lists that have their numbers: what their sums come to, and that the table made of them is theirs.
use Rattle.std.proofs.Common.{◌≡◌, ℕ, ◌^◌, ◌<◌, ◌≤◌, List, [], length, take, sum_by, Ordering, ap, ◌∙◌, subst, arith}
use Rattle.std.proofs.lemmas.List.FromFn.{fill_by_all}
use Rattle.std.proofs.lemmas.List.{length-take-le, get_or-take, take_all}
use Rattle.cascade.specs.Trees.{KeyTree, keys_at, all_keys, augmented, augmented_lists, all_augmented}
use Rattle.cascade.proofs.Augmenting.{length-augmented_from}
use Rattle.cascade.proofs.Spacing.{space}
use Rattle.register.specs.Limits.{most_lists, most_entries}
use Rattle.register.specs.Shape.{Shaped}
use Rattle.plan.specs.Columns.{no_run, nth_run, parent_in, length_in, count_in, Holds, length_by, run_by}
use Rattle.plan.specs.Lists.{Numbers}
use Rattle.plan.specs.Table.{run_at, Tabled}
use Rattle.plan.specs.declared.lists.Lists.{Lists}
use Rattle.plan.specs.declared.table.ListRun.{ListRun}
use Rattle.plan.specs.declared.table.ListTable.{ListTable}
use Rattle.plan.proofs.Giving.{Alike}
use Rattle.plan.proofs.Linking.{sums_same, lengths-hold}

module _ {K : Type 0} (t : KeyTree K) (ls : Lists) (numbers : Numbers t ls) (shaped : Shaped t) where
  -- a column with the number of each list's entries
  entries-within : (f : ListRun → ℕ) → Holds (length t) (λ v. length (keys_at t v)) (λ v. f (nth_run ls.runs v)) → sum_by f (take ls.len ls.runs) ≤ most_entries
  entries-within f h =
      let e = numbers.lists in
      let l = shaped.lists in
      let z = numbers.size in
      let s = sums_same (λ (b : ℕ × List K). length b.1) t (0, []) f ls.runs no_run (omega arith) h ls.len (omega arith) in
      let a : all_keys (take ls.len t) ≡ all_keys t = ap all_keys (take_all ls.len t (omega arith)) in
      let n = shaped.entries in
      omega arith

  pub own-within : sum_by (λ (r : ListRun). r.length) (take ls.len ls.runs) ≤ most_entries
  own-within = entries-within (λ r. r.length) numbers.lengths

  module _ (order : K → K → Ordering) (new : Lists) (len : new.len ≡ ls.len) (size : length new.runs ≡ most_lists) (same : Alike ls.len ls.runs new.runs)
      (long : Holds ls.len (length_by ls.len (parent_in ls.runs) (length_in ls.runs) (length_in new.runs)) (length_in new.runs)) where
    lengths-are : Holds (length t) (λ v. length (augmented order t v)) (length_in new.runs)
    lengths-are =
        let P : ℕ → Type 0 = λ n. Holds n (length_by n (parent_in ls.runs) (length_in ls.runs) (length_in new.runs)) (length_in new.runs) in
        lengths-hold t (parent_in ls.runs) numbers.parents order shaped.smaller (length_in ls.runs) (length_in new.runs) numbers.lengths (subst P numbers.lists long)

    counts-are : Holds (length t) (λ v. length (keys_at t v)) (count_in new.runs)
    counts-are v h = let e = numbers.lists in ap (λ (r : ListRun). r.count) (same v (omega arith)) ∙ numbers.counts v h

    starts : (v : ℕ) → v ≤ length t → sum_by (λ (r : ListRun). r.length) (take v new.runs) ≡ sum_by length (take v (augmented_lists order t))
    starts v h =
        let g : length (augmented_lists order t) ≡ length t = length-augmented_from order 0 t in
        let l = shaped.lists in
        sums_same length (augmented_lists order t) [] (λ (r : ListRun). r.length) new.runs no_run (omega arith) (λ u k. lengths-are u (omega arith)) v (omega arith)

    firsts : (v : ℕ) → v ≤ length t → sum_by (λ (r : ListRun). r.count) (take v new.runs) ≡ all_keys (take v t)
    firsts v h = let l = shaped.lists in sums_same (λ (x : ℕ × List K). length x.1) t (0, []) (λ (r : ListRun). r.count) new.runs no_run (omega arith) counts-are v h

    pub keys-within : sum_by (λ (r : ListRun). r.length) (take new.len new.runs) < 2 ^ 64
    keys-within =
        let e = numbers.lists in
        let g : length (augmented_lists order t) ≡ length t = length-augmented_from order 0 t in
        let s = starts new.len (omega arith) in
        let a : sum_by length (take new.len (augmented_lists order t)) ≡ all_augmented order t = ap (sum_by length) (take_all new.len (augmented_lists order t) (omega arith)) in
        let n = shaped.entries in
        let m = space K order t in
        omega arith

    pub counts-within : sum_by (λ (r : ListRun). r.count) (take new.len new.runs) < 2 ^ 64
    counts-within =
        let e = numbers.lists in
        let s = firsts new.len (omega arith) in
        let a : all_keys (take new.len t) ≡ all_keys t = ap all_keys (take_all new.len t (omega arith)) in
        let n = shaped.entries in
        omega arith

    pub tabled : (table : ListTable) → table.len ≡ new.len → length table.runs ≡ most_lists
        → ((v : ℕ) → v < new.len → nth_run table.runs v ≡ run_by new.runs v) → Tabled t (augmented_lists order t) table
    tabled table l lr runs =
        let gs = augmented_lists order t in
        let e = numbers.lists in
        let few = shaped.lists in
        let run : (v : ℕ) → v < length t → run_by new.runs v ≡ run_at t gs v =
        λ v h.
        let r = same v (omega arith) in
        let a = numbers.parents v h in
        let b = numbers.ordinals v h in
        let c = starts v (omega arith) in
        let d = lengths-are v h in
        let f = firsts v (omega arith) in
        let k = numbers.counts v h in
        cc in
        let m : length (take table.len table.runs) ≡ length t = length-take-le table.len table.runs (omega arith) ∙ l ∙ len ∙ e in
        record {
          lists = l ∙ len ∙ e;
          runs =
              fill_by_all (run_at t gs) (take table.len table.runs) (length t) no_run m
              (λ v h. get_or-take table.len table.runs v no_run (omega arith) ∙ runs v (omega arith) ∙ run v h);
        }
