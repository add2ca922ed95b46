-- The room made for a tree suffices for every index of it. Assumes nothing.
use Rattle.std.proofs.Common.{◌≡◌, ℕ, ◌+◌, ◌/◌, ◌≤◌, min, List, [], ◌∷◌, map, length, take, drop, Some, None, Option, Ordering, refl, arith, length-drop, length-take}
use lib.ListN.{length-map}
use Rattle.std.proofs.lemmas.List.Sums.{sum_by-cons}
use Rattle.std.proofs.lemmas.Bool.{le-leb}
use Rattle.faults.specs.declared.Fault.{Fault}
use Rattle.orders.specs.declared.entry.Entry.{Entry}
use Rattle.shelves.specs.Tables.{stored}
use Rattle.shelves.specs.declared.rows.ListRow.{ListRow}
use Rattle.cascade.proofs.Spacing.{space}
use Rattle.cascade.specs.Trees.{KeyTree, all_keys, all_augmented}
use Rattle.layout.specs.KeyTrees.{key_tree}
use Rattle.register.specs.Limits.{most_lists, most_entries}
use Rattle.register.specs.Questions.{or_else, lists_fault, memory_fault, build_fault}
use Rattle.plan.proofs.Granting.{shaped}
use Rattle.service.specs.Rooms.{sizes_for}

module _ {K P : Type 0} where
  -- as many lists as rows
  pub list_count : (rs : List ListRow) (es : List (Entry K P)) → length (key_tree (stored rs es)) ≡ length rs
  list_count [] es = refl
  list_count (r ∷ rs) es = let more = list_count rs (drop r.count es) in omega arith

  -- no more keys than entries
  pub key-count : (rs : List ListRow) (es : List (Entry K P)) → all_keys (key_tree (stored rs es)) ≤ length es
  key-count [] es = omega arith
  key-count (r ∷ rs) es =
      let more = key-count rs (drop r.count es) in
      let own = length-map (take r.count es) (λ (e : Entry K P). e.key) in
      let taken = length-take r.count es in
      let left = length-drop r.count es in
      let s = sum_by-cons (λ (b : ℕ × List K). length b.1) (r.parent, map (λ (e : Entry K P). e.key) (take r.count es)) (key_tree (stored rs (drop r.count es))) in
      omega arith

or_same : (o m : Option Fault) → (o ≡ None → m ≡ None) → or_else o m ≡ o
or_same None m h = h refl
or_same (Some f) m h = refl

module _ {K : Type 0} (order : K → K → Ordering) (t : KeyTree K) (lists entries : ℕ) (few : length t ≤ lists) (small : all_keys t ≤ entries) where
  room-suffices : lists_fault order t ≡ None → memory_fault order t (sizes_for lists entries) ≡ None
  room-suffices granted =
      let s = shaped order t granted in
      let few128 = s.lists in
      let small40000 = s.entries in
      let T = all_augmented order t in
      let bound = space K order t in
      let p = min entries most_entries in
      let keys : T ≤ p + p / 3 = omega arith in
      let rows : T + length t ≤ p + p / 3 + min lists most_lists = omega arith in
      let payloads : all_keys t ≤ p = omega arith in
      rw (le-leb T (p + p / 3) keys, le-leb (T + length t) (p + p / 3 + min lists most_lists) rows, le-leb (all_keys t) p payloads)

  -- so that only the lists can be refused
  pub only-lists : build_fault order t (sizes_for lists entries) ≡ lists_fault order t
  only-lists = or_same (lists_fault order t) (memory_fault order t (sizes_for lists entries)) room-suffices
