-- Payloads laid down one list after the other.
use Rattle.std.proofs.Common.{◌≡◌, ℕ, zero, suc, ◌+◌, ◌<◌, ◌≤◌, List, [], ◌∷◌, ◌++◌, length, get_or, take, drop, set, Some, Ordering, sym, refl, ap, ◌∙◌, suc-add, zero-add, arith, length-append, length-take}
use lib.ListN.{length-map}
use lib.Seq.{paste}
use Rattle.std.proofs.lemmas.List.Edits.{paste_all, paste_more}
use Rattle.std.proofs.lemmas.List.{append-nil, append_assoc, take_at, drop_at, drop_all, drop-drop, get_or-map}
use Rattle.std.proofs.lemmas.Option.{slice_get_within, get_or_from_slice_get}
use Rattle.std.proofs.lemmas.List.Sums.{sum_by-cons, sum_by_more, sum_by-take-le}
use Rattle.std.specs.List.{slice_get}
use Rattle.orders.specs.declared.entry.Entry.{Entry}
use Rattle.shelves.specs.Meaning.{Branch, entries_of, entry_at, keys_of, payloads_of}
use Rattle.cascade.specs.Trees.{keys_at, all_keys, augmented_lists}
use Rattle.layout.specs.KeyTrees.{key_tree}
use Rattle.register.specs.Memory.{payloads_laid}
use Rattle.plan.specs.Table.{Tabled}
use Rattle.plan.specs.declared.table.ListRun.{ListRun}
use Rattle.plan.specs.declared.table.ListTable.{ListTable}
use Rattle.laying.proofs.Reading.{keys-at, length-key_tree, run-taken}
use Rattle.laying.specs.Children.{no_run}
use Rattle.laying.specs.Laying.{payloads_at}

-- a list written behind what has been written so far
paste-behind : {X : Type 0} (front memory xs : List X) (at n : ℕ) → length front ≡ at → n ≡ length xs
    → paste (front ++ drop at memory) at xs n ≡ (front ++ xs) ++ drop (at + n) memory
paste-behind front memory xs at n e m =
    paste_all (front ++ drop at memory) at xs n m
    ∙ ap (λ zs. zs ++ (xs ++ drop (at + n) (front ++ drop at memory))) (take_at front (drop at memory) at e)
    ∙ ap (λ zs. front ++ (xs ++ zs)) (sym (drop-drop n at (front ++ drop at memory)) ∙ ap (drop n) (drop_at front (drop at memory) at e) ∙ drop-drop n at memory)
    ∙ sym (append_assoc front xs (drop (at + n) memory))

module _ {X : Type 0} (memory now xs : List X) where
  -- one element more of a list that is written over a memory
  pub element-more : (i : ℕ) (x : X) → length memory ≡ length xs → i < length xs → now ≡ paste memory 0 xs i → get_or xs i x ≡ x → set now i x ≡ paste memory 0 xs (i + 1)
  element-more i x room h laid read =
      ap (λ zs. set zs i x) laid
      ∙ ap (λ (n : ℕ). set (paste memory 0 xs i) n x) (sym (zero-add i))
      ∙ ap (set (paste memory 0 xs i) (0 + i)) (sym read)
      ∙ paste_more memory 0 xs i x (omega arith) h

-- a list that is written over a memory of its length
pub paste-whole : {X : Type 0} (memory xs : List X) (n : ℕ) → length memory ≡ length xs → n ≡ length xs → paste memory 0 xs n ≡ xs
paste-whole memory xs n room m =
    paste_all memory 0 xs n m ∙ ap (λ zs. xs ++ zs) (drop_all (0 + n) memory (omega arith)) ∙ append-nil xs

module _ {K P : Type 0} where
  payloads-more : (bs : List (Branch K P)) (v : ℕ) → v < length bs → payloads_laid (take (v + 1) bs) ≡ payloads_laid (take v bs) ++ payloads_at bs v
  payloads-more [] v h = absurd (omega arith)
  payloads-more (b ∷ bs) zero h = append-nil (payloads_of b.entries)
  payloads-more (b ∷ bs) (suc v) h =
      ap (λ (n : ℕ). payloads_laid (take n (b ∷ bs))) (suc-add v 1)
      ∙ ap (λ zs. payloads_of b.entries ++ zs) (payloads-more bs v (omega arith))
      ∙ sym (append_assoc (payloads_of b.entries) (payloads_laid (take v bs)) (payloads_at bs v))

  length-payloads : (bs : List (Branch K P)) (v : ℕ) → length (payloads_laid (take v bs)) ≡ all_keys (take v (key_tree bs))
  length-payloads bs zero = refl
  length-payloads [] (suc v) = refl
  length-payloads (b ∷ bs) (suc v) =
      let ih = length-payloads bs v in
      let a = length-append (payloads_of b.entries) (payloads_laid (take v bs)) in
      let l = length-map b.entries (λ e. e.payload) in
      let k = length-map b.entries (λ e. e.key) in
      let s = sum_by-cons (λ (c : ℕ × List K). length c.1) (b.parent, keys_of b.entries) (take v (key_tree bs)) in
      omega arith

  -- one payload more of a list
  pub payload-more : (bs : List (Branch K P)) (v i : ℕ) (memory now : List P) (e : Entry K P) → length memory ≡ length (payloads_at bs v)
      → now ≡ paste memory 0 (payloads_at bs v) i → Some e ≡ entry_at bs v i → set now i e.payload ≡ paste memory 0 (payloads_at bs v) (i + 1)
  payload-more bs v i memory now e room laid read =
      let ps = payloads_at bs v in
      let entries = entries_of (slice_get bs v) in
      let l = length-map entries (λ x. x.payload) in
      let h = slice_get_within entries i e (sym read) in
      element-more memory now ps i e.payload room (omega arith) laid
      (get_or-map (λ x. x.payload) entries i e e.payload h ∙ ap (λ (x : Entry K P). x.payload) (get_or_from_slice_get entries i e e (sym read)))

  pub same-lengths : (bs : List (Branch K P)) (v : ℕ) → length (keys_at (key_tree bs) v) ≡ length (payloads_at bs v)
  same-lengths bs v = ap length (keys-at bs v) ∙ length-map (entries_of (slice_get bs v)) (λ x. x.key) ∙ sym (length-map (entries_of (slice_get bs v)) (λ x. x.payload))

  keys-until : (bs : List (Branch K P)) (v : ℕ) → v < length bs → all_keys (take (v + 1) (key_tree bs)) ≡ all_keys (take v (key_tree bs)) + length (payloads_at bs v)
  keys-until bs v h =
      let l = length-key_tree bs in
      sum_by_more (λ (c : ℕ × List K). length c.1) (key_tree bs) v (0, []) (omega arith) ∙ ap (λ (n : ℕ). all_keys (take v (key_tree bs)) + n) (same-lengths bs v)

  list-room : (bs : List (Branch K P)) (v : ℕ) → v < length bs → all_keys (take v (key_tree bs)) + length (payloads_at bs v) ≤ all_keys (key_tree bs)
  list-room bs v h =
      let k = keys-until bs v h in
      let all = sum_by-take-le (λ (b : ℕ × List K). length b.1) (key_tree bs) (v + 1) in
      omega arith

  -- the payloads of one list more
  pub lists-more : (bs : List (Branch K P)) (v : ℕ) (memory : List P) (at n : ℕ) → v < length bs → at ≡ all_keys (take v (key_tree bs)) → n ≡ length (payloads_at bs v)
      → paste (payloads_laid (take v bs) ++ drop (all_keys (take v (key_tree bs))) memory) at (payloads_at bs v) n
      ≡ payloads_laid (take (v + 1) bs) ++ drop (all_keys (take (v + 1) (key_tree bs))) memory
  lists-more bs v memory at n h a m =
      let k = keys-until bs v h in
      let e : at + n ≡ all_keys (take (v + 1) (key_tree bs)) = omega arith in
      ap (λ (i : ℕ). paste (payloads_laid (take v bs) ++ drop i memory) at (payloads_at bs v) n) (sym a)
      ∙ paste-behind (payloads_laid (take v bs)) memory (payloads_at bs v) at n (length-payloads bs v ∙ sym a) m
      ∙ ap (λ zs. zs ++ drop (at + n) memory) (sym (payloads-more bs v h))
      ∙ ap (λ (i : ℕ). payloads_laid (take (v + 1) bs) ++ drop i memory) e

  -- where the table has the payloads of a list
  pub payload-run : (order : K → K → Ordering) (bs : List (Branch K P)) (table : ListTable) → Tabled (key_tree bs) (augmented_lists order (key_tree bs)) table
      → (v : ℕ) → v < length (take table.len table.runs)
      → let run = get_or (take table.len table.runs) v no_run in
      (v < length bs) × (run.first ≡ all_keys (take v (key_tree bs))) × (run.count ≡ length (payloads_at bs v)) × (run.first + run.count ≤ all_keys (key_tree bs))
  payload-run order bs table tabled v h =
      let lists = tabled.lists in
      let l = length-key_tree bs in
      let n = length-take table.len table.runs in
      let inside : v < length bs = omega arith in
      let run = run-taken (key_tree bs) (augmented_lists order (key_tree bs)) table tabled v (omega arith) in
      let first = ap (λ (r : ListRun). r.first) run in
      let count = ap (λ (r : ListRun). r.count) run ∙ same-lengths bs v in
      let room = list-room bs v inside in
      (inside, first, count, omega arith)
