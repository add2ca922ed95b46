-- What is read from a shelf, from a run of keys and from the list table.
use Rattle.std.proofs.Common.{◌≡◌, ℕ, zero, suc, ◌+◌, ◌*◌, ◌<◌, List, [], ◌∷◌, length, get_or, take, Some, None, Option, Bor, Ordering, sym, refl, ap, ◌∙◌, arith}
use lib.ListN.{length-map}
use Rattle.std.proofs.lemmas.List.FromFn.{get_or-map-range_with_len}
use Rattle.std.proofs.lemmas.List.{get_or-take}
use Rattle.std.proofs.lemmas.Option.{slice_get-map, slice_get_past, slice_get_read}
use Rattle.std.specs.List.{slice_get}
use Rattle.std.specs.Option.{option_map, option_copied, is_some, IsSome}
use Rattle.std.specs.Slice.{IsItemAt}
use Rattle.orders.specs.declared.entry.Entry.{Entry}
use Rattle.shelves.specs.Meaning.{Branch, entries_of, entry_at}
use Rattle.shelves.specs.Meaning as meaning
use Rattle.cascade.specs.Lists.{samples}
use Rattle.cascade.specs.Trees.{KeyTree, Tagged, keys_at}
use Rattle.layout.specs.KeyTrees.{key_tree}
use Rattle.plan.specs.Table.{Tabled, run_at}
use Rattle.plan.specs.declared.table.ListRun.{ListRun}
use Rattle.plan.specs.declared.table.ListTable.{ListTable}
use Rattle.laying.specs.Merging.{lesser}
use Rattle.laying.specs.Children.{no_run, run_of}

-- something is found before the end
pub nth-some : {X : Type 0} (xs : List X) (i : ℕ) (o : Option X) → i < length xs → o ≡ slice_get xs i → IsSome o
nth-some [] i o h e = absurd (omega arith)
nth-some (x ∷ xs) zero o h e = ap is_some e
nth-some (x ∷ xs) (suc i) o h e = nth-some xs i o (omega arith) e

pub keys-at : {K P : Type 0} (bs : List (Branch K P)) (v : ℕ) → keys_at (key_tree bs) v ≡ meaning.keys_of (entries_of (slice_get bs v))
keys-at [] v = refl
keys-at (b ∷ bs) zero = refl
keys-at (b ∷ bs) (suc v) = keys-at bs v

pub length-key_tree : {K P : Type 0} (bs : List (Branch K P)) → length (key_tree bs) ≡ length bs
length-key_tree bs = length-map bs (λ b. (b.parent, meaning.keys_of b.entries))

own_key : {K P : Type 0} (bs : List (Branch K P)) (v p : ℕ) (o : Option (Entry K P)) → o ≡ entry_at bs v p → option_map (λ e. e.key) o ≡ slice_get (keys_at (key_tree bs) v) p
own_key bs v p o e =
    ap (option_map (λ e. e.key)) e
    ∙ sym (slice_get-map (λ e. e.key) (entries_of (slice_get bs v)) p)
    ∙ ap (λ ks. slice_get ks p) (sym (keys-at bs v))

own_first : {K P : Type 0} (order : K → K → Ordering) (o : Option (Entry K P)) → option_map (λ e. (0, e.key)) o ≡ lesser order (option_map (λ e. e.key) o) 0 None
own_first order None = refl
own_first order (Some e) = refl

-- the own keys are the first source
pub own-head : {K P : Type 0} (order : K → K → Ordering) (bs : List (Branch K P)) (v p : ℕ) (o : Option (Entry K P)) → o ≡ entry_at bs v p
    → option_map (λ e. (0, e.key)) o ≡ lesser order (slice_get (keys_at (key_tree bs) v) p) 0 None
own-head order bs v p o e = own_first order o ∙ ap (λ k. lesser order k 0 None) (own_key bs v p o e)

-- what `get` and `copied` give
copied-item : {X : Type 0} (xs : List X) (i : ℕ) (o : Option (Bor X)) → IsItemAt xs i o → option_copied o ≡ slice_get xs i
copied-item xs i None at = sym (slice_get_past xs i at.3)
copied-item xs i (Some x) at = sym (slice_get_read xs (length xs) i x.now refl at.3.0 at.1)

three : (k : ℕ) → 4 * k + 3 ≡ suc (suc (suc (4 * k)))
three k = omega arith

next : (k : ℕ) → 4 * suc k + 3 ≡ suc (suc (suc (suc (4 * k + 3))))
next k = omega arith

sample-at : {K : Type 0} (keys : List K) (k : ℕ) → slice_get keys (4 * k + 3) ≡ slice_get (samples keys) k
sample-at [] k = refl
sample-at (a ∷ []) k = ap (slice_get (a ∷ [])) (three k)
sample-at (a ∷ (b ∷ [])) k = ap (slice_get (a ∷ (b ∷ []))) (three k)
sample-at (a ∷ (b ∷ (c ∷ []))) k = ap (slice_get (a ∷ (b ∷ (c ∷ [])))) (three k)
sample-at (a ∷ (b ∷ (c ∷ (d ∷ keys)))) zero = refl
sample-at (a ∷ (b ∷ (c ∷ (d ∷ keys)))) (suc k) = ap (slice_get (a ∷ (b ∷ (c ∷ (d ∷ keys))))) (next k) ∙ sample-at keys k

-- the sample behind the first k ones
pub sample-copied : {K : Type 0} (keys : List K) (k i : ℕ) (o : Option (Bor K)) → i ≡ 4 * k + 3 → IsItemAt keys i o → option_copied o ≡ slice_get (samples keys) k
sample-copied keys k i o e at = copied-item keys i o at ∙ ap (slice_get keys) e ∙ sample-at keys k

module _ {K : Type 0} (t : KeyTree K) (gs : List (List (Tagged K))) (table : ListTable) (tabled : Tabled t gs table) where
  pub run-at : (v : ℕ) → v < length t → run_of table.runs v ≡ run_at t gs v
  run-at v h =
      let l = tabled.lists in
      sym (get_or-take table.len table.runs v no_run (omega arith))
      ∙ ap (λ (rs : List ListRun). get_or rs v no_run) tabled.runs
      ∙ get_or-map-range_with_len (run_at t gs) 0 (length t) v v no_run h (omega arith)

  -- the runs in front of those that no list has
  pub run-taken : (v : ℕ) → v < length t → get_or (take table.len table.runs) v no_run ≡ run_at t gs v
  run-taken v h =
      ap (λ (rs : List ListRun). get_or rs v no_run) tabled.runs ∙ get_or-map-range_with_len (run_at t gs) 0 (length t) v v no_run h (omega arith)
