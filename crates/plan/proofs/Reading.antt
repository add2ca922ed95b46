-- What a shelf answers, read in the tree of its keys.
use Rattle.std.proofs.Common.{◌≡◌, ℕ, zero, suc, ◌+◌, ◌<◌, List, [], ◌∷◌, length, drop, Some, unwrap_or, sym, refl, ap, ◌∙◌, arith}
use lib.ListN.{length-map}
use Rattle.std.specs.List.{slice_get}
use Rattle.orders.specs.declared.entry.Entry.{Entry}
use Rattle.shelves.specs.Meaning.{Branch, entries_of, parent_at, count_at, entry_at, keys_of}
use Rattle.cascade.specs.Trees.{parent_of, keys_at}
use Rattle.layout.specs.KeyTrees.{key_tree}
use Rattle.plan.proofs.Asking.{not_none}

module _ {K P : Type 0} where
  pub length-tree : (bs : List (Branch K P)) → length (key_tree bs) ≡ length bs
  length-tree bs = length-map bs (λ b. (b.parent, keys_of b.entries))

  pub parent-read : (bs : List (Branch K P)) (v : ℕ) → unwrap_or (parent_at bs v) 0 ≡ parent_of (key_tree bs) v
  parent-read [] v = refl
  parent-read (b ∷ bs) zero = refl
  parent-read (b ∷ bs) (suc v) = parent-read bs v

  pub keys-read : (bs : List (Branch K P)) (v : ℕ) → keys_at (key_tree bs) v ≡ keys_of (entries_of (slice_get bs v))
  keys-read [] v = refl
  keys-read (b ∷ bs) zero = refl
  keys-read (b ∷ bs) (suc v) = keys-read bs v

  pub count-read : (bs : List (Branch K P)) (v : ℕ) → count_at bs v ≡ length (keys_at (key_tree bs) v)
  count-read bs v = sym (ap length (keys-read bs v) ∙ length-map (entries_of (slice_get bs v)) (λ e. e.key))

  drop-keys : (es : List (Entry K P)) (p : ℕ) (e : Entry K P) → slice_get es p ≡ Some e → drop p (keys_of es) ≡ e.key ∷ drop (p + 1) (keys_of es)
  drop-keys [] p e h = absurd (not_none e (sym h))
  drop-keys (x ∷ es) zero e h = let s : x ≡ e = cc in ap (λ y. y.key ∷ keys_of es) s
  drop-keys (x ∷ es) (suc p) e h = let n : suc p + 1 ≡ suc (p + 1) = omega arith in drop-keys es p e h ∙ ap (λ m. e.key ∷ drop m (x.key ∷ keys_of es)) (sym n)

  -- what stands from place p on, where there is an entry
  pub entry_read : (bs : List (Branch K P)) (v p : ℕ) (e : Entry K P) → entry_at bs v p ≡ Some e → drop p (keys_at (key_tree bs) v) ≡ e.key ∷ drop (p + 1) (keys_at (key_tree bs) v)
  entry_read bs v p e h =
      let k = keys-read bs v in
      ap (drop p) k ∙ drop-keys (entries_of (slice_get bs v)) p e h ∙ ap (λ ks. e.key ∷ drop (p + 1) ks) (sym k)

  nth-none : (es : List (Entry K P)) (p : ℕ) → p < length es → ((e : Entry K P) → slice_get es p ≡ Some e → ⊥) → ⊥
  nth-none [] p h n = omega arith
  nth-none (x ∷ es) zero h n = n x refl
  nth-none (x ∷ es) (suc p) h n = nth-none es p (omega arith) n

  -- every place below the count has an entry
  pub entry-there : (bs : List (Branch K P)) (v p : ℕ) → p < count_at bs v → ((e : Entry K P) → entry_at bs v p ≡ Some e → ⊥) → ⊥
  entry-there bs v p h n = nth-none (entries_of (slice_get bs v)) p h n

  nil-none : (es : List (Entry K P)) → ((e : Entry K P) → slice_get es 0 ≡ Some e → ⊥) → keys_of es ≡ []
  nil-none [] n = refl
  nil-none (x ∷ es) n = absurd (n x refl)

  pub no-entry : (bs : List (Branch K P)) (v : ℕ) → ((e : Entry K P) → entry_at bs v 0 ≡ Some e → ⊥) → keys_at (key_tree bs) v ≡ []
  no-entry bs v n = keys-read bs v ∙ nil-none (entries_of (slice_get bs v)) n
