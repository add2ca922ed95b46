-- Lists of keys with the payloads of payload memory. Assumes nothing.
use Rattle.std.proofs.Common.{◌≡◌, ℕ, zero, suc, ◌+◌, ◌<◌, ◌≤◌, List, [], ◌∷◌, ◌++◌, length, get_or, take, drop, set, sym, refl, ap, ◌∙◌, ap₂, append_assoc, suc-add, zero-add, arith, length-append, length-drop}
use lib.Seq.{drop-append_seam}
use Rattle.std.proofs.lemmas.List.Sums.{sum_by-cons}
use Rattle.orders.specs.declared.entry.Entry.{Entry}
use Rattle.shelves.specs.Meaning.{Branch, keys_of, payloads_of}
use Rattle.cascade.specs.Trees.{KeyTree, keys_at, all_keys}
use Rattle.layout.specs.KeyTrees.{key_tree}
use Rattle.register.specs.Memory.{payloads_laid}
use Rattle.register.specs.Register.{changed_at, amended_entry, amended_list}
use Rattle.index.specs.Held.{paired, dressed}

module _ {X : Type 0} where
  take_none : (k : ℕ) → take {A = X} k [] ≡ []
  take_none zero = refl
  take_none (suc k) = refl

  take-both : (m n : ℕ) (xs : List X) → take m xs ++ take n (drop m xs) ≡ take (m + n) xs
  take-both zero n xs = ap (λ (k : ℕ). take k xs) (sym (zero-add n))
  take-both (suc m) n [] = take_none n ∙ sym (take_none (suc m + n))
  take-both (suc m) n (x ∷ xs) = ap (λ (l : List X). x ∷ l) (take-both m n xs) ∙ ap (λ (k : ℕ). take k (x ∷ xs)) (sym (suc-add m n))

  drop-before : (f : X → X) (n i : ℕ) (xs : List X) → i < n → drop n (changed_at f i xs) ≡ drop n xs
  drop-before f zero i xs h = absurd (omega arith)
  drop-before f (suc n) i [] h = refl
  drop-before f (suc n) zero (x ∷ xs) h = refl
  drop-before f (suc n) (suc i) (x ∷ xs) h = drop-before f n i xs (omega arith)

  none-changed : (f : X → X) (k : ℕ) → changed_at f k [] ≡ []
  none-changed f zero = refl
  none-changed f (suc k) = refl

  drop-behind : (f : X → X) (n i : ℕ) (xs : List X) → drop n (changed_at f (n + i) xs) ≡ changed_at f i (drop n xs)
  drop-behind f zero i xs = ap (λ (k : ℕ). changed_at f k xs) (zero-add i)
  drop-behind f (suc n) i [] = ap (drop (suc n)) (none-changed f (suc n + i)) ∙ sym (none-changed f i)
  drop-behind f (suc n) i (x ∷ xs) = ap (λ (k : ℕ). drop (suc n) (changed_at f k (x ∷ xs))) (suc-add n i) ∙ drop-behind f n i xs

  pub length-changed : (f : X → X) (i : ℕ) (xs : List X) → length (changed_at f i xs) ≡ length xs
  length-changed f i [] = refl
  length-changed f zero (x ∷ xs) = refl
  length-changed f (suc i) (x ∷ xs) = ap suc (length-changed f i xs)

  -- what code writes is one element changed
  pub set-changed : (f : X → X) (i : ℕ) (xs : List X) (x : X) → i < length xs → x ≡ get_or xs i x → set xs i (f x) ≡ changed_at f i xs
  set-changed f i [] x h e = absurd (omega arith)
  set-changed f zero (y ∷ ys) x h e = ap (λ (z : X). f z ∷ ys) e
  set-changed f (suc i) (y ∷ ys) x h e = ap (λ (l : List X). y ∷ l) (set-changed f i ys x (omega arith) e)

keys-cons : {K : Type 0} (b : ℕ × List K) (t : KeyTree K) → all_keys (b ∷ t) ≡ length b.1 + all_keys t
keys-cons b t = sum_by-cons (λ c. length c.1) b t

module _ {K P : Type 0} where
  paired-keys : (ks : List K) (ps : List P) → length ks ≤ length ps → keys_of (paired ks ps) ≡ ks
  paired-keys [] ps h = refl
  paired-keys (k ∷ ks) [] h = absurd (omega arith)
  paired-keys (k ∷ ks) (p ∷ ps) h = ap (λ (l : List K). k ∷ l) (paired-keys ks ps (omega arith))

  paired-payloads : (ks : List K) (ps : List P) → payloads_of (paired ks ps) ≡ take (length ks) ps
  paired-payloads [] ps = refl
  paired-payloads (k ∷ ks) [] = refl
  paired-payloads (k ∷ ks) (p ∷ ps) = ap (λ (l : List P). p ∷ l) (paired-payloads ks ps)

  paired-back : (es : List (Entry K P)) (rest : List P) → paired (keys_of es) (payloads_of es ++ rest) ≡ es
  paired-back [] rest = refl
  paired-back (e ∷ es) rest = ap (λ (l : List (Entry K P)). e ∷ l) (paired-back es rest)

  length-keys_of : (es : List (Entry K P)) → length (keys_of es) ≡ length (payloads_of es)
  length-keys_of [] = refl
  length-keys_of (e ∷ es) = ap suc (length-keys_of es)

  -- the lists of a register without payloads
  pub tree-dressed : (t : KeyTree K) (ps : List P) → all_keys t ≤ length ps → key_tree (dressed t ps) ≡ t
  tree-dressed [] ps h = refl
  tree-dressed (b ∷ t) ps h =
      let n = keys-cons b t in
      let d = length-drop (length b.1) ps in
      ap₂ (λ (ks : List K) (u : KeyTree K). (b.0, ks) ∷ u) (paired-keys b.1 ps (omega arith)) (tree-dressed t (drop (length b.1) ps) (omega arith))

  -- its payloads are the front of payload memory
  pub payloads-dressed : (t : KeyTree K) (ps : List P) → payloads_laid (dressed t ps) ≡ take (all_keys t) ps
  payloads-dressed [] ps = refl
  payloads-dressed (b ∷ t) ps =
      ap₂ (λ (xs ys : List P). xs ++ ys) (paired-payloads b.1 ps) (payloads-dressed t (drop (length b.1) ps))
      ∙ take-both (length b.1) (all_keys t) ps
      ∙ ap (λ (k : ℕ). take k ps) (sym (keys-cons b t))

  -- laid down and read back
  pub dressed-back : (bs : List (Branch K P)) (rest : List P) → dressed (key_tree bs) (payloads_laid bs ++ rest) ≡ bs
  dressed-back [] rest = refl
  dressed-back (b ∷ bs) rest =
      let ps = payloads_of b.entries in
      let more = payloads_laid bs in
      let e : (ps ++ more) ++ rest ≡ ps ++ (more ++ rest) = append_assoc ps more rest in
      let d : drop (length (keys_of b.entries)) ((ps ++ more) ++ rest) ≡ more ++ rest =
      ap₂ drop (length-keys_of b.entries) e ∙ drop-append_seam ps (more ++ rest) in
      ap₂ (λ (es : List (Entry K P)) (cs : List (Branch K P)). record { parent = b.parent; entries = es } ∷ cs)
      (ap (paired (keys_of b.entries)) e ∙ paired-back b.entries (more ++ rest))
      (ap (dressed (key_tree bs)) d ∙ dressed-back bs rest)

  pub length-payloads : (bs : List (Branch K P)) → length (payloads_laid bs) ≡ all_keys (key_tree bs)
  length-payloads [] = refl
  length-payloads (b ∷ bs) =
      let a = length-append (payloads_of b.entries) (payloads_laid bs) in
      let c = keys-cons (b.parent, keys_of b.entries) (key_tree bs) in
      let d = length-keys_of b.entries in
      let ih = length-payloads bs in
      omega arith

  -- one payload changed is one entry amended
  module _ (joined : P → P → P) (by : P) where
    paired-changed : (ks : List K) (i : ℕ) (ps : List P) → paired ks (changed_at (λ x. joined x by) i ps) ≡ changed_at (amended_entry joined by) i (paired ks ps)
    paired-changed [] i ps = refl
    paired-changed (k ∷ ks) i [] = refl
    paired-changed (k ∷ ks) zero (p ∷ ps) = refl
    paired-changed (k ∷ ks) (suc i) (p ∷ ps) = ap (λ (l : List (Entry K P)). record { key = k; payload = p } ∷ l) (paired-changed ks i ps)

    paired-before : (ks : List K) (i : ℕ) (ps : List P) → length ks ≤ i → paired ks (changed_at (λ x. joined x by) i ps) ≡ paired ks ps
    paired-before [] i ps h = refl
    paired-before (k ∷ ks) i [] h = refl
    paired-before (k ∷ ks) zero (p ∷ ps) h = absurd (omega arith)
    paired-before (k ∷ ks) (suc i) (p ∷ ps) h = ap (λ (l : List (Entry K P)). record { key = k; payload = p } ∷ l) (paired-before ks i ps (omega arith))

    pub dressed-changed : (t : KeyTree K) (v i : ℕ) (ps : List P) → v < length t → i < length (keys_at t v)
        → dressed t (changed_at (λ x. joined x by) (all_keys (take v t) + i) ps) ≡ changed_at (amended_list joined i by) v (dressed t ps)
    dressed-changed [] v i ps h k = absurd (omega arith)
    dressed-changed (b ∷ t) zero i ps h k =
        let z : 0 + i ≡ i = omega arith in
        ap (λ (j : ℕ). dressed (b ∷ t) (changed_at (λ x. joined x by) j ps)) z
        ∙ ap₂ (λ (es : List (Entry K P)) (qs : List P). record { parent = b.0; entries = es } ∷ dressed t qs)
        (paired-changed b.1 i ps) (drop-before (λ x. joined x by) (length b.1) i ps k)
    dressed-changed (b ∷ t) (suc v) i ps h k =
        let n = length b.1 in
        let m = all_keys (take v t) + i in
        let s = keys-cons b (take v t) in
        let e : all_keys (b ∷ take v t) + i ≡ n + m = omega arith in
        ap (λ (j : ℕ). dressed (b ∷ t) (changed_at (λ x. joined x by) j ps)) e
        ∙ ap₂ (λ (es : List (Entry K P)) (qs : List P). record { parent = b.0; entries = es } ∷ dressed t qs)
        (paired-before b.1 (n + m) ps (omega arith)) (drop-behind (λ x. joined x by) n m ps)
        ∙ ap (λ (bs : List (Branch K P)). record { parent = b.0; entries = paired b.1 ps } ∷ bs) (dressed-changed t v i (drop n ps) (omega arith) k)
