-- From the places that walks find to the answers of the plain register. Assumes nothing.
use Rattle.std.proofs.Common.{◌≡◌, ℕ, zero, suc, ◌+◌, ◌-◌, ◌<◌, ◌≤◌, Bool, true, false, List, [], ◌∷◌, ◌++◌, map, length, take, drop, Ordering, Less, Equal, Greater, sym, refl, ap, ◌∙◌, subst, ap₂, arith, drop-drop}
use Rattle.std.proofs.lemmas.List.{map-append}
use Rattle.std.proofs.lemmas.List.Sums.{sum_by-cons}
use Rattle.std.specs.Ordering.{is_le, is_lt}
use Rattle.orders.specs.declared.entry.Entry.{Entry}
use Rattle.orders.specs.declared.side.Side.{Side}
use Rattle.orders.specs.declared.side.Side.TheVariants.{Low, High}
use Rattle.orders.specs.Laws.{LawfulOrder}
use Rattle.orders.specs.Places.{bit, count, passed, place}
use Rattle.shelves.specs.Meaning.{payloads_of}
use Rattle.cascade.proofs.Counts.{count-le-length}
use Rattle.cascade.proofs.Walking.{path-step}
use Rattle.cascade.specs.Trees.{KeyTree, ParentsSmaller, parent_of, keys_at, path, all_keys}
use Rattle.register.specs.Answers.{span}
use Rattle.register.specs.Memory.{joined_lists}
use Rattle.register.specs.Register.{entries_at, spanned}
use Rattle.index.specs.Held.{paired, dressed}

-- what holds of every list of a tree holds along a path
module _ {K : Type 0} (t : KeyTree K) (smaller : ParentsSmaller t) {X : Type 0} (f g : ℕ → X) (same : (v : ℕ) → v < length t → f v ≡ g v) where
  path-within : (n w : ℕ) → w ≤ n → w < length t → map f (path t w) ≡ map g (path t w)
  path-within n zero h l = ap (λ (x : X). x ∷ []) (same 0 l)
  path-within zero (suc w) h l = absurd (omega arith)
  path-within (suc n) (suc w) h l =
      let s = smaller (suc w) (omega arith) l in
      let p = path-step t smaller (suc w) (omega arith) l in
      let u = parent_of t (suc w) in
      ap (map f) p
      ∙ map-append f (path t u) (suc w ∷ [])
      ∙ ap₂ (λ (xs : List X) (x : X). xs ++ (x ∷ [])) (path-within n u (omega arith) (omega arith)) (same (suc w) l)
      ∙ sym (map-append g (path t u) (suc w ∷ []))
      ∙ ap (map g) (sym p)

  pub along-path : (w : ℕ) → w < length t → map f (path t w) ≡ map g (path t w)
  along-path w l = path-within w w (omega arith) l

module _ {K P : Type 0} where
  payloads-part : (m n : ℕ) (ks : List K) (ps : List P) → n + m ≤ length ks → payloads_of (take m (drop n (paired ks ps))) ≡ take m (drop n ps)
  payloads-part zero n ks ps h = refl
  payloads-part (suc m) zero [] ps h = absurd (omega arith)
  payloads-part (suc m) zero (k ∷ ks) [] h = refl
  payloads-part (suc m) zero (k ∷ ks) (p ∷ ps) h = ap (λ (l : List P). p ∷ l) (payloads-part m zero ks ps (omega arith))
  payloads-part (suc m) (suc n) [] ps h = absurd (omega arith)
  payloads-part (suc m) (suc n) (k ∷ ks) [] h = refl
  payloads-part (suc m) (suc n) (k ∷ ks) (p ∷ ps) h = payloads-part (suc m) n ks ps (omega arith)

  entries-dressed : (t : KeyTree K) (ps : List P) (v : ℕ) → v < length t → entries_at (dressed t ps) v ≡ paired (keys_at t v) (drop (all_keys (take v t)) ps)
  entries-dressed [] ps v h = absurd (omega arith)
  entries-dressed (b ∷ t) ps zero h = refl
  entries-dressed (b ∷ t) ps (suc v) h =
      let n = sum_by-cons (λ (c : ℕ × List K). length c.1) b (take v t) in
      entries-dressed t (drop (length b.1) ps) v (omega arith)
      ∙ ap (paired (keys_at t v)) (drop-drop (all_keys (take v t)) (length b.1) ps ∙ ap (λ (k : ℕ). drop k ps) (sym n))

  -- the payloads of a span's entries, read from payload memory
  pub span-payloads : (t : KeyTree K) (ps : List P) (v first after : ℕ) → v < length t → first ≤ after → after ≤ length (keys_at t v)
      → payloads_of (spanned (dressed t ps) (span v first after)) ≡ take (after - first) (drop (all_keys (take v t) + first) ps)
  span-payloads t ps v first after h l m =
      ap (λ (es : List (Entry K P)). payloads_of (take (after - first) (drop first es))) (entries-dressed t ps v h)
      ∙ payloads-part (after - first) first (keys_at t v) (drop (all_keys (take v t)) ps) (omega arith)
      ∙ ap (take (after - first)) (drop-drop first (all_keys (take v t)) ps)

  pub payloads-joined : (ess : List (List (Entry K P))) → payloads_of (joined_lists ess) ≡ joined_lists (map payloads_of ess)
  payloads-joined [] = refl
  payloads-joined (es ∷ ess) = map-append (λ (e : Entry K P). e.payload) es (joined_lists ess) ∙ ap (λ (l : List P). payloads_of es ++ l) (payloads-joined ess)

  pub length-payloads_of : (es : List (Entry K P)) → length (payloads_of es) ≡ length es
  length-payloads_of [] = refl
  length-payloads_of (e ∷ es) = ap suc (length-payloads_of es)

count-mono : {X : Type 0} (f g : X → Bool) → ((x : X) → f x ≡ true → g x ≡ true) → (xs : List X) → count f xs ≤ count g xs
count-mono f g h [] = omega arith
count-mono f g h (x ∷ xs) = let ih = count-mono f g h xs in let b = one (f x) (g x) (h x) in omega arith
  where
    one : (a b : Bool) → (a ≡ true → b ≡ true) → bit a ≤ bit b
    one true b k = subst (λ (c : Bool). 1 ≤ bit c) (sym (k refl)) (omega arith)
    one false b k = omega arith

below-not-above : (o : Ordering) → is_lt o ≡ true → is_le o ≡ true
below-not-above Less h = refl
below-not-above Equal h = refl
below-not-above Greater h = h

-- the low-side place is not behind the high-side place
pub places-rise : {K : Type 0} (order : K → K → Ordering) (q : K) (ks : List K) → place order Low q ks ≤ place order High q ks
places-rise order q ks = count-mono (passed order Low q) (passed order High q) (λ k. below-not-above (order k q)) ks

-- and so it is where the low side's key is not above the high side's
pub places-up : {K : Type 0} (order : K → K → Ordering) → LawfulOrder order → (low high : K) → is_le (order low high) ≡ true → (ks : List K) → place order Low low ks ≤ place order High high ks
places-up order laws low high upward ks =
    count-mono (passed order Low low) (passed order High high) (λ k e. laws.not_above k low high (below-not-above (order k low) e) upward) ks

-- every place is within the list
pub place-within : {K : Type 0} (order : K → K → Ordering) (side : Side) (q : K) (ks : List K) → place order side q ks ≤ length ks
place-within order side q ks = count-le-length (passed order side q) ks
