-- Filters and counts of numbers in a row, a .. a + n - 1, and of lists whose elements are numbered so.
use Rattle.std.proofs.Common.{◌≡◌, ℕ, zero, suc, ◌+◌, ◌<◌, ◌≤◌, Bool, true, false, cond, List, [], ◌∷◌, map, length, get_or, take, filter, sym, refl, ap, ◌∙◌, add-zero, suc-add, zero-add, one-add, arith}
use Rattle.std.specs.List.{range_with_len, AllByRecursion as All}
use Rattle.orders.specs.Places.{bit, count}

-- a step from the number u to the next
pub next : {Y : Type 0} (f : ℕ → Y) (u k : ℕ) → f (u + suc k) ≡ f (u + 1 + k)
next f u k = ap f (omega arith)

-- tests, values and facts that are the same at each number from a on, n of them
module _ (a n : ℕ) where
  abbrev pub Among : (ℕ → Type 0) → Type 0
  Among P = (v : ℕ) → a ≤ v → v < a + n → P v

pub among-tail : (P : ℕ → Type 0) (a n : ℕ) → Among a (suc n) P → Among (a + 1) n P
among-tail P a n h v l k = h v (omega arith) (omega arith)

pub count-among : (f g : ℕ → Bool) (a n : ℕ) → Among a n (λ v. f v ≡ g v) → count f (range_with_len a n) ≡ count g (range_with_len a n)
count-among f g a zero h = refl
count-among f g a (suc n) h =
    let ih = count-among f g (a + 1) n (among-tail (λ v. f v ≡ g v) a n h) in
    let e = h a (omega arith) (omega arith) in
    rw e (omega arith)

pub map-among : {Y : Type 0} (p : ℕ → Bool) (f g : ℕ → Y) (a n : ℕ) → Among a n (λ v. f v ≡ g v) → map f (filter p (range_with_len a n)) ≡ map g (filter p (range_with_len a n))
map-among p f g a zero h = refl
map-among p f g a (suc n) h =
    let rest = filter p (range_with_len (a + 1) n) in
    let ih : map f rest ≡ map g rest = map-among p f g (a + 1) n (among-tail (λ v. f v ≡ g v) a n h) in
    let e = h a (omega arith) (omega arith) in
    grind (arith, ih, e)

pub all_among : (P : ℕ → Type 0) (a n : ℕ) → Among a n P → All P (range_with_len a n)
all_among P a zero h = tt
all_among P a (suc n) h = (h a (omega arith) (omega arith), all_among P (a + 1) n (among-tail P a n h))

module _ (f : ℕ → Bool) where
  -- numbers that fail at the front
  pub kept-skip : (a m n : ℕ) → ((w : ℕ) → a ≤ w → w < a + m → f w ≡ false) → filter f (range_with_len a (m + n)) ≡ filter f (range_with_len (a + m) n)
  kept-skip a zero n h = rw (zero-add, add-zero)
  kept-skip a (suc m) n h =
      let ih = kept-skip (a + 1) m n (λ w l g. h w (omega arith) (omega arith)) in
      rw (suc-add, h a (omega arith) (omega arith)) (ih ∙ ap (λ u. filter f (range_with_len u n)) (omega arith))

  pub count-split : (a m n : ℕ) → count f (range_with_len a (m + n)) ≡ count f (range_with_len a m) + count f (range_with_len (a + m) n)
  count-split a zero n = rw (zero-add n, add-zero, zero-add)
  count-split a (suc m) n =
      let ih = count-split (a + 1) m n in
      let e : count f (range_with_len (a + 1 + m) n) ≡ count f (range_with_len (a + suc m) n) = ap (λ u. count f (range_with_len u n)) (omega arith) in
      rw suc-add (omega arith)

  -- what passes is found at the number of those before it that pass
  pub kept_at : (a n k d : ℕ) → k < n → f (a + k) ≡ true
      → (get_or (filter f (range_with_len a n)) (count f (range_with_len a k)) d ≡ a + k) × (count f (range_with_len a k) < length (filter f (range_with_len a n)))
  kept_at a zero k d h e = absurd (omega arith)
  kept_at a (suc n) zero d h e =
      let g : f a ≡ true = ap f (sym (add-zero a)) ∙ e in
      rw g (sym (add-zero a), omega arith)
  kept_at a (suc n) (suc k) d h e =
      let ih = kept_at (a + 1) n k d (omega arith) (sym (next f a k) ∙ e) in
      (grind (arith, one-add, zero-add, ih.0), grind (arith, ih.1))

  -- and what is found passes
  pub kept_back : (a n j d : ℕ) → j < length (filter f (range_with_len a n))
      → (k : ℕ) × (k < n) × (get_or (filter f (range_with_len a n)) j d ≡ a + k) × (f (a + k) ≡ true) × (count f (range_with_len a k) ≡ j)
  kept_back a zero j d h = absurd (omega arith)
  kept_back a (suc n) j d h = go (kept_back (a + 1) n) (f a) refl j h
    where
      go : ((i e : ℕ) → i < length (filter f (range_with_len (a + 1) n)) → (k : ℕ) × (k < n) × (get_or (filter f (range_with_len (a + 1) n)) i e ≡ a + 1 + k) × (f (a + 1 + k) ≡ true) × (count f (range_with_len (a + 1) k) ≡ i))
          → (c : Bool) → f a ≡ c → (i : ℕ) → i < length (cond c (a ∷ filter f (range_with_len (a + 1) n)) (filter f (range_with_len (a + 1) n)))
          → (k : ℕ) × (k < suc n) × (get_or (cond c (a ∷ filter f (range_with_len (a + 1) n)) (filter f (range_with_len (a + 1) n))) i d ≡ a + k) × (f (a + k) ≡ true) × (count f (range_with_len a k) ≡ i)
      go ih true e zero l = (0, omega arith, sym (add-zero a), ap f (add-zero a) ∙ e, refl)
      go ih true e (suc i) l =
          let r = ih i d (omega arith) in
          let b : bit (f a) ≡ 1 = ap bit e in
          (suc r.0, omega arith, r.2 ∙ omega arith, next f a r.0 ∙ r.3, omega arith)
      go ih false e i l =
          let r = ih i d l in
          let b : bit (f a) ≡ 0 = ap bit e in
          (suc r.0, omega arith, r.2 ∙ omega arith, next f a r.0 ∙ r.3, omega arith)

module _ {X : Type 0} (d : X) where
  -- xs are the values of p at the numbers from u on
  abbrev pub Numbered : {Y : Type 0} → (X → Y) → (ℕ → Y) → ℕ → List X → Type 0
  Numbered g p u xs = (k : ℕ) → k < length xs → p (u + k) ≡ g (get_or xs k d)

  pub numbered-tail : {Y : Type 0} (g : X → Y) (p : ℕ → Y) (u : ℕ) (x : X) (xs : List X) → Numbered g p u (x ∷ xs) → Numbered g p (u + 1) xs
  numbered-tail g p u x xs h k l = sym (next p u k) ∙ h (suc k) (omega arith)

  pub numbered-head : {Y : Type 0} (g : X → Y) (p : ℕ → Y) (u : ℕ) (x : X) (xs : List X) → Numbered g p u (x ∷ xs) → p u ≡ g x
  numbered-head g p u x xs h = ap p (sym (add-zero u)) ∙ h 0 (omega arith)

  pub count-numbered : {Y : Type 0} (g : X → Y) (p : ℕ → Y) (f : Y → Bool) (u k : ℕ) (xs : List X) → k ≤ length xs → Numbered g p u xs
      → count (λ x. f (g x)) (take k xs) ≡ count (λ w. f (p w)) (range_with_len u k)
  count-numbered g p f u zero xs l h = refl
  count-numbered g p f u (suc k) [] l h = absurd (omega arith)
  count-numbered g p f u (suc k) (x ∷ xs) l h =
      let ih = count-numbered g p f (u + 1) k xs (omega arith) (numbered-tail g p u x xs h) in
      let e : bit (f (p u)) ≡ bit (f (g x)) = ap (λ y. bit (f y)) (numbered-head g p u x xs h) in
      omega arith
