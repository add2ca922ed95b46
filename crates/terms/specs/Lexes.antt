-- The order of texts: its laws, that zeros behind two texts do not change it, and its steps by words of eight bytes.
use Rattle.std.specs.Prelude.{◌≡◌, ℕ, zero, suc, ◌+◌, ◌*◌, ◌^◌, ◌<◌, ◌≤◌, true, cond, ◌⊎◌, List, [], ◌∷◌, ◌++◌, map, length, take, drop, nat_lt, slice_index, refl}
use Rattle.std.specs.declared.cmp.Ordering.TheVariants.{Less, Equal, Greater}
use Rattle.std.specs.declared.cmp.Ordering.{Ordering}
use Rattle.std.proofs.Common.{sym, ap, ap₂, subst, ◌∙◌, inl, inr, add-mul, mul-le-mul_right, arith}
use Rattle.std.proofs.Math.Nat.{pow-succ'}
use Rattle.std.proofs.lemmas.List.FromFn.{fill_by_all}
use Rattle.std.proofs.lemmas.List.{drop_all, drop-drop, take-append-drop, length-take, length-drop, get_or-take, get_or-drop}
use Rattle.std.proofs.lemmas.Bool.{cases_order}
use Rattle.std.proofs.lemmas.Bool.Decides.{nat_tests}
use Rattle.std.specs.List.{concat, range_with_len, AllByRecursion}
use Rattle.std.specs.Simd.{first_chunks}
use Rattle.std.specs.Ordering.{is_le, nat_cmp, ordering_reverse, ordering_then}
use Rattle.terms.specs.Order.{text_order, big_endian}

pub text-exchange : (xs ys : List ℕ) → text_order ys xs ≡ ordering_reverse (text_order xs ys)
text-exchange [] [] = refl
text-exchange [] (y ∷ ys) = refl
text-exchange (x ∷ xs) [] = refl
text-exchange (x ∷ xs) (y ∷ ys) = let ih = text-exchange xs ys in grind (arith, nat_tests)

pub text-below : (xs ys zs : List ℕ) → text_order xs ys ≡ Less → text_order ys zs ≡ Less → text_order xs zs ≡ Less
text-below [] [] zs h k = cc
text-below [] (y ∷ ys) [] h k = cc
text-below [] (y ∷ ys) (z ∷ zs) h k = refl
text-below (x ∷ xs) [] zs h k = cc
text-below (x ∷ xs) (y ∷ ys) [] h k = cc
text-below (x ∷ xs) (y ∷ ys) (z ∷ zs) h k = let ih = text-below xs ys zs in grind (arith, nat_tests, ih)

pub text-not-above : (xs ys zs : List ℕ) → is_le (text_order xs ys) ≡ true → is_le (text_order ys zs) ≡ true → is_le (text_order xs zs) ≡ true
text-not-above [] ys [] h k = refl
text-not-above [] ys (z ∷ zs) h k = refl
text-not-above (x ∷ xs) [] zs h k = cc
text-not-above (x ∷ xs) (y ∷ ys) [] h k = cc
text-not-above (x ∷ xs) (y ∷ ys) (z ∷ zs) h k = let ih = text-not-above xs ys zs in grind (arith, nat_tests, ih)

abbrev by_heads : ℕ → ℕ → Ordering → Ordering
by_heads x y o = cond (nat_lt x y) Less (cond (nat_lt y x) Greater o)

heads-less : (x y : ℕ) (o : Ordering) → x < y → by_heads x y o ≡ Less
heads-less x y o h = grind (arith, nat_tests)

heads-greater : (x y : ℕ) (o : Ordering) → y < x → by_heads x y o ≡ Greater
heads-greater x y o h = grind (arith, nat_tests)

heads-same : (x y : ℕ) (o : Ordering) → x ≤ y → y ≤ x → by_heads x y o ≡ o
heads-same x y o h k = grind (arith, nat_tests)

-- positive in the first n places, and zero behind them
abbrev pub Padded : ℕ → List ℕ → Type 0
Padded n xs = ((k : ℕ) → k < n → 0 < slice_index xs k) × ((k : ℕ) → n ≤ k → slice_index xs k ≡ 0)

padded-tail : (n x : ℕ) (xs : List ℕ) → Padded (suc n) (x ∷ xs) → Padded n xs
padded-tail n x xs p = ((λ k h. p.0 (suc k) (omega arith)), λ k h. p.1 (suc k) (omega arith))

zeros-tail : (x : ℕ) (xs : List ℕ) → Padded 0 (x ∷ xs) → Padded 0 xs
zeros-tail x xs p = ((λ k h. absurd (omega arith)), λ k h. p.1 (suc k) (omega arith))

pub padded-order : (xs ys : List ℕ) (m n : ℕ) → length xs ≡ length ys → Padded m xs → Padded n ys → text_order xs ys ≡ text_order (take m xs) (take n ys)
padded-order [] [] zero zero e p q = refl
padded-order [] [] zero (suc n) e p q = refl
padded-order [] [] (suc m) zero e p q = refl
padded-order [] [] (suc m) (suc n) e p q = refl
padded-order [] (y ∷ ys) m n e p q = absurd (omega arith)
padded-order (x ∷ xs) [] m n e p q = absurd (omega arith)
padded-order (x ∷ xs) (y ∷ ys) zero zero e p q =
    let a = p.1 0 (omega arith) in
    let b = q.1 0 (omega arith) in
    heads-same x y _ (omega arith) (omega arith) ∙ padded-order xs ys 0 0 (omega arith) (zeros-tail x xs p) (zeros-tail y ys q)
padded-order (x ∷ xs) (y ∷ ys) zero (suc n) e p q =
    let a = p.1 0 (omega arith) in
    let b = q.0 0 (omega arith) in
    heads-less x y _ (omega arith)
padded-order (x ∷ xs) (y ∷ ys) (suc m) zero e p q =
    let a = p.0 0 (omega arith) in
    let b = q.1 0 (omega arith) in
    heads-greater x y _ (omega arith)
padded-order (x ∷ xs) (y ∷ ys) (suc m) (suc n) e p q =
    ap (by_heads x y) (padded-order xs ys m n (omega arith) (padded-tail m x xs p) (padded-tail n y ys q))

-- bytes as the digits of a number, in words of as many digits
big-below : (xs : List ℕ) → AllByRecursion (λ b. b < 256) xs → big_endian xs < 256 ^ length xs
big-below [] h = omega arith
big-below (x ∷ xs) h =
    let ih = big-below xs h.1 in
    let l = h.0 in
    let m : (x + 1) * 256 ^ length xs ≤ 256 * 256 ^ length xs = mul-le-mul_right (256 ^ length xs) (omega arith) in
    omega (arith, add-mul x 1 (256 ^ length xs), pow-succ' 256 (length xs))

-- the first digits decide, or where they are the same what stands behind them
digit-less : (x y p v w : ℕ) → x < y → v < p → x * p + v < y * p + w
digit-less x y p v w h l = let m : (x + 1) * p ≤ y * p = mul-le-mul_right p (omega arith) in omega (arith, add-mul x 1 p)

heads-of-words : (x y p v w : ℕ) (o : Ordering) → v < p → w < p → by_heads x y (by_heads v w o) ≡ by_heads (x * p + v) (y * p + w) o
heads-of-words x y p v w o hv hw = by (cases_order x y) (cases_order v w)
  where
    by : (x ≡ y) ⊎ ((x < y) ⊎ (y < x)) → (v ≡ w) ⊎ ((v < w) ⊎ (w < v)) → by_heads x y (by_heads v w o) ≡ by_heads (x * p + v) (y * p + w) o
    by (inr (inl h)) c = heads-less x y _ h ∙ sym (heads-less _ _ o (digit-less x y p v w h hv))
    by (inr (inr h)) c = heads-greater x y _ h ∙ sym (heads-greater _ _ o (digit-less y x p w v h hw))
    by (inl e) (inl f) =
        let m = ap (λ (k : ℕ). k * p) e in
        heads-same x y _ (omega arith) (omega arith) ∙ heads-same v w o (omega arith) (omega arith) ∙ sym (heads-same (x * p + v) (y * p + w) o (omega arith) (omega arith))
    by (inl e) (inr (inl f)) =
        let m = ap (λ (k : ℕ). k * p) e in
        heads-same x y _ (omega arith) (omega arith) ∙ heads-less v w o f ∙ sym (heads-less (x * p + v) (y * p + w) o (omega arith))
    by (inl e) (inr (inr f)) =
        let m = ap (λ (k : ℕ). k * p) e in
        heads-same x y _ (omega arith) (omega arith) ∙ heads-greater v w o f ∙ sym (heads-greater (x * p + v) (y * p + w) o (omega arith))

word-order : (xs ys cs ds : List ℕ) → length xs ≡ length ys → AllByRecursion (λ b. b < 256) xs → AllByRecursion (λ b. b < 256) ys → text_order (xs ++ cs) (ys ++ ds) ≡ by_heads (big_endian xs) (big_endian ys) (text_order cs ds)
word-order [] [] cs ds e h k = refl
word-order [] (y ∷ ys) cs ds e h k = absurd (omega arith)
word-order (x ∷ xs) [] cs ds e h k = absurd (omega arith)
word-order (x ∷ xs) (y ∷ ys) cs ds e h k =
    let l : length xs ≡ length ys = omega arith in
    ap (by_heads x y) (word-order xs ys cs ds l h.1 k.1)
    ∙ heads-of-words x y (256 ^ length xs) (big_endian xs) (big_endian ys) _ (big-below xs h.1) (subst (λ (n : ℕ). big_endian ys < 256 ^ n) (sym l) (big-below ys k.1))
    ∙ ap (λ (n : ℕ). by_heads (x * 256 ^ length xs + big_endian xs) (y * 256 ^ n + big_endian ys) (text_order cs ds)) l

-- r is the word of these eight bytes
pub record Word (bytes : List ℕ) (r : ℕ) : Type 0 where
  pub value : r ≡ big_endian bytes
  pub eight : length bytes ≡ 8
  pub fits : AllByRecursion (λ b. b < 256) bytes

heads-then : (x y : ℕ) (o : Ordering) → by_heads x y o ≡ ordering_then (nat_cmp x y) o
heads-then x y o = grind (arith, nat_tests)

-- the first words decide, or where they are the same what stands behind them
pub words-decide : (a b cs ds : List ℕ) (x y : ℕ) → Word a x → Word b y → text_order (a ++ cs) (b ++ ds) ≡ ordering_then (nat_cmp x y) (text_order cs ds)
words-decide a b cs ds x y v w =
    word-order a b cs ds (v.eight ∙ sym w.eight) v.fits w.fits
    ∙ sym (ap₂ (λ (m n : ℕ). by_heads m n (text_order cs ds)) v.value w.value)
    ∙ heads-then x y (text_order cs ds)

-- a list in words of eight bytes
pub words-joined : (k : ℕ) (xs : List ℕ) → length xs ≡ 8 * k → concat (first_chunks 8 k xs) ≡ xs
words-joined zero [] e = refl
words-joined zero (x ∷ xs) e = absurd (omega arith)
words-joined (suc k) xs e =
    ap (λ (l : List ℕ). take 8 xs ++ l) (words-joined k (drop 8 xs) (omega (arith, length-drop 8 xs)))
    ∙ take-append-drop 8 xs

-- r is the word of the eight bytes from `at` on
abbrev pub WordAt : List ℕ → ℕ → ℕ → Type 0
WordAt bytes at r = (r ≡ big_endian (take 8 (drop at bytes))) × AllByRecursion (λ b. b < 256) (take 8 (drop at bytes))

module _ (a b : List ℕ) (at x y : ℕ) (ha : at + 8 ≤ length a) (hb : at + 8 ≤ length b) (wa : WordAt a at x) (wb : WordAt b at y) where
  split : (xs : List ℕ) → take 8 (drop at xs) ++ drop (at + 8) xs ≡ drop at xs
  split xs = ap (λ (l : List ℕ). take 8 (drop at xs) ++ l) (sym (drop-drop 8 at xs)) ∙ take-append-drop 8 (drop at xs)

  step : text_order (drop at a) (drop at b) ≡ by_heads x y (text_order (drop (at + 8) a) (drop (at + 8) b))
  step =
      sym (ap₂ text_order (split a) (split b))
      ∙ word-order (take 8 (drop at a)) (take 8 (drop at b)) _ _ (simp (length-take, length-drop) (omega arith)) wa.1 wb.1
      ∙ sym (ap₂ (λ (m n : ℕ). by_heads m n (text_order (drop (at + 8) a) (drop (at + 8) b))) wa.0 wb.0)

  pub at_less : x < y → text_order (drop at a) (drop at b) ≡ Less
  at_less h = step ∙ heads-less x y _ h

  pub at_greater : y < x → text_order (drop at a) (drop at b) ≡ Greater
  at_greater h = step ∙ heads-greater x y _ h

  pub at_same : x ≤ y → y ≤ x → text_order (drop at a) (drop at b) ≡ text_order (drop (at + 8) a) (drop (at + 8) b)
  at_same h k = step ∙ heads-same x y _ h k

pub at-end : (a b : List ℕ) (at : ℕ) → length a ≤ at → length b ≤ at → text_order (drop at a) (drop at b) ≡ Equal
at-end a b at ha hb = ap₂ text_order (drop_all at a ha) (drop_all at b hb)

-- a part of a list by its places
pub part-by-places : (xs : List ℕ) (at n : ℕ) → at + n ≤ length xs → take n (drop at xs) ≡ map (λ k. slice_index xs (at + k)) (range_with_len 0 n)
part-by-places xs at n h =
    fill_by_all (λ k. slice_index xs (at + k)) (take n (drop at xs)) n 0 (simp (length-take, length-drop) (omega arith)) (λ k l. get_or-take n (drop at xs) k 0 l ∙ get_or-drop at xs k 0)
