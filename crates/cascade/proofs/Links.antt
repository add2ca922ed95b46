-- For proofs about code: elements, samples and tallies at a place, and the turns of the root search.
use Rattle.std.proofs.Common.{◌≡◌, ℕ, zero, suc, ◌+◌, ◌-◌, ◌*◌, ◌/◌, ◌<◌, ◌≤◌, Bool, true, false, cond, eqb, List, [], ◌∷◌, length, get_or, take, sym, refl, ap, ◌∙◌, suc-add, arith}
use Rattle.std.proofs.lemmas.Bool.{lt-ltb, le-ltb}
use Rattle.std.proofs.lemmas.Bool.Decides.{nat_tests}
use Rattle.orders.specs.Places.{bit, count}
use Rattle.cascade.specs.Lists.{samples, test_at}
use Rattle.cascade.specs.Trees.{Tagged}
use Rattle.cascade.specs.Rows.{tally}
use Rattle.cascade.specs.Searches.{one_more, bisect}

three : (k : ℕ) → 4 * k + 3 ≡ suc (suc (suc (4 * k)))
three k = omega arith

next : (k : ℕ) → 4 * suc k + 3 ≡ suc (suc (suc (suc (4 * k + 3))))
next k = omega arith

module _ {X : Type 0} where
  -- the test at a place is that of the element which code reads there
  pub test-get_or : (f : X → Bool) (xs : List X) (i : ℕ) (d : X) → i < length xs → test_at f xs i ≡ f (get_or xs i d)
  test-get_or f [] i d h = absurd (omega arith)
  test-get_or f (x ∷ xs) zero d h = refl
  test-get_or f (x ∷ xs) (suc i) d h = test-get_or f xs i d (omega arith)

  -- the samples are the elements at places 3, 7, 11, ..
  pub get_or-samples : (xs : List X) (k : ℕ) (d : X) → get_or (samples xs) k d ≡ get_or xs (4 * k + 3) d
  get_or-samples [] k d = refl
  get_or-samples (a ∷ []) k d = sym (ap (λ n. get_or (a ∷ []) n d) (three k))
  get_or-samples (a ∷ (b ∷ [])) k d = sym (ap (λ n. get_or (a ∷ (b ∷ [])) n d) (three k))
  get_or-samples (a ∷ (b ∷ (c ∷ []))) k d = sym (ap (λ n. get_or (a ∷ (b ∷ (c ∷ []))) n d) (three k))
  get_or-samples (a ∷ (b ∷ (c ∷ (e ∷ xs)))) zero d = refl
  get_or-samples (a ∷ (b ∷ (c ∷ (e ∷ xs)))) (suc k) d =
      get_or-samples xs k d ∙ sym (ap (λ n. get_or (a ∷ (b ∷ (c ∷ (e ∷ xs)))) n d) (next k))

  pub count-more : (f : X → Bool) (xs : List X) (i : ℕ) (d : X) → i < length xs → count f (take (i + 1) xs) ≡ count f (take i xs) + bit (f (get_or xs i d))
  count-more f [] i d h = absurd (omega arith)
  count-more f (x ∷ xs) zero d h = omega arith
  count-more f (x ∷ xs) (suc i) d h = let ih = count-more f xs i d (omega arith) in rw suc-add (omega arith)

-- a row from the one before it
pub tally-more : {K : Type 0} (source p : ℕ) (xs : List (Tagged K)) (d : Tagged K) → p < length xs → tally source (p + 1) xs ≡ tally source p xs + bit (eqb (get_or xs p d).0 source)
tally-more source p xs d h = count-more (λ x. eqb x.0 source) xs p d h

module _ (f : ℕ → Bool) where
  -- any bound on the turns that is large enough will do
  bisect-any : (m n lo hi : ℕ) → hi ≤ lo + m → hi ≤ lo + n → bisect f m lo hi ≡ bisect f n lo hi
  bisect-any zero zero lo hi h k = refl
  bisect-any zero (suc n) lo hi h k = rw (le-ltb lo hi (omega arith))
  bisect-any (suc m) zero lo hi h k = rw (le-ltb lo hi (omega arith))
  bisect-any (suc m) (suc n) lo hi h k =
      let mid = (lo + hi) / 2 in
      let right = bisect-any m n (mid + 1) hi in
      let left = bisect-any m n lo mid in
      grind (arith, nat_tests, right, left)

  -- what is left of the search between lo and hi
  abbrev pub between : (lo hi : ℕ) → ℕ × ℕ
  between lo hi = bisect f (hi - lo) lo hi

  pub between_done : (lo hi : ℕ) → hi ≤ lo → between lo hi ≡ (lo, 0)
  between_done lo hi h = bisect-any (hi - lo) 0 lo hi (omega arith) (omega arith)

  turn : (lo hi : ℕ) → lo < hi → between lo hi ≡ one_more (cond (f ((lo + hi) / 2)) (bisect f (hi - lo - 1) ((lo + hi) / 2 + 1) hi) (bisect f (hi - lo - 1) lo ((lo + hi) / 2)))
  turn lo hi h = bisect-any (hi - lo) (suc (hi - lo - 1)) lo hi (omega arith) (omega arith) ∙ rw (lt-ltb lo hi h)

  -- a turn where the middle is passed, and one where it is not
  pub between-right : (lo hi : ℕ) → lo < hi → f ((lo + hi) / 2) ≡ true → between lo hi ≡ one_more (between ((lo + hi) / 2 + 1) hi)
  between-right lo hi h e =
      let mid = (lo + hi) / 2 in
      let t = turn lo hi h in
      let b = bisect-any (hi - lo - 1) (hi - (mid + 1)) (mid + 1) hi (omega arith) (omega arith) in
      grind (arith, t, b, e)

  pub between_left : (lo hi : ℕ) → lo < hi → f ((lo + hi) / 2) ≡ false → between lo hi ≡ one_more (between lo ((lo + hi) / 2))
  between_left lo hi h e =
      let mid = (lo + hi) / 2 in
      let t = turn lo hi h in
      let b = bisect-any (hi - lo - 1) (mid - lo) lo mid (omega arith) (omega arith) in
      grind (arith, t, b, e)
