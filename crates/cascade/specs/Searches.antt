-- The two searches of a list for the first place that a test does not pass. Each answers the place and the number of tests.
use Rattle.std.specs.Prelude.{ℕ, zero, suc, ◌+◌, ◌*◌, ◌/◌, Bool, cond, List, [], ◌∷◌, length, drop, nat_lt}
use Rattle.cascade.specs.Lists.{test_at}

abbrev pub one_more : ℕ × ℕ → ℕ × ℕ
one_more r = (r.0, suc r.1)

-- while lo < hi: test the place in the middle; if it passes, lo becomes the next place, else hi becomes the middle.
-- `turns` bounds the turns
abbrev pub bisect : (ℕ → Bool) → (turns lo hi : ℕ) → ℕ × ℕ
bisect f zero lo hi = (lo, 0)
bisect f (suc n) lo hi =
    let mid = (lo + hi) / 2 in
    let right = bisect f n (mid + 1) hi in
    let left = bisect f n lo mid in
    let more = one_more (cond (f mid) right left) in
    cond (nat_lt lo hi) more (lo, 0)

module _ {X : Type 0} where
  abbrev pub root_search : (X → Bool) → List X → ℕ × ℕ
  root_search f xs = bisect (test_at f xs) (length xs) 0 (length xs)

  -- elements from the first on, n at most, until one does not pass or the list ends: how many pass, how many were tested
  abbrev pub steps : (X → Bool) → (n : ℕ) → List X → ℕ × ℕ
  steps f zero xs = (0, 0)
  steps f (suc n) [] = (0, 0)
  steps f (suc n) (x ∷ xs) = let more = steps f n xs in cond (f x) (suc more.0, suc more.1) (0, 1)

  -- from a tally g of samples to a place of the sampled list: from 4 g on, three elements at most
  abbrev pub edge_step : (X → Bool) → (g : ℕ) → List X → ℕ × ℕ
  edge_step f g xs = let more = steps f 3 (drop (4 * g) xs) in (4 * g + more.0, more.1)
