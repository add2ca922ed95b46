-- The root search as a loop: what is left of it gives the whole.
use Rattle.std.proofs.Common.{◌≡◌, ℕ, suc, ◌+◌, ◌-◌, ◌/◌, ◌<◌, ◌≤◌, Bool, true, false, List, length, get_or, sym, ap, ◌∙◌, arith}
use Rattle.cascade.specs.Lists.{test_at}
use Rattle.cascade.specs.Searches.{one_more, bisect, root_search}
use Rattle.cascade.proofs.Links.{between, between-right, between_left, between_done, test-get_or}

-- a result with n comparisons before it
abbrev after : ℕ → ℕ × ℕ → ℕ × ℕ
after n r = (r.0, n + r.1)

after_more : (n : ℕ) (r : ℕ × ℕ) → after n (one_more r) ≡ after (n + 1) r
after_more n r = let e : n + suc r.1 ≡ n + 1 + r.1 = omega arith in ap (λ m. (r.0, m)) e

module _ {X : Type 0} (f : X → Bool) (xs : List X) where
  -- the search has come to lo and hi after n comparisons
  pub record Halved (lo hi n : ℕ) : Type 0 where
    pub end : hi ≤ length xs
    pub few : n + (hi - lo) ≤ length xs
    pub left : root_search f xs ≡ after n (between (test_at f xs) lo hi)

  pub halved_none : Halved 0 (length xs) 0
  halved_none =
      let turns : length xs ≡ length xs - 0 = omega arith in
      let r : ℕ × ℕ = bisect (test_at f xs) (length xs - 0) 0 (length xs) in
      let none : r.1 ≡ 0 + r.1 = omega arith in
      record {
        end = omega arith;
        few = omega arith;
        left = ap (λ m. bisect (test_at f xs) m 0 (length xs)) turns ∙ ap (λ m. (r.0, m)) none;
      }

  module _ (lo hi n mid : ℕ) (h : lo < hi) (m : mid ≡ lo + (hi - lo) / 2) (was : Halved lo hi n) (x : X) (r : x ≡ get_or xs mid x) where
    middle : mid ≡ (lo + hi) / 2
    middle = omega arith

    tested : test_at f xs ((lo + hi) / 2) ≡ f x
    tested = let e = was.end in ap (test_at f xs) (sym middle) ∙ test-get_or f xs mid x (omega arith) ∙ ap f (sym r)

    pub halved-right : f x ≡ true → Halved (mid + 1) hi (n + 1)
    halved-right p =
        let e = was.few in
        record {
          end = was.end;
          few = omega arith;
          left = was.left ∙ ap (after n) (between-right (test_at f xs) lo hi h (tested ∙ p))
              ∙ after_more n (between (test_at f xs) ((lo + hi) / 2 + 1) hi)
              ∙ ap (λ k. after (n + 1) (between (test_at f xs) (k + 1) hi)) (sym middle);
        }

    pub halved-left : f x ≡ false → Halved lo mid (n + 1)
    halved-left p =
        let e = was.few in
        let l = was.end in
        record {
          end = omega arith;
          few = omega arith;
          left = was.left ∙ ap (after n) (between_left (test_at f xs) lo hi h (tested ∙ p))
              ∙ after_more n (between (test_at f xs) lo ((lo + hi) / 2))
              ∙ ap (λ k. after (n + 1) (between (test_at f xs) lo k)) (sym middle);
        }

  pub halved-all : (lo hi n : ℕ) → hi ≤ lo → Halved lo hi n → (lo, n) ≡ root_search f xs
  halved-all lo hi n h was =
      let none : n + 0 ≡ n = omega arith in
      sym (was.left ∙ ap (after n) (between_done (test_at f xs) lo hi h) ∙ ap (λ m. (lo, m)) none)
