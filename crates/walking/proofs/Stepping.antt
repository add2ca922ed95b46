-- The step along an edge as a loop: what is left of it gives the whole.
use Rattle.std.proofs.Common.{◌≡◌, ℕ, zero, suc, ◌+◌, ◌-◌, ◌*◌, ◌<◌, ◌≤◌, min, Bool, true, false, List, [], ◌∷◌, length, get_or, take, drop, sym, refl, ap, ◌∙◌, ap₂, inl, inr, arith}
use Rattle.std.proofs.lemmas.Bool.{cases_lt}
use Rattle.std.proofs.lemmas.List.{length-take-le, length-drop, get_or-take, get_or-drop, drop_more, drop_all}
use Rattle.cascade.specs.Searches.{steps, edge_step}

module _ {X : Type 0} (f : X → Bool) (xs : List X) where
  -- n keys from a place on are passed, and k more may be
  abbrev pub stepped : (from n k : ℕ) → ℕ × ℕ
  stepped from n k = (from + n + (steps f k (drop (from + n) xs)).0, n + (steps f k (drop (from + n) xs)).1)

  pub stepped-none : (samples : ℕ) → edge_step f samples xs ≡ stepped (4 * samples) 0 3
  stepped-none samples =
      let at : 4 * samples ≡ 4 * samples + 0 = omega arith in
      let none : (steps f 3 (drop (4 * samples + 0) xs)).1 ≡ 0 + (steps f 3 (drop (4 * samples + 0) xs)).1 = omega arith in
      ap (λ p. (p + (steps f 3 (drop p xs)).0, (steps f 3 (drop p xs)).1)) at
      ∙ ap (λ m. (4 * samples + 0 + (steps f 3 (drop (4 * samples + 0) xs)).0, m)) none

  steps-nil : (k : ℕ) → steps f k [] ≡ (0, 0)
  steps-nil zero = refl
  steps-nil (suc k) = refl

  ended : (from n k : ℕ) → steps f k (drop (from + n) xs) ≡ (0, 0) → stepped from n k ≡ (from + n, n)
  ended from n k e =
      let p : from + n + 0 ≡ from + n = omega arith in
      let q : n + 0 ≡ n = omega arith in
      ap (λ r. (from + n + r.0, n + r.1)) e ∙ ap₂ (λ a b. (a, b)) p q

  -- past the list's end
  pub stepped-past : (from n k : ℕ) → length xs ≤ from + n → stepped from n k ≡ (from + n, n)
  stepped-past from n k h = ended from n k (ap (steps f k) (drop_all (from + n) xs h) ∙ steps-nil k)

  pub stepped-all : (from n : ℕ) → stepped from n 0 ≡ (from + n, n)
  stepped-all from n = ended from n 0 refl

  module _ (from n k : ℕ) (x : X) (h : from + n < length xs) (r : x ≡ get_or xs (from + n) x) where
    read : drop (from + n) xs ≡ x ∷ drop (from + n + 1) xs
    read = drop_more xs (from + n) x h ∙ ap (λ y. y ∷ drop (from + n + 1) xs) (sym r)

    pub stepped-stop : f x ≡ false → stepped from n (suc k) ≡ (from + n, n + 1)
    stepped-stop e =
        let p : from + n + 0 ≡ from + n = omega arith in
        let s : steps f (suc k) (drop (from + n) xs) ≡ (0, 1) = ap (steps f (suc k)) read ∙ rw e in
        ap (λ r. (from + n + r.0, n + r.1)) s ∙ ap (λ a. (a, n + 1)) p

    pub stepped-more : f x ≡ true → stepped from n (suc k) ≡ stepped from (n + 1) k
    stepped-more e =
        let more : ℕ × ℕ = steps f k (drop (from + n + 1) xs) in
        let s : steps f (suc k) (drop (from + n) xs) ≡ (suc more.0, suc more.1) = ap (steps f (suc k)) read ∙ rw e in
        let p : from + n + suc more.0 ≡ from + n + 1 + more.0 = omega arith in
        let q : n + suc more.1 ≡ n + 1 + more.1 = omega arith in
        let at : from + n + 1 ≡ from + (n + 1) = omega arith in
        ap (λ r. (from + n + r.0, n + r.1)) s ∙ ap₂ (λ a b. (a, b)) p q
        ∙ ap (λ p. (p + (steps f k (drop p xs)).0, n + 1 + (steps f k (drop p xs)).1)) at

  -- the keys in reach from a place on, a part that begins at lo and ends before hi
  module _ (from lo hi : ℕ) (a : lo ≡ min from (length xs)) (b : hi ≡ min (from + 3) (length xs)) where
    abbrev pub near : List X
    near = take (hi - lo) (drop lo xs)

    near-long : length near ≡ hi - lo
    near-long = length-take-le (hi - lo) (drop lo xs) (omega (arith, length-drop lo xs))

    pub near-reads : (n : ℕ) (x : X) → n < length near → x ≡ get_or near n x → (n < 3) × (from + n < length xs) × (x ≡ get_or xs (from + n) x)
    near-reads n x h r =
        let k = near-long in
        let e : lo ≡ from = omega arith in
        (omega arith, omega arith, r ∙ get_or-take (hi - lo) (drop lo xs) n x (omega arith) ∙ get_or-drop lo xs n x ∙ ap (λ j. get_or xs (j + n) x) e)

    pub near-end : stepped from (length near) (3 - length near) ≡ (from + length near, length near)
    near-end =
        let k = near-long in
        elim (cases_lt (from + length near) (length xs)) [
          | inl h ↦
              let e : length near ≡ 3 = omega arith in
              ap (λ m. stepped from m (3 - m)) e ∙ stepped-all from 3 ∙ ap (λ m. (from + m, m)) (sym e)
          | inr h ↦ stepped-past from (length near) (3 - length near) h
        ]
