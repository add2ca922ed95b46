-- The first key below the one before it, with its place counted from the front of the whole list.
use Rattle.std.proofs.Common.{◌≡◌, ℕ, suc, ◌+◌, true, false, cond, List, [], ◌∷◌, drop, Some, None, Option, Ordering, sym, refl, ap, ◌∙◌, arith}
use Rattle.std.specs.Option.{option_map}
use Rattle.std.specs.Ordering.{is_lt}
use Rattle.register.specs.Questions.{descent_after, descent}

module _ {K : Type 0} (order : K → K → Ordering) where
  abbrev pub descent_from : ℕ → K → List K → Option ℕ
  descent_from n k [] = None
  descent_from n k (x ∷ xs) = let later = descent_from (n + 1) x xs in cond (is_lt (order x k)) (Some n) later

  shift : (n : ℕ) (o : Option ℕ) → option_map (λ p. n + 1 + p) o ≡ option_map (λ p. n + p) (option_map suc o)
  shift n None = refl
  shift n (Some p) = let e : n + 1 + p ≡ n + suc p = omega arith in ap Some e

  from-after : (n : ℕ) (k : K) (xs : List K) → descent_from n k xs ≡ option_map (λ p. n + p) (descent_after order k xs)
  from-after n k [] = refl
  from-after n k (x ∷ xs) =
      let ih = from-after (n + 1) x xs in
      elim (is_lt (order x k)) as (λ b. cond b (Some n) (descent_from (n + 1) x xs) ≡ option_map (λ p. n + p) (cond b (Some 0) (option_map suc (descent_after order x xs)))) [
        | true ↦ let e : n ≡ n + 0 = omega arith in ap Some e
        | false ↦ ih ∙ shift n (descent_after order x xs)
      ]

  one_on : (o : Option ℕ) → option_map (λ p. 1 + p) o ≡ option_map suc o
  one_on None = refl
  one_on (Some p) = let e : 1 + p ≡ suc p = omega arith in ap Some e

  pub from_first : (k : K) (ks : List K) → descent_from 1 k ks ≡ descent order (k ∷ ks)
  from_first k ks = from-after 1 k ks ∙ one_on (descent_after order k ks)

  -- one key on
  module _ (n : ℕ) (k x : K) (ks : List K) (there : drop n ks ≡ x ∷ drop (n + 1) ks) where
    pub from-lower : is_lt (order x k) ≡ true → descent_from n k (drop n ks) ≡ Some n
    from-lower e = ap (descent_from n k) there ∙ ap (λ b. cond b (Some n) (descent_from (n + 1) x (drop (n + 1) ks))) e

    pub from_more : is_lt (order x k) ≡ false → descent_from (n + 1) x (drop (n + 1) ks) ≡ descent_from n k (drop n ks)
    from_more e = sym (ap (descent_from n k) there ∙ ap (λ b. cond b (Some n) (descent_from (n + 1) x (drop (n + 1) ks))) e)
