-- Numbers that pass a test, in rising order.
use Rattle.std.proofs.Common.{◌≡◌, ℕ, zero, suc, ◌+◌, ◌-◌, ◌<◌, ◌≤◌, Bool, true, false, cond, List, [], ◌∷◌, ◌++◌, map, length, filter, sym, refl, ap, ◌∙◌, ap₂, arith}
use Rattle.std.specs.List.{range_with_len}
use Rattle.std.proofs.lemmas.List.FromFn.{map-range_with_len_more}
use Rattle.std.proofs.lemmas.List.Elements.{filter-append}
use Rattle.std.proofs.lemmas.List.{map-id, append-nil}
use Rattle.cascade.proofs.Counts.{length-kept}
use Rattle.cascade.proofs.Numbering.{count-split}

counting_more : (v : ℕ) → range_with_len 0 (v + 1) ≡ range_with_len 0 v ++ (v ∷ [])
counting_more v = sym (map-id (range_with_len 0 (v + 1))) ∙ map-range_with_len_more (λ x. x) 0 v v (omega arith) ∙ ap (λ xs. xs ++ (v ∷ [])) (map-id (range_with_len 0 v))

module _ (p : ℕ → Bool) where
  kept_next : (v : ℕ) → filter p (range_with_len 0 (v + 1)) ≡ filter p (range_with_len 0 v) ++ filter p (v ∷ [])
  kept_next v = ap (filter p) (counting_more v) ∙ filter-append p (range_with_len 0 v) (v ∷ [])

  pub kept-yes : (v : ℕ) → p v ≡ true → filter p (range_with_len 0 (v + 1)) ≡ filter p (range_with_len 0 v) ++ (v ∷ [])
  kept-yes v e = kept_next v ∙ ap (λ b. filter p (range_with_len 0 v) ++ cond b (v ∷ []) []) e

  pub kept-no : (v : ℕ) → p v ≡ false → filter p (range_with_len 0 (v + 1)) ≡ filter p (range_with_len 0 v)
  kept-no v e = kept_next v ∙ ap (λ b. filter p (range_with_len 0 v) ++ cond b (v ∷ []) []) e ∙ append-nil (filter p (range_with_len 0 v))

  pub kept-few : (v n : ℕ) → v ≤ n → length (filter p (range_with_len 0 v)) ≤ length (filter p (range_with_len 0 n))
  kept-few v n h =
      let e : v + (n - v) ≡ n = omega arith in
      let c = ap (λ m. length (filter p (range_with_len 0 m))) e in
      omega (arith, length-kept p (range_with_len 0 v), length-kept p (range_with_len 0 (v + (n - v))), count-split p 0 v (n - v))

-- maps that agree on the numbers that pass
pub map-kept : {Y : Type 0} (p : ℕ → Bool) (f g : ℕ → Y) (a n : ℕ) → ((v : ℕ) → a ≤ v → v < a + n → p v ≡ true → f v ≡ g v)
    → map f (filter p (range_with_len a n)) ≡ map g (filter p (range_with_len a n))
map-kept p f g a zero h = refl
map-kept p f g a (suc n) h = go (p a) refl (map-kept p f g (a + 1) n (λ v k l e. h v (omega arith) (omega arith) e))
  where
    rest : List ℕ
    rest = filter p (range_with_len (a + 1) n)

    go : (b : Bool) → p a ≡ b → map f rest ≡ map g rest → map f (cond b (a ∷ rest) rest) ≡ map g (cond b (a ∷ rest) rest)
    go true e ih = ap₂ (λ y ys. y ∷ ys) (h a (omega arith) (omega arith) e) ih
    go false e ih = ih
