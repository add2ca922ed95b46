-- The first zero of a text, and keys by their texts. Assumes nothing.
use Rattle.std.proofs.Common.{◌≡◌, ℕ, zero, suc, ◌+◌, ◌-◌, ◌<◌, ◌≤◌, ◌==◌, ◌⊎◌, List, [], ◌∷◌, ◌++◌, length, get_or, drop, replicate, Option, Some, None, sym, refl, ap, ◌∙◌, inl, inr, arith, length-take-le, get_or-take}
use Rattle.std.specs.List.{position}
use Rattle.std.specs.Option.{option_map}
use mathlib.Core.HLevel.{is_prop→PathP, Π_prop}
use native.Mathlib.Bridge.{le_prop}
use native.Mathlib.Nat.{ℕ_set}
use Rattle.std.proofs.lemmas.List.{ext_get_or, get_or_append_left, get_or-append_right, get_or-drop}
use Rattle.std.proofs.lemmas.Bool.{cases_lt}
use Rattle.std.proofs.lemmas.Bool.Decides.{nat_tests}
use Rattle.std.proofs.lemmas.Grind.{common_steps}
use Rattle.terms.specs.Keys.{first_zero, text_of}
use Rattle.terms.specs.declared.key.Term.{Term}

pub zero-position : (xs : List ℕ) → position (λ b. b == 0) xs ≡ first_zero xs
zero-position [] = refl
zero-position (x ∷ xs) = let ih = zero-position xs in grind (arith, nat_tests)

inner : (o : Option ℕ) → option_map suc o ≡ None → o ≡ None
inner None e = refl
inner (Some n) e = cc

pub no_zero : (xs : List ℕ) → first_zero xs ≡ None → (k : ℕ) → k < length xs → 0 < get_or xs k 0
no_zero [] e k h = absurd (omega arith)
no_zero (x ∷ xs) e zero h = grind (arith, nat_tests)
no_zero (x ∷ xs) e (suc k) h = let i : first_zero xs ≡ None = grind (arith, nat_tests, inner) in no_zero xs i k (omega arith)

zeros : (n k : ℕ) → ◌≡◌ {A = ℕ} (get_or (replicate n 0) k 0) 0
zeros zero k = refl
zeros (suc n) zero = refl
zeros (suc n) (suc k) = zeros n k

-- a text with zeros behind it
module _ (xs : List ℕ) (short : length xs ≤ 32) where
  abbrev pub filled : List ℕ
  filled = xs ++ drop (length xs) (replicate 32 0)

  pub filled-long : length filled ≡ 32
  filled-long = grind (arith, common_steps)

  pub filled-front : (k : ℕ) → k < length xs → get_or filled k 0 ≡ get_or xs k 0
  filled-front k h = get_or_append_left xs (drop (length xs) (replicate 32 0)) 0 k h

  pub filled-back : (k : ℕ) → length xs ≤ k → get_or filled k 0 ≡ 0
  filled-back k h =
      get_or-append_right xs (drop (length xs) (replicate 32 0)) (length xs) k 0 refl h
      ∙ get_or-drop (length xs) (replicate 32 0) (k - length xs) 0
      ∙ zeros 32 (length xs + (k - length xs))

-- a key is its bytes and its length
same_parts : (s t : Term) → s.bytes ≡ t.bytes → s.len ≡ t.len → s ≡ t
same_parts s t p q = λ i. record {
  bytes = p i;
  len = q i;
  sized = is_prop→PathP (λ j. length (p j) ≡ 32) (λ j. ℕ_set _ _) s.sized t.sized i;
  some = is_prop→PathP (λ j. 1 ≤ q j) (λ j. le_prop) s.some t.some i;
  short = is_prop→PathP (λ j. q j ≤ 32) (λ j. le_prop) s.short t.short i;
  full = is_prop→PathP (λ j. (k : ℕ) → k < q j → 0 < get_or (p j) k 0) (λ j. Π_prop (λ k. Π_prop (λ l. le_prop))) s.full t.full i;
  rest = is_prop→PathP (λ j. (k : ℕ) → q j ≤ k → get_or (p j) k 0 ≡ 0) (λ j. Π_prop (λ k. Π_prop (λ l. ℕ_set _ _))) s.rest t.rest i;
}

text-long : (s : Term) → length (text_of s) ≡ s.len
text-long s = let a = s.sized in let b = s.short in length-take-le s.len s.bytes (omega arith)

text_at : (s : Term) (k : ℕ) → k < s.len → get_or s.bytes k 0 ≡ get_or (text_of s) k 0
text_at s k h = sym (get_or-take s.len s.bytes k 0 h)

pub by-text : (s t : Term) → text_of s ≡ text_of t → s ≡ t
by-text s t e = same_parts s t (ext_get_or 0 s.bytes t.bytes (s.sized ∙ sym t.sized) (λ k h. at k (cases_lt k s.len))) longs
  where
    longs : s.len ≡ t.len
    longs = sym (text-long s) ∙ ap length e ∙ text-long t

    at : (k : ℕ) → (k < s.len) ⊎ (s.len ≤ k) → get_or s.bytes k 0 ≡ get_or t.bytes k 0
    at k (inl h) = text_at s k h ∙ ap (λ (l : List ℕ). get_or l k 0) e ∙ sym (text_at t k (let q = longs in omega arith))
    at k (inr h) = s.rest k h ∙ sym (t.rest k (let q = longs in omega arith))
