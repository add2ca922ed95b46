-- The sieve's depths and slots agree with the powers of two, shown at each of its lists.
use Rattle.std.proofs.Common.{◌≡◌, ℕ, zero, suc, ◌+◌, ◌-◌, ◌*◌, ◌/◌, ◌%◌, ◌^◌, ◌<◌, ◌≤◌, Bool, true, ◌&&◌, eqb, ltb, leb, refl, ap, ◌∙◌, ap₂, arith, pow_mono, pow-add}
use Rattle.std.proofs.lemmas.Nat.{one_shl}
use Rattle.std.proofs.lemmas.Bool.Decides.{Decides-below_and, nat_tests}
use Rattle.shelves.specs.Slots.{sieve_lists, slot_count, sieve_depth, first_slot, width_of}

-- at list v: v + 1 lies between two powers of two, and the width is what a shift of 64 gives
abbrev fitting : ℕ → Bool
fitting v =
    (leb (2 ^ sieve_depth v) (v + 1) && ltb (v + 1) (2 * 2 ^ sieve_depth v))
    && (ltb (sieve_depth v) 7 && eqb (slot_count / 2 ^ sieve_depth v) (width_of v))

abbrev all_fitting : ℕ → Bool
all_fitting zero = true
all_fitting (suc n) = fitting n && all_fitting n

pub record Fitting (v : ℕ) : Type 0 where
  pub low : 2 ^ sieve_depth v ≤ v + 1
  pub high : v + 1 < 2 * 2 ^ sieve_depth v
  pub shallow : sieve_depth v < 7
  pub width : slot_count / 2 ^ sieve_depth v ≡ width_of v

pub fits : (v : ℕ) → v < sieve_lists → Fitting v
fits v h =
    let t = (Decides-below_and fitting (λ k. fitting k ≡ true) all_fitting (λ k. (λ e. e, λ e. e)) refl (λ _. refl) sieve_lists).0 refl v h in
    record { low = grind (arith, nat_tests, t); high = grind (arith, nat_tests, t); shallow = grind (arith, nat_tests, t); width = grind (arith, nat_tests, t) }

-- a number lies between only two powers of two that follow one another
not-above : (n d e : ℕ) → n < 2 * 2 ^ d → 2 ^ e ≤ n → d < e → ⊥
not-above n d e h l p = let m : 2 ^ (1 + d) ≤ 2 ^ e = pow_mono (omega arith) in omega (arith, pow-add 2 1 d)

pub same_power : (n d e : ℕ) → 2 ^ d ≤ n → n < 2 * 2 ^ d → 2 ^ e ≤ n → n < 2 * 2 ^ e → d ≡ e
same_power n d e a b p q = let x = not-above n d e b p in let y = not-above n e d q a in grind (arith, x, y)

-- the width and the first slot, as they are computed by shifts
module _ (v d : ℕ) (h : v < sieve_lists) (e : d ≡ sieve_depth v) where
  pub width-at : slot_count / 2 ^ d ≡ width_of v
  width-at = ap (λ (k : ℕ). slot_count / 2 ^ k) e ∙ (fits v h).width

  pub first-at : (v + 1 - (1 * 2 ^ d) % 2 ^ 64) * (slot_count / 2 ^ d) ≡ first_slot v
  first-at =
      let s : d < 64 = omega (arith, (fits v h).shallow) in
      ap₂ (λ (x y : ℕ). (v + 1 - x) * y) (one_shl d 64 s ∙ ap (λ (k : ℕ). 2 ^ k) e) width-at
