-- The sieve's lists by depth d and index j: list 2 ^ d + j - 1, of height h = 6 - d, has 2 ^ h slots from j * 2 ^ h on.
use Rattle.std.proofs.Common.{◌≡◌, ℕ, zero, suc, ◌+◌, ◌-◌, ◌*◌, ◌/◌, ◌^◌, ◌<◌, ◌≤◌, Bool, true, false, cond, not, ◌&&◌, ltb, leb, ap, ◌∙◌, inl, inr, mul-le-mul_right, add-mul, one-mul, mul-add, arith}
use native.Mathlib.Nat.{two-pow-succ, pow-le-pow_right}
use Rattle.std.proofs.lemmas.Nat.{pow_pos}
use Rattle.std.proofs.lemmas.Bool.{cases_lt}
use Rattle.std.proofs.lemmas.Bool.Decides.{nat_tests}
use Rattle.orders.specs.Numbers.{bit_length}
use Rattle.shelves.specs.Slots.{sieve_lists, sieve_parent, sieve_depth, width_of, first_slot, covers}
use Rattle.cascade.specs.SlotTree.{meets, inside, none_above, none_above_chosen, visited, chosen}
use Rattle.cascade.specs.SlotTheorems.{FromParent}
use Rattle.cascade.proofs.Searching.{bit_length-enough, bit_length-least}

abbrev pub number_of : (d j : ℕ) → ℕ
number_of d j = 2 ^ d + j - 1

abbrev pub meets_at : (a b h j : ℕ) → Bool
meets_at a b h j = leb (j * 2 ^ h) b && ltb a (j * 2 ^ h + 2 ^ h)

abbrev pub inside_at : (a b h j : ℕ) → Bool
inside_at a b h j = leb a (j * 2 ^ h) && leb (j * 2 ^ h + 2 ^ h) (suc b)

abbrev pub covers_at : (s h j : ℕ) → Bool
covers_at s h j = cond (leb (j * 2 ^ h) s) (ltb s (j * 2 ^ h + 2 ^ h)) false

digits : (d n : ℕ) → 2 ^ d ≤ n → n < 2 ^ suc d → bit_length n ≡ suc d
digits d n h k =
    let m = bit_length-least n (suc d) k in
    let e = bit_length-enough n in
    elim (cases_lt d (bit_length n)) [
      | inl l ↦ omega arith
      | inr l ↦ let p : 2 ^ bit_length n ≤ 2 ^ d = pow-le-pow_right (omega arith) l in absurd (omega arith)
    ]

module _ (d j : ℕ) (there : j < 2 ^ d) where
  pub depth_is : sieve_depth (number_of d j) ≡ d
  depth_is =
      let p = pow_pos d in
      let w = two-pow-succ d in
      let e : number_of d j + 1 ≡ 2 ^ d + j = omega arith in
      let b = ap bit_length e ∙ digits d (2 ^ d + j) (omega arith) (omega arith) in
      omega arith

  module _ (h : ℕ) (deep : d + h ≡ 6) where
    pub width_is : width_of (number_of d j) ≡ 2 ^ h
    width_is = ap (λ n. 2 ^ n) (ap (λ n. 6 - n) depth_is ∙ omega arith)

    pub first-is : first_slot (number_of d j) ≡ j * 2 ^ h
    first-is =
        let p = pow_pos d in
        let e : number_of d j + 1 - 2 ^ d ≡ j = omega arith in
        ap (λ n. (number_of d j + 1 - 2 ^ n) * width_of (number_of d j)) depth_is
        ∙ ap (λ n. n * width_of (number_of d j)) e
        ∙ ap (λ n. j * n) width_is

    pub meets-is : (a b : ℕ) → meets a b (number_of d j) ≡ meets_at a b h j
    meets-is a b =
        ap (λ n. leb n b && ltb a (n + width_of (number_of d j))) first-is
        ∙ ap (λ n. leb (j * 2 ^ h) b && ltb a (j * 2 ^ h + n)) width_is

    pub inside_is : (a b : ℕ) → inside a b (number_of d j) ≡ inside_at a b h j
    inside_is a b =
        ap (λ n. leb a n && leb (n + width_of (number_of d j)) (suc b)) first-is
        ∙ ap (λ n. leb a (j * 2 ^ h) && leb (j * 2 ^ h + n) (suc b)) width_is

    pub covers-is : (s : ℕ) → covers (number_of d j) s ≡ covers_at s h j
    covers-is s =
        ap (λ n. cond (leb n s) (ltb s (n + width_of (number_of d j))) false) first-is
        ∙ ap (λ n. cond (leb (j * 2 ^ h) s) (ltb s (j * 2 ^ h + n)) false) width_is

pub parent_is : (d j : ℕ) → sieve_parent (number_of (suc d) j) ≡ number_of d (j / 2)
parent_is d j = let w = two-pow-succ d in let p = pow_pos d in omega arith

-- the slots of a list are among those of its parent
span-low : (h i j : ℕ) → i + i ≤ j → i * 2 ^ suc h ≤ j * 2 ^ h
span-low h i j l = rw (two-pow-succ, mul-add, ← add-mul) (mul-le-mul_right (2 ^ h) l)

span-high : (h i j : ℕ) → j + 1 ≤ (i + 1) + (i + 1) → j * 2 ^ h + 2 ^ h ≤ i * 2 ^ suc h + 2 ^ suc h
span-high h i j l =
    let m = simp (add-mul, one-mul) at (mul-le-mul_right (2 ^ h) l) in
    rw (two-pow-succ, mul-add) (omega arith)

meets-up : (a b h j : ℕ) → meets_at a b h j ≡ true → meets_at a b (suc h) (j / 2) ≡ true
meets-up a b h j e =
    let lo = span-low h (j / 2) j (omega arith) in
    let hi = span-high h (j / 2) j (omega arith) in
    grind (arith, nat_tests)

module _ (a b : ℕ) where
  -- none above list j of depth d is chosen
  abbrev pub clear : (d j : ℕ) → Bool
  clear d j = none_above a b d (number_of d j)

  pub clear-is : (d j : ℕ) → j < 2 ^ d → none_above_chosen a b (number_of d j) ≡ clear d j
  clear-is d j l = ap (λ n. none_above a b n (number_of d j)) (depth_is d j l)

  pub clear-below : (d j : ℕ) → clear (suc d) j ≡ (not (clear d (j / 2) && inside a b (number_of d (j / 2))) && clear d (j / 2))
  clear-below d j = ap (λ u. not (none_above a b d u && inside a b u) && none_above a b d u) (parent_is d j)

  module _ (d h j : ℕ) (there : j < 2 ^ suc d) (deep : suc d + h ≡ 6) where
    pub visited-below : visited a b (number_of (suc d) j)
        ≡ (visited a b (number_of d (j / 2)) && (not (inside a b (number_of d (j / 2))) && meets a b (number_of (suc d) j)))
    visited-below =
        let w = two-pow-succ d in
        let l : j / 2 < 2 ^ d = omega arith in
        let m = meets-is (suc d) j there h deep a b in
        let n = meets-is d (j / 2) l (suc h) (omega arith) a b in
        let up = meets-up a b h j in
        grind (arith, clear-is (suc d) j there, clear-below d j, clear-is d (j / 2) l, m, n, up)

  -- a list that is inside meets the range
  inside-meets : (v : ℕ) → inside a b v ≡ true → meets a b v ≡ true
  inside-meets v e = let p = pow_pos (6 - sieve_depth v) in grind (arith, nat_tests)

  pub chosen_is : (v : ℕ) → chosen a b v ≡ (visited a b v && inside a b v)
  chosen_is v = let m = inside-meets v in grind (arith, m)

-- each list has a depth, a height and an index
pub record Node (v : ℕ) : Type 0 where
  pub depth : ℕ
  pub height : ℕ
  pub index : ℕ
  pub deep : depth + height ≡ 6
  pub there : index < 2 ^ depth
  pub is : v ≡ number_of depth index

pub node_of : (v : ℕ) → v < sieve_lists → Node v
node_of v l =
    let e = bit_length-enough (v + 1) in
    let m = bit_length-least (v + 1) 7 (omega arith) in
    go (bit_length (v + 1)) e m (bit_length-least (v + 1))
  where
    go : (k : ℕ) → v + 1 < 2 ^ k → k ≤ 7 → ((m : ℕ) → v + 1 < 2 ^ m → k ≤ m) → Node v
    go zero e m least = absurd (omega arith)
    go (suc d) e m least =
        let w = two-pow-succ d in
        let low : 2 ^ d ≤ v + 1 = elim (cases_lt (v + 1) (2 ^ d)) [ inl k ↦ let n = least d k in absurd (omega arith) | inr k ↦ k ] in
        record { depth = d; height = 6 - d; index = v + 1 - 2 ^ d; deep = omega arith; there = omega arith; is = omega arith }

pub from-parent : FromParent
from-parent a b v l = (λ z. go (node_of v l).depth (node_of v l).height (node_of v l).index z (node_of v l).deep (node_of v l).there (node_of v l).is, chosen_is a b v)
  where
    go : (d h j : ℕ) → 0 < v → d + h ≡ 6 → j < 2 ^ d → v ≡ number_of d j
        → visited a b v ≡ (visited a b (sieve_parent v) && (not (inside a b (sieve_parent v)) && meets a b v))
    go zero h j z e t i = absurd (omega arith)
    go (suc d) h j z e t i =
        let p : sieve_parent v ≡ number_of d (j / 2) = ap sieve_parent i ∙ parent_is d j in
        rw (p, i) (visited-below a b d h j t e)
