-- The two searches of a list along which a test falls.
use Rattle.std.proofs.Common.{◌≡◌, ℕ, zero, suc, ◌+◌, ◌*◌, ◌/◌, ◌^◌, ◌<◌, ◌≤◌, Bool, true, false, List, [], ◌∷◌, length, drop, refl, arith}
use native.Mathlib.Nat.{two-pow-succ}
use Rattle.std.proofs.lemmas.Bool.{le-ltb}
use Rattle.std.proofs.lemmas.Bool.Decides.{nat_tests}
use Rattle.orders.specs.Numbers.{halvings, bit_length}
use Rattle.orders.specs.Places.{count}
use Rattle.cascade.specs.Lists.{test_at}
use Rattle.cascade.specs.Searches.{steps, edge_step, bisect, root_search}
use Rattle.cascade.proofs.Counts.{Falls, count-drop, falls-drop, test-before, test-after, count-le-length}

module _ {X : Type 0} (p : X → Bool) where
  steps-place : (n : ℕ) (xs : List X) → Falls p xs → count p xs ≤ n → (steps p n xs).0 ≡ count p xs
  steps-place zero xs h l = omega arith
  steps-place (suc n) [] h l = refl
  steps-place (suc n) (x ∷ xs) h l = let ih = steps-place n xs h.1 in grind (arith, ih)

  pub steps-most : (n : ℕ) (xs : List X) → (steps p n xs).1 ≤ n
  steps-most zero xs = omega arith
  steps-most (suc n) [] = omega arith
  steps-most (suc n) (x ∷ xs) =
      let ih = steps-most n xs in
      grind (arith, ih)

  -- from the tally of the samples that are passed to the place
  pub edge-is : (xs : List X) → Falls p xs → (g : ℕ) → g ≡ count p xs / 4 → ((edge_step p g xs).0 ≡ count p xs) × ((edge_step p g xs).1 ≤ 3)
  edge-is xs h g e =
      let d = count-drop p xs (4 * g) h (omega arith) in
      let s = steps-place 3 (drop (4 * g) xs) (falls-drop p xs (4 * g) h) (omega arith) in
      (omega arith, steps-most 3 (drop (4 * g) xs))

module _ (f : ℕ → Bool) (place : ℕ) (before : (i : ℕ) → i < place → f i ≡ true) (after : (i : ℕ) → place ≤ i → f i ≡ false) where
  bisect-is : (n k lo hi : ℕ) → lo ≤ place → place ≤ hi → hi ≤ lo + n → hi < lo + 2 ^ k
      → ((bisect f n lo hi).0 ≡ place) × ((bisect f n lo hi).1 ≤ k)
  bisect-is zero k lo hi a b c d = omega arith
  bisect-is (suc n) zero lo hi a b c d = rw (le-ltb lo hi (omega arith)) (omega arith)
  bisect-is (suc n) (suc k) lo hi a b c d =
      let w = two-pow-succ k in
      let mid = (lo + hi) / 2 in
      let right = bisect-is n k (mid + 1) hi in
      let left = bisect-is n k lo mid in
      grind (arith, nat_tests, w, before mid, after mid, right, left)

halvings-enough : (k n : ℕ) → n ≤ k → n < 2 ^ halvings k n
halvings-enough zero n h = omega arith
halvings-enough (suc k) n h =
    let ih = halvings-enough k (n / 2) (omega arith) in
    let w = two-pow-succ (halvings k (n / 2)) in
    grind (arith, nat_tests, ih, w)

halvings-least : (k n m : ℕ) → n < 2 ^ m → halvings k n ≤ m
halvings-least zero n m h = omega arith
halvings-least (suc k) n m h =
    go m h (halvings-least k (n / 2))
  where
    go : (j : ℕ) → n < 2 ^ j → ((i : ℕ) → n / 2 < 2 ^ i → halvings k (n / 2) ≤ i) → halvings (suc k) n ≤ j
    go zero l ih = grind (arith, nat_tests)
    go (suc j) l ih = let w = two-pow-succ j in let r = ih j in grind (arith, nat_tests, w, r)

-- the bit length is the least k with n < 2 ^ k
pub bit_length-enough : (n : ℕ) → n < 2 ^ bit_length n
bit_length-enough n = halvings-enough n n (omega arith)

pub bit_length-least : (n m : ℕ) → n < 2 ^ m → bit_length n ≤ m
bit_length-least n m h = halvings-least n n m h

-- any k with length < 2 ^ k bounds the tests
pub root_is : {X : Type 0} (p : X → Bool) (xs : List X) → Falls p xs
    → ((root_search p xs).0 ≡ count p xs) × ((root_search p xs).1 ≤ bit_length (length xs))
root_is p xs h =
    let l = count-le-length p xs in
    let b = halvings-enough (length xs) (length xs) (omega arith) in
    bisect-is (test_at p xs) (count p xs) (λ i. test-before p xs i h) (λ i. test-after p xs i h) (length xs) (bit_length (length xs)) 0 (length xs)
    (omega arith) l (omega arith) (omega arith)
