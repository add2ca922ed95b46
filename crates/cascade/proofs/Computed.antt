-- What antt computes at each of the 2080 ranges: few lists, and the chosen ones lie side by side.
use Rattle.std.proofs.Common.{◌≡◌, ℕ, zero, suc, ◌+◌, ◌*◌, ◌^◌, ◌<◌, ◌≤◌, Bool, true, false, cond, ◌&&◌, eqb, ltb, leb, List, [], ◌∷◌, length, filter, sym, refl, ap, ◌∙◌, arith}
use Rattle.std.proofs.lemmas.Bool.{and_parts, leb-true, eqb-true}
use Rattle.std.proofs.lemmas.Bool.Decides.{Decides-below_and, nat_tests}
use Rattle.orders.specs.Places.{bit, count}
use Rattle.shelves.specs.Slots.{slot_count}
use Rattle.cascade.proofs.Nodes.{inside_at, covers_at}
use Rattle.cascade.proofs.Subtrees.{walk}

-- the lists that the walk chooses, in the order of their slots
abbrev pub choice : (a b : ℕ) → List (ℕ × ℕ)
choice a b = filter (λ x. inside_at a b x.0 x.1) (walk a b 6 0)

-- the lists lie side by side from slot lo up to, not including, slot hi
abbrev tiles : List (ℕ × ℕ) → ℕ → ℕ → Bool
tiles [] lo hi = eqb lo hi
tiles (x ∷ xs) lo hi = eqb (x.1 * 2 ^ x.0) lo && tiles xs (lo + 2 ^ x.0) hi

abbrev test : ℕ → ℕ → Bool
test a b = leb (length (choice a b)) 10 && (leb (length (walk a b 6 0)) 21 && tiles (choice a b) a (suc b))

abbrev all : ℕ → (ℕ → Bool) → Bool
all zero f = true
all (suc n) f = f n && all n f

all-at : (n : ℕ) (f : ℕ → Bool) → all n f ≡ true → (k : ℕ) → k < n → f k ≡ true
all-at n f = (Decides-below_and f (λ k. f k ≡ true) (λ m. all m f) (λ k. (λ e. e, λ e. e)) refl (λ _. refl) n).0

row : ℕ → Bool
row b = all (suc b) (λ a. test a b)

rows : all slot_count row ≡ true
unfolding row
rows = refl

tested : (a b : ℕ) → a ≤ b → b < slot_count → test a b ≡ true
unfolding row
tested a b h k = all-at (suc b) (λ x. test x b) (all-at slot_count row rows b k) a (omega arith)

tiles-up : (xs : List (ℕ × ℕ)) (lo hi : ℕ) → tiles xs lo hi ≡ true → lo ≤ hi
tiles-up [] lo hi t = let e = eqb-true lo hi t in omega arith
tiles-up (x ∷ xs) lo hi t =
    let ih = tiles-up xs (lo + 2 ^ x.0) hi in
    grind (arith, nat_tests, ih)

-- a part and what is behind it
parts : (lo n hi s : ℕ) → lo + n ≤ hi
    → bit (cond (leb lo s) (ltb s (lo + n)) false) + bit (leb (lo + n) s && ltb s hi) ≡ bit (leb lo s && ltb s hi)
parts lo n hi s h = grind (arith, nat_tests)

empty : (lo hi s : ℕ) → lo ≡ hi → bit (leb lo s && ltb s hi) ≡ 0
empty lo hi s h = grind (arith, nat_tests)

-- lists side by side cover each slot between once, and no other
tiles-cover : (xs : List (ℕ × ℕ)) (lo hi s : ℕ) → tiles xs lo hi ≡ true → count (λ x. covers_at s x.0 x.1) xs ≡ bit (leb lo s && ltb s hi)
tiles-cover [] lo hi s t = sym (empty lo hi s (eqb-true lo hi t))
tiles-cover (x ∷ xs) lo hi s t =
    let n = 2 ^ x.0 in
    let p = and_parts (eqb (x.1 * n) lo) (tiles xs (lo + n) hi) t in
    let e = eqb-true (x.1 * n) lo p.0 in
    ap (λ m. bit (cond (leb m s) (ltb s (m + n)) false) + count (λ y. covers_at s y.0 y.1) xs) e
    ∙ ap (λ m. bit (cond (leb lo s) (ltb s (lo + n)) false) + m) (tiles-cover xs (lo + n) hi s p.1)
    ∙ parts lo n hi s (tiles-up xs (lo + n) hi p.1)

module _ (a b : ℕ) (up : a ≤ b) (top : b < slot_count) where
  few : (length (choice a b) ≤ 10) × (length (walk a b 6 0) ≤ 21) × (tiles (choice a b) a (suc b) ≡ true)
  few =
      let p = and_parts _ _ (tested a b up top) in
      let q = and_parts _ _ p.1 in
      (leb-true _ _ p.0, leb-true _ _ q.0, q.1)

  pub choice-few : length (choice a b) ≤ 10
  choice-few = few.0

  pub walk-few : length (walk a b 6 0) ≤ 21
  walk-few = few.1

  pub choice-covers : (s : ℕ) → count (λ x. covers_at s x.0 x.1) (choice a b) ≡ bit (leb a s && ltb s (suc b))
  choice-covers s = tiles-cover (choice a b) a (suc b) s few.2
