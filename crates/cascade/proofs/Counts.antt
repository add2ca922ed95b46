-- Counts of lists, of a sorted list and of its samples.
use Rattle.std.proofs.Common.{◌≡◌, ℕ, zero, suc, ◌+◌, ◌/◌, ◌<◌, ◌≤◌, Bool, true, false, ◌&&◌, List, [], ◌∷◌, ◌++◌, map, length, take, drop, filter, sym, refl, ap, ◌∙◌, one-add, arith}
use Rattle.std.proofs.Math.Bool.{and-true, and-false}
use Rattle.std.proofs.Math.Path.{fun_ext}
use Rattle.orders.specs.Places.{bit, count}
use Rattle.cascade.specs.Lists.{samples, insert, sort, test_at}

module _ {X : Type 0} where
  pub count-append : (f : X → Bool) (xs ys : List X) → count f (xs ++ ys) ≡ count f xs + count f ys
  count-append f [] ys = omega arith
  count-append f (x ∷ xs) ys = let ih = count-append f xs ys in omega arith

  pub count_same : (f g : X → Bool) → ((x : X) → f x ≡ g x) → (xs : List X) → count f xs ≡ count g xs
  count_same f g e xs = ap (λ (h : X → Bool). count h xs) (fun_ext e)

  pub count-never : (f : X → Bool) → ((x : X) → f x ≡ false) → (xs : List X) → count f xs ≡ 0
  count-never f e [] = refl
  count-never f e (x ∷ xs) = rw (e x, count-never f e xs)

  pub count-insert : (le : X → X → Bool) (f : X → Bool) (x : X) (ys : List X) → count f (insert le x ys) ≡ bit (f x) + count f ys
  count-insert le f x [] = refl
  count-insert le f x (y ∷ ys) =
      let ih = count-insert le f x ys in
      grind (arith, ih)

  pub count-sort : (le : X → X → Bool) (f : X → Bool) (xs : List X) → count f (sort le xs) ≡ count f xs
  count-sort le f [] = refl
  count-sort le f (x ∷ xs) = let ih = count-sort le f xs in count-insert le f x (sort le xs) ∙ omega arith

  pub length-insert : (le : X → X → Bool) (x : X) (ys : List X) → length (insert le x ys) ≡ suc (length ys)
  length-insert le x [] = refl
  length-insert le x (y ∷ ys) = let ih = length-insert le x ys in grind (arith, ih)

  pub length-sort : (le : X → X → Bool) (xs : List X) → length (sort le xs) ≡ length xs
  length-sort le [] = refl
  length-sort le (x ∷ xs) = length-insert le x (sort le xs) ∙ ap suc (length-sort le xs)

  pub length-samples : (xs : List X) → length (samples xs) ≡ length xs / 4
  length-samples [] = refl
  length-samples (a ∷ []) = refl
  length-samples (a ∷ (b ∷ [])) = refl
  length-samples (a ∷ (b ∷ (c ∷ []))) = refl
  length-samples (a ∷ (b ∷ (c ∷ (d ∷ xs)))) = let ih = length-samples xs in omega arith

  -- once the test fails it fails from there on
  abbrev pub Falls : (X → Bool) → List X → Type 0
  Falls f [] = Unit
  Falls f (x ∷ xs) = (f x ≡ false → count f xs ≡ 0) × Falls f xs

  count-both-le : (p f : X → Bool) (xs : List X) → count (λ x. p x && f x) xs ≤ count p xs
  count-both-le p f [] = omega arith
  count-both-le p f (x ∷ xs) =
      let ih = count-both-le p f xs in
      grind (arith, ih)

  -- of the elements that pass f, those that pass p are those before the place of p
  pub count-front : (p f : X → Bool) (xs : List X) → Falls p xs → count f (take (count p xs) xs) ≡ count (λ x. p x && f x) xs
  count-front p f [] h = refl
  count-front p f (x ∷ xs) h =
      let ih = count-front p f xs h.1 in
      let l = count-both-le p f xs in
      elim (p x) as (λ b. (b ≡ false → count p xs ≡ 0) → count f (take (bit b + count p xs) (x ∷ xs)) ≡ bit (b && f x) + count (λ y. p y && f y) xs) [
        | true ↦ λ _. rw one-add (omega arith)
        | false ↦ λ z. let e = z refl in rw e (omega arith)
      ] h.0

  -- the place among the samples is a fourth of the place
  pub count-samples : (p : X → Bool) (xs : List X) → Falls p xs → count p (samples xs) ≡ count p xs / 4
  count-samples p [] h = refl
  count-samples p (a ∷ []) h = grind arith
  count-samples p (a ∷ (b ∷ [])) h = grind arith
  count-samples p (a ∷ (b ∷ (c ∷ []))) h = grind arith
  count-samples p (a ∷ (b ∷ (c ∷ (d ∷ xs)))) h =
      let ih = count-samples p xs h.1.1.1.1 in
      grind (arith, ih)

  -- what is left behind a front that passes
  pub count-drop : (p : X → Bool) (xs : List X) (n : ℕ) → Falls p xs → n ≤ count p xs → count p (drop n xs) + n ≡ count p xs
  count-drop p xs zero h l = omega arith
  count-drop p [] (suc n) h l = absurd (omega arith)
  count-drop p (x ∷ xs) (suc n) h l =
      let ih = count-drop p xs n h.1 in
      grind (arith, ih)

  pub falls-drop : (p : X → Bool) (xs : List X) (n : ℕ) → Falls p xs → Falls p (drop n xs)
  falls-drop p xs zero h = h
  falls-drop p [] (suc n) h = tt
  falls-drop p (x ∷ xs) (suc n) h = falls-drop p xs n h.1

  -- the test at a place
  pub test-before : (p : X → Bool) (xs : List X) (i : ℕ) → Falls p xs → i < count p xs → test_at p xs i ≡ true
  test-before p [] i h l = absurd (omega arith)
  test-before p (x ∷ xs) zero h l = grind arith
  test-before p (x ∷ xs) (suc i) h l = test-before p xs i h.1 (grind arith)

  pub test-after : (p : X → Bool) (xs : List X) (i : ℕ) → Falls p xs → count p xs ≤ i → test_at p xs i ≡ false
  test-after p [] i h l = refl
  test-after p (x ∷ xs) zero h l = grind arith
  test-after p (x ∷ xs) (suc i) h l = test-after p xs i h.1 (grind arith)

  pub count-le-length : (p : X → Bool) (xs : List X) → count p xs ≤ length xs
  count-le-length p [] = omega arith
  count-le-length p (x ∷ xs) = let ih = count-le-length p xs in grind (arith, ih)

module _ {X : Type 0} where
  pub length-kept : (f : X → Bool) (xs : List X) → length (filter f xs) ≡ count f xs
  length-kept f [] = refl
  length-kept f (x ∷ xs) =
      let ih = length-kept f xs in
      grind (arith, ih)

  pub count_kept : (f g : X → Bool) (xs : List X) → count g (filter f xs) ≡ count (λ x. f x && g x) xs
  count_kept f g [] = refl
  count_kept f g (x ∷ xs) =
      let ih = count_kept f g xs in
      grind (arith, ih)

  -- a test that goes with a condition
  pub count-and : (f : X → Bool) (c r : Bool) (xs : List X) → count f xs ≡ bit r → count (λ x. f x && c) xs ≡ bit (r && c)
  count-and f true r xs e = count_same (λ x. f x && true) f (λ x. and-true (f x)) xs ∙ e ∙ sym (ap bit (and-true r))
  count-and f false r xs e = count-never (λ x. f x && false) (λ x. and-false (f x)) xs ∙ sym (ap bit (and-false r))

pub count_map : {X Y : Type 0} (f : Y → Bool) (g : X → Y) (xs : List X) → count f (map g xs) ≡ count (λ x. f (g x)) xs
count_map f g [] = refl
count_map f g (x ∷ xs) = ap (λ n. bit (f (g x)) + n) (count_map f g xs)
