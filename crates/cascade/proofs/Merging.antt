-- The stable sort: the least element first, a merge, and what a filter leaves of a list put in order.
use Rattle.std.proofs.Common.{◌≡◌, Bool, true, false, cond, List, [], ◌∷◌, ◌++◌, filter, sym, refl, ap, ◌∙◌, arith}
use Rattle.std.proofs.lemmas.Bool.{both_ways, false_from_ne_true}
use Rattle.cascade.specs.Lists.{samples, insert, sort, Low, Sorted}
use Rattle.cascade.proofs.Sorting.{sort_sorted, low-down, low-sort}

module _ {X : Type 0} where
  -- x goes in front of what f makes of the rest, behind the elements of the list that it is above
  abbrev pub into : (X → X → Bool) → X → (List X → List X) → List X → List X
  into le x f [] = x ∷ f []
  into le x f (y ∷ ys) = cond (le x y) (x ∷ f (y ∷ ys)) (y ∷ into le x f ys)

  -- the stable merge of two lists: of elements that are the same, those of the first list go first
  abbrev pub merge : (X → X → Bool) → List X → List X → List X
  merge le [] ys = ys
  merge le (x ∷ xs) ys = into le x (merge le xs) ys

  -- each element is above y
  abbrev pub Above : (X → X → Bool) → X → List X → Type 0
  Above le y [] = Unit
  Above le y (x ∷ xs) = (le x y ≡ false) × Above le y xs

module _ {X : Type 0} (le : X → X → Bool)
    (total : (x y : X) → le x y ≡ false → le y x ≡ true)
    (trans : (x y z : X) → le x y ≡ true → le y z ≡ true → le x z ≡ true) where
  insert-low : (x : X) (ys : List X) → Low le x ys → insert le x ys ≡ x ∷ ys
  insert-low x [] l = refl
  insert-low x (y ∷ ys) l = rw l.0

  pub sort-fixed : (xs : List X) → Sorted le xs → sort le xs ≡ xs
  sort-fixed [] s = refl
  sort-fixed (x ∷ xs) s = ap (insert le x) (sort-fixed xs s.1) ∙ insert-low x xs s.0

  pub low-append : (z : X) (xs ys : List X) → Low le z xs → Low le z ys → Low le z (xs ++ ys)
  low-append z [] ys l m = m
  low-append z (x ∷ xs) ys l m = (l.0, low-append z xs ys l.1 m)

  -- y goes first where all in front of it are above it, and it is not above any behind it
  pub least_first : (xs : List X) (y : X) (ys : List X) → Above le y xs → Low le y ys → sort le (xs ++ (y ∷ ys)) ≡ y ∷ sort le (xs ++ ys)
  least_first [] y ys a l = insert-low y (sort le ys) (low-sort le le y ys l)
  least_first (x ∷ xs) y ys a l = ap (insert le x) (least_first xs y ys a.1 l) ∙ rw a.0

  -- what x is not above is above y where x is
  above_low : (x y : X) (xs : List X) → Low le x xs → le x y ≡ false → Above le y xs
  above_low x y [] l e = tt
  above_low x y (z ∷ zs) l e = (false_from_ne_true (le z y) (λ g. both_ways (le x y) e (trans x z y l.0 g)), above_low x y zs l.1 e)

  -- by the heads of lists that are in order
  pub above-head : (y x : X) (xs : List X) → Sorted le (x ∷ xs) → le x y ≡ false → Above le y (x ∷ xs)
  above-head y x xs s e = (e, above_low x y xs s.0 e)

  pub low-head : (y x : X) (xs : List X) → Sorted le (x ∷ xs) → le y x ≡ true → Low le y (x ∷ xs)
  low-head y x xs s e = (e, low-down le total trans y x xs e s.0)

  pub above-append : (y : X) (xs zs : List X) → Above le y xs → Above le y zs → Above le y (xs ++ zs)
  above-append y [] zs a c = c
  above-append y (x ∷ xs) zs a c = (a.0, above-append y xs zs a.1 c)

  into-is : (x : X) (xs : List X) → Low le x xs → (f : List X → List X) → ((ys : List X) → Sorted le ys → f ys ≡ sort le (xs ++ ys))
      → (ys : List X) → Sorted le ys → into le x f ys ≡ insert le x (sort le (xs ++ ys))
  into-is x xs l f h [] s = ap (λ r. x ∷ r) (h [] tt) ∙ sym (insert-low x (sort le (xs ++ [])) (low-sort le le x (xs ++ []) (low-append x xs [] l tt)))
  into-is x xs l f h (y ∷ ys) s = go (into-is x xs l f h ys s.1) (le x y) refl
    where
      go : into le x f ys ≡ insert le x (sort le (xs ++ ys)) → (b : Bool) → le x y ≡ b
          → cond b (x ∷ f (y ∷ ys)) (y ∷ into le x f ys) ≡ insert le x (sort le (xs ++ (y ∷ ys)))
      go ih true e =
          ap (λ r. x ∷ r) (h (y ∷ ys) s)
          ∙ sym (insert-low x (sort le (xs ++ (y ∷ ys))) (low-sort le le x (xs ++ (y ∷ ys)) (low-append x xs (y ∷ ys) l (e, low-down le total trans x y ys e s.0))))
      go ih false e =
          ap (λ r. y ∷ r) ih
          ∙ sym (ap (insert le x) (least_first xs y ys (above_low x y xs l e) s.0) ∙ rw e)

  pub merge-is : (xs ys : List X) → Sorted le xs → Sorted le ys → merge le xs ys ≡ sort le (xs ++ ys)
  merge-is [] ys s t = sym (sort-fixed ys t)
  merge-is (x ∷ xs) ys s t = into-is x xs s.0 (merge le xs) (λ zs. merge-is xs zs s.1) ys t

  sort-append : (xs zs : List X) → sort le (xs ++ sort le zs) ≡ sort le (xs ++ zs)
  sort-append [] zs = sort-fixed (sort le zs) (sort_sorted le total trans zs)
  sort-append (x ∷ xs) zs = ap (insert le x) (sort-append xs zs)

  pub merged : (xs zs : List X) → Sorted le xs → merge le xs (sort le zs) ≡ sort le (xs ++ zs)
  merged xs zs s = merge-is xs (sort le zs) s (sort_sorted le total trans zs) ∙ sort-append xs zs

  low-samples : (z : X) (xs : List X) → Low le z xs → Low le z (samples xs)
  low-samples z [] l = tt
  low-samples z (a ∷ []) l = tt
  low-samples z (a ∷ (b ∷ [])) l = tt
  low-samples z (a ∷ (b ∷ (c ∷ []))) l = tt
  low-samples z (a ∷ (b ∷ (c ∷ (d ∷ xs)))) l = (l.1.1.1.0, low-samples z xs l.1.1.1.1)

  pub samples-sorted : (xs : List X) → Sorted le xs → Sorted le (samples xs)
  samples-sorted [] s = tt
  samples-sorted (a ∷ []) s = tt
  samples-sorted (a ∷ (b ∷ [])) s = tt
  samples-sorted (a ∷ (b ∷ (c ∷ []))) s = tt
  samples-sorted (a ∷ (b ∷ (c ∷ (d ∷ xs)))) s = (low-samples d xs s.1.1.1.0, samples-sorted xs s.1.1.1.1)

  -- a filter of a list put in order is the filtered list put in order
  low-kept-by : (g : X → Bool) (z : X) (ys : List X) → Low le z ys → Low le z (filter g ys)
  low-kept-by g z [] l = tt
  low-kept-by g z (y ∷ ys) l =
      elim (g y) as (λ b. Low le z (cond b (y ∷ filter g ys) (filter g ys))) [ true ↦ (l.0, low-kept-by g z ys l.1) | false ↦ low-kept-by g z ys l.1 ]

  kept-insert : (g : X → Bool) (x : X) (ys : List X) → Sorted le ys → filter g (insert le x ys) ≡ cond (g x) (insert le x (filter g ys)) (filter g ys)
  kept-insert g x [] s = refl
  kept-insert g x (y ∷ ys) s = go (kept-insert g x ys s.1) (le x y) refl
    where
      go : filter g (insert le x ys) ≡ cond (g x) (insert le x (filter g ys)) (filter g ys) → (b : Bool) → le x y ≡ b
          → filter g (cond b (x ∷ (y ∷ ys)) (y ∷ insert le x ys)) ≡ cond (g x) (insert le x (filter g (y ∷ ys))) (filter g (y ∷ ys))
      go ih true e =
          let k = insert-low x (filter g (y ∷ ys)) (low-kept-by g x (y ∷ ys) (e, low-down le total trans x y ys e s.0)) in
          grind (arith, k)
      go ih false e = grind (arith, ih, e)

  pub kept-sort : (g : X → Bool) (xs : List X) → filter g (sort le xs) ≡ sort le (filter g xs)
  kept-sort g [] = refl
  kept-sort g (x ∷ xs) =
      kept-insert g x (sort le xs) (sort_sorted le total trans xs)
      ∙ ap (λ r. cond (g x) (insert le x r) r) (kept-sort g xs)
      ∙ grind arith

  pub kept-sorted : (g : X → Bool) (xs : List X) → Sorted le (filter g xs) → filter g (sort le xs) ≡ filter g xs
  kept-sorted g xs s = kept-sort g xs ∙ sort-fixed (filter g xs) s
