-- A list that is put in order is in order, and a test that holds downwards falls along it.
use Rattle.std.proofs.Common.{◌≡◌, Bool, true, false, cond, List, [], ◌∷◌, refl}
use Rattle.orders.specs.Places.{count}
use Rattle.cascade.specs.Lists.{insert, sort, Low, Sorted}
use Rattle.cascade.proofs.Counts.{Falls}

-- what a relation says of all elements of a list it says of the list in order
module _ {X : Type 0} (R le : X → X → Bool) where
  pub low-insert : (z x : X) (ys : List X) → R z x ≡ true → Low R z ys → Low R z (insert le x ys)
  low-insert z x [] e l = (e, tt)
  low-insert z x (y ∷ ys) e l =
      elim (le x y) as (λ b. Low R z (cond b (x ∷ (y ∷ ys)) (y ∷ insert le x ys))) [
        | true ↦ (e, l)
        | false ↦ (l.0, low-insert z x ys e l.1)
      ]

  pub low-sort : (z : X) (xs : List X) → Low R z xs → Low R z (sort le xs)
  low-sort z [] l = tt
  low-sort z (x ∷ xs) l = low-insert z x (sort le xs) l.0 (low-sort z xs l.1)

module _ {X : Type 0} (le : X → X → Bool)
    (total : (x y : X) → le x y ≡ false → le y x ≡ true)
    (trans : (x y z : X) → le x y ≡ true → le y z ≡ true → le x z ≡ true) where
  pub low-down : (x y : X) (zs : List X) → le x y ≡ true → Low le y zs → Low le x zs
  low-down x y [] e l = tt
  low-down x y (z ∷ zs) e l = (trans x y z e l.0, low-down x y zs e l.1)

  insert-sorted : (x : X) (ys : List X) → Sorted le ys → Sorted le (insert le x ys)
  insert-sorted x [] s = (tt, tt)
  insert-sorted x (y ∷ ys) s = go (insert-sorted x ys s.1) (le x y) refl
    where
      go : Sorted le (insert le x ys) → (b : Bool) → le x y ≡ b → Sorted le (cond b (x ∷ (y ∷ ys)) (y ∷ insert le x ys))
      go ih true e = ((e, low-down x y ys e s.0), s)
      go ih false e = (low-insert le le y x ys (total x y e) s.0, ih)

  pub sort_sorted : (xs : List X) → Sorted le (sort le xs)
  sort_sorted [] = tt
  sort_sorted (x ∷ xs) = insert-sorted x (sort le xs) (sort_sorted xs)

module _ {X : Type 0} (le : X → X → Bool) (p : X → Bool)
    (down : (x y : X) → le x y ≡ true → p x ≡ false → p y ≡ false) where
  none : (x : X) (ys : List X) → Low le x ys → p x ≡ false → count p ys ≡ 0
  none x [] l e = refl
  none x (y ∷ ys) l e = rw (down x y l.0 e, none x ys l.1 e)

  pub falls : (xs : List X) → Sorted le xs → Falls p xs
  falls [] s = tt
  falls (x ∷ xs) s = (none x xs s.0, falls xs s.1)
