-- Lists in order: the stable sort of a list, the samples that are taken of it, and tests at its places.
use Rattle.std.specs.Prelude.{◌≡◌, ℕ, zero, suc, Bool, true, false, cond, List, [], ◌∷◌}

module _ {X : Type 0} where
  -- every fourth element: those at places 3, 7, 11, ..
  abbrev pub samples : List X → List X
  samples [] = []
  samples (a ∷ []) = []
  samples (a ∷ (b ∷ [])) = []
  samples (a ∷ (b ∷ (c ∷ []))) = []
  samples (a ∷ (b ∷ (c ∷ (d ∷ xs)))) = d ∷ samples xs

  -- x goes in before the first element that it is not above; `le x y` says that x is not above y
  abbrev pub insert : (X → X → Bool) → X → List X → List X
  insert le x [] = x ∷ []
  insert le x (y ∷ ys) = let rest = insert le x ys in cond (le x y) (x ∷ (y ∷ ys)) (y ∷ rest)

  -- the list in order; elements that are the same stay in the order in which they stood
  abbrev pub sort : (X → X → Bool) → List X → List X
  sort le [] = []
  sort le (x ∷ xs) = insert le x (sort le xs)

  -- x comes before each element
  abbrev pub Low : (X → X → Bool) → X → List X → Type 0
  Low le x [] = Unit
  Low le x (y ∷ ys) = (le x y ≡ true) × Low le x ys

  -- each element comes before all that stand behind it
  abbrev pub Sorted : (X → X → Bool) → List X → Type 0
  Sorted le [] = Unit
  Sorted le (x ∷ xs) = Low le x xs × Sorted le xs

  -- the test at a place; it fails past the end
  abbrev pub test_at : (X → Bool) → List X → ℕ → Bool
  test_at f [] i = false
  test_at f (x ∷ xs) zero = f x
  test_at f (x ∷ xs) (suc i) = test_at f xs i
