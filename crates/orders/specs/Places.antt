-- Places of a sought key among keys.
use Rattle.std.specs.Prelude.{ℕ, ◌+◌, Bool, true, false, cond, List, [], ◌∷◌}
use Rattle.std.specs.declared.cmp.Ordering.{Ordering}
use Rattle.std.specs.Ordering.{is_le, is_lt}
use Rattle.orders.specs.declared.side.Side.{Side}
use Rattle.orders.specs.declared.side.Side.TheVariants.{Low, High}

abbrev pub bit : Bool → ℕ
bit true = 1
bit false = 0

-- how many elements pass a test
abbrev pub count : {X : Type 0} → (X → Bool) → List X → ℕ
count f [] = 0
count f (x ∷ xs) = bit (f x) + count f xs

module _ {K : Type 0} (order : K → K → Ordering) where
  -- whether the key k is passed on the way to the sought key q: on the low side where it is below q,
  -- on the high side where it is not above q
  abbrev pub passed : Side → K → K → Bool
  passed Low q k = is_lt (order k q)
  passed High q k = is_le (order k q)

  -- the place of q: the number of keys that are passed
  abbrev pub place : Side → K → List K → ℕ
  place side q ks = count (passed side q) ks

  -- no key is below the one before it, the first not below k
  abbrev pub in_order_after : K → List K → Bool
  in_order_after k [] = true
  in_order_after k (x ∷ xs) = let rest = in_order_after x xs in cond (is_lt (order x k)) false rest

  abbrev pub in_order : List K → Bool
  in_order [] = true
  in_order (k ∷ ks) = in_order_after k ks
