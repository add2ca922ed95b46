-- What the laws of an order give: elements by their keys, lists in order, and tests that hold up to the place of a key.
use Rattle.std.proofs.Common.{◌≡◌, Bool, true, false, List, [], ◌∷◌, Ordering, refl, arith}
use Rattle.std.specs.Ordering.{is_le, is_lt}
use Rattle.orders.specs.declared.side.Side.{Side}
use Rattle.orders.specs.declared.side.Side.TheVariants.{Low, High}
use Rattle.orders.specs.Laws.{LawfulOrder}
use Rattle.orders.specs.Places.{passed, in_order, in_order_after}
use Rattle.cascade.specs.Lists.{Sorted}
use Rattle.cascade.specs.Lists as lists
use Rattle.cascade.specs.Trees.{Tagged, keys_of, not_above}
use Rattle.cascade.proofs.Counts.{Falls}
use Rattle.cascade.proofs.Sorting.{falls, low-down}

module _ {K : Type 0} (order : K → K → Ordering) where
  abbrev pub key_le : K → K → Bool
  key_le a b = is_le (order a b)

  pub low-keys : (x : Tagged K) (xs : List (Tagged K)) → lists.Low (not_above order) x xs → lists.Low key_le x.1 (keys_of xs)
  low-keys x [] l = tt
  low-keys x (y ∷ ys) l = (l.0, low-keys x ys l.1)

  pub sorted-keys : (xs : List (Tagged K)) → Sorted (not_above order) xs → Sorted key_le (keys_of xs)
  sorted-keys [] s = tt
  sorted-keys (x ∷ xs) s = (low-keys x xs s.0, sorted-keys xs s.1)

  low-from-keys : (x : Tagged K) (xs : List (Tagged K)) → lists.Low key_le x.1 (keys_of xs) → lists.Low (not_above order) x xs
  low-from-keys x [] l = tt
  low-from-keys x (y ∷ ys) l = (l.0, low-from-keys x ys l.1)

  pub sorted-from-keys : (xs : List (Tagged K)) → Sorted key_le (keys_of xs) → Sorted (not_above order) xs
  sorted-from-keys [] s = tt
  sorted-from-keys (x ∷ xs) s = (low-from-keys x xs s.0, sorted-from-keys xs s.1)

module _ {K : Type 0} (order : K → K → Ordering) (laws : LawfulOrder order) where
  pub key-total : (a b : K) → key_le order a b ≡ false → key_le order b a ≡ true
  key-total a b e = grind (arith, laws.exchange a b)

  pub key-trans : (a b c : K) → key_le order a b ≡ true → key_le order b c ≡ true → key_le order a c ≡ true
  key-trans = laws.not_above

  pub total : (x y : Tagged K) → not_above order x y ≡ false → not_above order y x ≡ true
  total x y = key-total x.1 y.1

  pub trans : (x y z : Tagged K) → not_above order x y ≡ true → not_above order y z ≡ true → not_above order x z ≡ true
  trans x y z = key-trans x.1 y.1 z.1

  -- not below, the other way round
  pub not-below : (a b : K) → is_lt (order a b) ≡ false → key_le order b a ≡ true
  not-below a b e = grind (arith, laws.exchange a b)

  pub not-above : (a b : K) → key_le order b a ≡ true → is_lt (order a b) ≡ false
  not-above a b e = grind (arith, laws.exchange b a)

  -- what is not passed is followed by no key that is
  pub down : (side : Side) (q a b : K) → key_le order a b ≡ true → passed order side q a ≡ false → passed order side q b ≡ false
  down Low q a b e f = not-above b q (key-trans q a b (not-below a q f) e)
  down High q a b e f = let t = key-trans a b q e in grind (arith, t)

  pub falls-keys : (side : Side) (q : K) (ks : List K) → Sorted (key_le order) ks → Falls (passed order side q) ks
  falls-keys side q ks s = falls (key_le order) (passed order side q) (down side q) ks s

  after-from-low : (k : K) (ks : List K) → lists.Low (key_le order) k ks → Sorted (key_le order) ks → in_order_after order k ks ≡ true
  after-from-low k [] l s = refl
  after-from-low k (x ∷ xs) l s = rw (not-above x k l.0) (after-from-low x xs s.0 s.1)

  pub in-order-from-sorted : (ks : List K) → Sorted (key_le order) ks → in_order order ks ≡ true
  in-order-from-sorted [] s = refl
  in-order-from-sorted (k ∷ ks) s = after-from-low k ks s.0 s.1

  sorted-from-after : (k : K) (ks : List K) → in_order_after order k ks ≡ true → Sorted (key_le order) (k ∷ ks)
  sorted-from-after k [] h = (tt, tt)
  sorted-from-after k (x ∷ xs) h =
      let s = sorted-from-after x xs (grind arith) in
      let l = not-below x k (grind arith) in
      ((l, low-down (key_le order) key-total key-trans k x xs l s.0), s)

  pub sorted-from-in-order : (ks : List K) → in_order order ks ≡ true → Sorted (key_le order) ks
  sorted-from-in-order [] h = tt
  sorted-from-in-order (k ∷ ks) h = sorted-from-after k ks h
