-- A span from the low-side place of one key to the high-side place of another that is not below it holds entries of its list.
use Rattle.std.proofs.Common.{◌≡◌, ℕ, ◌<◌, ◌≤◌, true, List, [], ◌∷◌, length, Ordering, Less, Equal, Greater, refl, ap, arith}
use Rattle.std.specs.Ordering.{is_le, is_lt}
use Rattle.orders.specs.Laws.{LawfulOrder}
use Rattle.orders.specs.Places.{bit, place}
use Rattle.orders.specs.declared.side.Side.TheVariants.{Low, High}
use Rattle.cascade.specs.Trees.{KeyTree, ParentsSmaller, keys_at}
use Rattle.cascade.specs.Walks.{walked_place}
use Rattle.cascade.proofs.Counts.{count-le-length}
use Rattle.cascade.proofs.Walking.{walks}
use Rattle.register.specs.Answers.{span}
use Rattle.walking.specs.Reached.{SpanOf}

module _ {K : Type 0} (order : K → K → Ordering) (laws : LawfulOrder order) where
  -- a key is not above itself
  pub not-above : (q : K) → is_le (order q q) ≡ true
  not-above q = go (order q q) refl
    where
      go : (o : Ordering) → order q q ≡ o → is_le o ≡ true
      go Less e = refl
      go Equal e = refl
      go Greater e = let x = laws.exchange q q in cc

  module _ (low high : K) (upward : is_le (order low high) ≡ true) where
    bit-forward : (k : K) → bit (is_lt (order k low)) ≤ bit (is_le (order k high))
    bit-forward k = go (order k low) refl
      where
        go : (o : Ordering) → order k low ≡ o → bit (is_lt o) ≤ bit (is_le (order k high))
        go Less e = let p : bit (is_le (order k high)) ≡ 1 = ap bit (laws.not_above k low high (ap is_le e) upward) in omega arith
        go Equal e = omega arith
        go Greater e = omega arith

    forward : (ks : List K) → place order Low low ks ≤ place order High high ks
    forward [] = omega arith
    forward (k ∷ ks) = omega (arith, bit-forward k, forward ks)

    pub span_of : (t : KeyTree K) → ParentsSmaller t → (v : ℕ) → v < length t → SpanOf t (span v (walked_place order t Low low v) (walked_place order t High high v))
    span_of t smaller v l =
        let first = walks order laws t smaller Low low v l in
        let after = walks order laws t smaller High high v l in
        record {
          there = l;
          forward = omega (arith, first, after, forward (keys_at t v));
          within = omega (arith, after, count-le-length (λ k. is_le (order k high)) (keys_at t v));
        }
