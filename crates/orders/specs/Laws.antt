-- The laws of a key order and of a payload.
use Rattle.std.specs.Prelude.{◌≡◌, true}
use Rattle.std.specs.declared.cmp.Ordering.TheVariants.{Less}
use Rattle.std.specs.declared.cmp.Ordering.{Ordering}
use Rattle.std.specs.Ordering.{is_le, ordering_reverse}

-- `order a b` says whether a is below (Less), the same as (Equal) or above (Greater) b, so exactly one of the three.
-- Keys that are the same need not be equal.
pub record LawfulOrder {K : Type 0} (order : K → K → Ordering) : Type 0 where
  -- exchanging the keys exchanges below and above
  pub exchange : (a b : K) → order b a ≡ ordering_reverse (order a b)
  -- below is transitive
  pub below : (a b c : K) → order a b ≡ Less → order b c ≡ Less → order a c ≡ Less
  -- not above is transitive
  pub not_above : (a b c : K) → is_le (order a b) ≡ true → is_le (order b c) ≡ true → is_le (order a c) ≡ true

-- payloads are a commutative monoid
pub record LawfulJoin {P : Type 0} (neutral : P) (joined : P → P → P) : Type 0 where
  pub assoc : (a b c : P) → joined (joined a b) c ≡ joined a (joined b c)
  pub comm : (a b : P) → joined a b ≡ joined b a
  pub unit : (a : P) → joined neutral a ≡ a
