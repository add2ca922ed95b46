-- The comparisons that lookups, offers and ranges report: those that the searches count, and their bound.
use Rattle.std.specs.Prelude.{◌≡◌, ℕ, ◌+◌, ◌*◌, ◌≤◌, length}
use Rattle.std.specs.declared.cmp.Ordering.{Ordering}
use Rattle.orders.specs.declared.side.Side.{Side}
use Rattle.orders.specs.declared.side.Side.TheVariants.{Low, High}
use Rattle.orders.specs.Numbers.{bit_length}
use Rattle.cascade.specs.SlotTree.{range_comparisons}
use Rattle.cascade.specs.Trees.{KeyTree, depth_of, augmented}
use Rattle.cascade.specs.Walks.{comparisons}

module _ {K : Type 0} (order : K → K → Ordering) (t : KeyTree K) (w : ℕ) where
  -- the binary digits of the length of the root's augmented list, and three for each edge to list w
  abbrev pub most_comparisons : ℕ
  most_comparisons = bit_length (length (augmented order t 0)) + 3 * depth_of t w

  -- a lookup of q that ends at list w reports n comparisons
  pub record LookupCounts (side : Side) (q : K) (n : ℕ) : Type 0 where
    pub counted : n ≡ comparisons order t side q w
    pub bounded : n ≤ most_comparisons

  -- an offer of q at list w reports those of a low and a high lookup
  pub record OfferCounts (q : K) (n : ℕ) : Type 0 where
    pub counted : n ≡ comparisons order t Low q w + comparisons order t High q w
    pub bounded : n ≤ 2 * most_comparisons

module _ {K : Type 0} (order : K → K → Ordering) (t : KeyTree K) where
  -- the binary digits of the length of the root's augmented list
  abbrev pub root_digits : ℕ
  root_digits = bit_length (length (augmented order t 0))

  -- a range over the slots a to b and the keys low to high reports those of both sides over all visited lists
  pub record RangeCounts (a b : ℕ) (low high : K) (n : ℕ) : Type 0 where
    pub counted : n ≡ range_comparisons order t a b low high
    pub bounded : n ≤ 2 * root_digits + 120
