-- The law of an index over every sequence of calls.
use Rattle.std.specs.Prelude.{◌≡◌, ℕ, ◌<◌, ◌≤◌, min, List, length, take, drop, Some, Ok}
use Rattle.std.specs.declared.cmp.Ordering.{Ordering}
use Rattle.std.specs.List.{slice_get}
use Rattle.orders.specs.declared.side.Side.{Side}
use Rattle.shelves.specs.Meaning.{Branch}
use Rattle.layout.specs.KeyTrees.{key_tree}
use Rattle.register.specs.Register.{Register}
use Rattle.register.specs.declared.answers.Lookup.{Lookup}
use Rattle.register.specs.declared.answers.Offer.{Offer}
use Rattle.register.specs.declared.answers.Range.{Range}
use Rattle.index.specs.Calls.{Outcome, outcome_read, answer, fed, after_all}
use Rattle.index.specs.Counts.{LookupCounts, OfferCounts, RangeCounts}
use Rattle.index.specs.Machine.{Machine, Sound, sizes_of}
use Rattle.index.specs.Rectangles.{HoldRectangle}
use Rattle.index.specs.declared.requests.Granted.TheVariants.{Found, Offered, Ranged}
use Rattle.index.specs.declared.requests.Request.{Request}
use Rattle.index.specs.declared.requests.Request.TheVariants.{LookUp, Offer as OfferOf, Range as RangeOver}

module _ {S K P : Type 0} (order : K → K → Ordering) (neutral : P) (joined : P → P → P) (meaning : S → List (Branch K P)) (first : Machine K P) (calls : List (Request S K P)) where
  -- the plain register after the first k calls: fed only with them and the three memory sizes, it has no bridges
  abbrev pub register_after : ℕ → Register K P
  register_after k = fed order neutral joined meaning (sizes_of first) first.register (take k calls)

  -- the register and the whole memories that the first k calls leave
  abbrev pub machine_after : ℕ → Machine K P
  machine_after k = after_all order joined meaning first (take k calls)

  -- how many calls are carried out, with so many places for outcomes
  abbrev pub carried_out : List (Outcome P) → ℕ
  carried_out was = min (length calls) (length was)

  -- call k is `call`, and its outcome is `outcome`
  pub record Came (outcomes : List (Outcome P)) (k : ℕ) (call : Request S K P) (outcome : Outcome P) : Type 0 where
    pub within : k < carried_out outcomes
    pub called : slice_get calls k ≡ Some call
    pub wrote : slice_get outcomes k ≡ Some outcome

  -- calls are carried out from the state `first` on until they or the places for outcomes end. `was` are the places for
  -- outcomes before, `outcomes` after, and `last` is the state in the end. What is said of k is said of every k, so it
  -- holds after every call
  pub record Law (was outcomes : List (Outcome P)) (last : Machine K P) : Type 0 where
    -- each outcome, comparisons aside, is the answer or the refusal of the plain register that was fed the calls before
    pub answers : (k : ℕ) (call : Request S K P) (outcome : Outcome P) → Came outcomes k call outcome
        → outcome_read outcome ≡ answer order neutral joined meaning (sizes_of first) (register_after k) call
    -- the places behind the outcomes stay
    pub sized : length outcomes ≡ length was
    pub behind : drop (carried_out was) outcomes ≡ drop (carried_out was) was
    -- at every moment the lists of the index are those of the plain register
    pub registers : (k : ℕ) → k ≤ carried_out was → (machine_after k).register ≡ register_after k
    -- at every moment the memory in use is what build lays down for these lists, and 3 T ≤ 4 N
    pub sound : (k : ℕ) → k ≤ carried_out was → Sound order (machine_after k)
    -- the whole memories, also behind the part in use, are as the calls left them
    pub left : last ≡ machine_after (carried_out was)
    -- the comparisons that granted lookups, offers and ranges report are those that their searches count, and bounded
    pub lookups : (k w : ℕ) (q : K) (side : Side) (l : Lookup) → Came outcomes k (LookUp w q side) (Ok (Found l))
        → LookupCounts order (key_tree (register_after k)) w side q l.comparisons
    pub offers : (k w : ℕ) (q : K) (o : Offer P) → Came outcomes k (OfferOf w q) (Ok (Offered o))
        → OfferCounts order (key_tree (register_after k)) w q o.comparisons
    pub ranges : (k a b : ℕ) (low high : K) (r : Range P) → Came outcomes k (RangeOver a b low high) (Ok (Ranged r))
        → RangeCounts order (key_tree (register_after k)) a b low high r.comparisons
    -- the spans of a granted range hold each point of its rectangle once, and no other point
    pub rectangles : (k a b : ℕ) (low high : K) (r : Range P) → Came outcomes k (RangeOver a b low high) (Ok (Ranged r))
        → HoldRectangle order (register_after k) a b low high (take r.used r.spans)
