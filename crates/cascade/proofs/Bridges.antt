-- Augmented lists are in order, and their tallies lead from the number of elements passed in one list to that in another.
use Rattle.std.proofs.Common.{◌≡◌, ℕ, zero, suc, ◌+◌, ◌/◌, ◌<◌, ◌≤◌, Bool, ◌&&◌, eqb, List, [], ◌∷◌, ◌++◌, map, length, get_or, drop, Ordering, sym, ap, ◌∙◌, le_trans, arith}
use Rattle.orders.specs.declared.side.Side.{Side}
use Rattle.orders.specs.Laws.{LawfulOrder}
use Rattle.orders.specs.Places.{count, passed}
use Rattle.cascade.specs.Lists.{Sorted}
use Rattle.cascade.specs.Trees.{KeyTree, own_source, child_source, parent_of, keys_at, ParentsSmaller, ordinal, keys_of, tag, tag_all, not_above, augment, child_samples, augmented_from, augmented}
use Rattle.cascade.specs.Rows.{tally}
use Rattle.cascade.specs.Walks.{passes}
use Rattle.cascade.specs.Theorems.{Ordered, RootSearch, EdgeWithin, OwnPlace, part_of}
use Rattle.cascade.proofs.Counts.{Falls, count-front, count-sort, count-samples, count_map}
use Rattle.cascade.proofs.Sorting.{sort_sorted}
use Rattle.cascade.proofs.KeyOrders.{key_le, total, trans, sorted-keys, in-order-from-sorted, falls-keys}
use Rattle.cascade.proofs.Parts.{count-part, part-own, part-child}
use Rattle.cascade.proofs.Augmenting.{from_at, by-children, samples_under, samples-at}
use Rattle.cascade.proofs.Searching.{root_is, edge-is}

-- a test of what the elements are mapped to
falls-map : {X Y : Type 0} (f : Y → Bool) (g : X → Y) (xs : List X) → Falls f (map g xs) → Falls (λ x. f (g x)) xs
falls-map f g [] h = tt
falls-map f g (x ∷ xs) h = (λ e. sym (count_map f g xs) ∙ h.0 e, falls-map f g xs h.1)

module _ {K : Type 0} (order : K → K → Ordering) (laws : LawfulOrder order) where
  sorted-from : (u : ℕ) (bs : KeyTree K) (k : ℕ) → Sorted (not_above order) (get_or (augmented_from order u bs) k [])
  sorted-from u [] k = tt
  sorted-from u (b ∷ bs) zero = sort_sorted (not_above order) (total order laws) (trans order laws) (tag own_source b.1 ++ tag_all 0 (child_samples u bs (augmented_from order (suc u) bs)))
  sorted-from u (b ∷ bs) (suc k) = sorted-from (suc u) bs k

  module _ (t : KeyTree K) (v : ℕ) where
    pub augmented-sorted : Sorted (not_above order) (augmented order t v)
    augmented-sorted = sorted-from 0 t v

    pub keys-sorted : Sorted (key_le order) (keys_of (augmented order t v))
    keys-sorted = sorted-keys order (augmented order t v) augmented-sorted

    pub falls_at : (side : Side) (q : K) → Falls (passes order side q) (augmented order t v)
    falls_at side q = falls-map (passed order side q) (λ x. x.1) (augmented order t v) (falls-keys order laws side q (keys_of (augmented order t v)) keys-sorted)

    -- a tally at the number of elements passed counts what is passed of the source
    tally-passed : (side : Side) (q : K) (source : ℕ) (ks : List K) (ss : List (List K)) → augmented order t v ≡ augment order ks ss
        → tally source (count (passes order side q) (augmented order t v)) (augmented order t v) ≡ count (passed order side q) (part_of source (tag own_source ks ++ tag_all 0 ss))
    tally-passed side q source ks ss e =
        let zs = tag own_source ks ++ tag_all 0 ss in
        count-front (passes order side q) (λ x. eqb x.0 source) (augmented order t v) (falls_at side q)
        ∙ ap (count (λ x. passes order side q x && eqb x.0 source)) e
        ∙ count-sort (not_above order) (λ x. passes order side q x && eqb x.0 source) zs
        ∙ count-part (passed order side q) source zs

pub ordered : (K : Type 0) → Ordered K
ordered K order laws t v = in-order-from-sorted order laws (keys_of (augmented order t v)) (keys-sorted order laws t v)

pub root-search : (K : Type 0) → RootSearch K
root-search K order laws t v side q = root_is (passes order side q) (augmented order t v) (falls_at order laws t v side q)

pub own-place : (K : Type 0) → OwnPlace K
own-place K order laws t v h side q =
    let ss = child_samples (0 + v) (drop (suc v) t) (drop (suc v) (augmented_from order 0 t)) in
    tally-passed order laws t v side q own_source (keys_at t v) ss (from_at order 0 t v h)
    ∙ ap (count (passed order side q)) (part-own (keys_at t v) ss)

module _ {K : Type 0} (order : K → K → Ordering) (laws : LawfulOrder order) (t : KeyTree K) (smaller : ParentsSmaller t) where
  -- the tally of a child's samples is a fourth of the elements passed in the child's list
  pub child-tally : (side : Side) (q : K) (w : ℕ) → 0 < w → w < length t
      → tally (child_source (ordinal t w)) (count (passes order side q) (augmented order t (parent_of t w))) (augmented order t (parent_of t w))
      ≡ count (passes order side q) (augmented order t w) / 4
  child-tally side q w z h =
      let v = parent_of t w in
      let s = smaller w z h in
      tally-passed order laws t v side q (child_source (ordinal t w)) (keys_at t v) (samples_under order t v) (by-children order t smaller v (omega arith))
      ∙ ap (count (passed order side q)) (part-child (ordinal t w) (keys_at t v) (samples_under order t v) ∙ samples-at order t w z h)
      ∙ count-samples (passed order side q) (keys_of (augmented order t w)) (falls-keys order laws side q (keys_of (augmented order t w)) (keys-sorted order laws t w))
      ∙ ap (λ n. n / 4) (count_map (passed order side q) (λ x. x.1) (augmented order t w))

pub edge-within : (K : Type 0) (most : ℕ) → 3 ≤ most → EdgeWithin K most
edge-within K most enough order laws t smaller w z h side q p e g f =
    let r =
    edge-is (passes order side q) (augmented order t w) (falls_at order laws t w side q) g
    (f ∙ ap (λ n. tally (child_source (ordinal t w)) n (augmented order t (parent_of t w))) e ∙ child-tally order laws t smaller side q w z h) in
    (r.0, le_trans r.1 enough)
