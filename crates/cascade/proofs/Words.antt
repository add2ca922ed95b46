-- An augmented list is the one list that its definition in words describes.
use Rattle.std.proofs.Common.{◌≡◌, ℕ, zero, suc, ◌<◌, ◌≤◌, Bool, true, false, cond, leb, List, [], ◌∷◌, ◌++◌, length, get_or, Ordering, sym, refl, ap, ◌∙◌, subst, inl, inr, arith}
use lib.ListN.{length-map}
use Rattle.std.specs.Ordering.{is_le, is_lt, ordering_reverse}
use Rattle.std.proofs.lemmas.List.{get_or_past}
use Rattle.std.proofs.lemmas.Bool.{cases_eq, cases_lt, eq-eqb, ne_eqb, le-leb}
use Rattle.std.proofs.lemmas.Bool.Decides.{nat_tests}
use Rattle.orders.specs.Laws.{LawfulOrder}
use Rattle.cascade.specs.Lists.{samples, insert, sort, Low, Sorted}
use Rattle.cascade.specs.Trees.{KeyTree, Tagged, own_source, child_source, keys_at, ParentsSmaller, children_of, ordinal, keys_of, tag, tag_all, not_above, augmented}
use Rattle.cascade.specs.Theorems.{before, part_of, IsAugmented, Defined}
use Rattle.cascade.proofs.Sorting.{sort_sorted, low-sort}
use Rattle.cascade.proofs.Merging.{samples-sorted}
use Rattle.cascade.proofs.KeyOrders.{key_le, key-total, key-trans, sorted-from-in-order}
use Rattle.cascade.proofs.Parts.{part-own, part-child, part-sort}
use Rattle.cascade.proofs.Augmenting.{by-children, samples_under, samples-at, child-back}
use Rattle.cascade.proofs.Bridges.{keys-sorted}

-- which of two elements stands before the other, by how their keys compare and by their sources
abbrev rank : Ordering → ℕ → ℕ → Bool
rank o m n = cond (is_lt o) true (cond (is_le o) (leb m n) false)

rank-total : (o : Ordering) (m n : ℕ) → rank o m n ≡ false → rank (ordering_reverse o) n m ≡ true
rank-total o m n e = grind (arith, nat_tests)

-- before one another only from the same source
rank-apart : (o : Ordering) (m n : ℕ) → rank o m n ≡ true → rank (ordering_reverse o) n m ≡ true → m ≡ n
rank-apart o m n e f = grind (arith, nat_tests)

-- where sources rise, they decide nothing
rank_up : (o : Ordering) (m n : ℕ) → leb m n ≡ true → is_le o ≡ rank o m n
rank_up o m n e = grind (arith, nat_tests)

rank-le : (o : Ordering) (m n : ℕ) → rank o m n ≡ true → is_le o ≡ true
rank-le o m n e = grind (arith, nat_tests)

module _ {K : Type 0} where
  abbrev source_le : Tagged K → Tagged K → Bool
  source_le x y = leb x.0 y.0

  low-tag : (source : ℕ) (x : Tagged K) (ks : List K) (rest : List (Tagged K)) → x.0 ≤ source → Low source_le x rest → Low source_le x (tag source ks ++ rest)
  low-tag source x [] rest h l = l
  low-tag source x (k ∷ ks) rest h l = (le-leb x.0 source h, low-tag source x ks rest h l)

  low-tag_all : (j : ℕ) (x : Tagged K) (ss : List (List K)) → x.0 ≤ child_source j → Low source_le x (tag_all j ss)
  low-tag_all j x [] h = tt
  low-tag_all j x (s ∷ ss) h = low-tag (child_source j) x s (tag_all (suc j) ss) h (low-tag_all (suc j) x ss (omega arith))

  rise-tag : (source : ℕ) (ks : List K) (rest : List (Tagged K)) → ((k : K) → Low source_le (source, k) rest) → Sorted source_le rest → Sorted source_le (tag source ks ++ rest)
  rise-tag source [] rest l s = s
  rise-tag source (k ∷ ks) rest l s = (low-tag source (source, k) ks rest (omega arith) (l k), rise-tag source ks rest l s)

  rise-tag_all : (j : ℕ) (ss : List (List K)) → Sorted source_le (tag_all j ss)
  rise-tag_all j [] = tt
  rise-tag_all j (s ∷ ss) = rise-tag (child_source j) s (tag_all (suc j) ss) (λ k. low-tag_all (suc j) (child_source j, k) ss (omega arith)) (rise-tag_all (suc j) ss)

  -- own keys, then samples child by child
  rise : (ks : List K) (ss : List (List K)) → Sorted source_le (tag own_source ks ++ tag_all 0 ss)
  rise ks ss = rise-tag own_source ks (tag_all 0 ss) (λ k. low-tag_all 0 (own_source, k) ss (omega arith)) (rise-tag_all 0 ss)

module _ {K : Type 0} (order : K → K → Ordering) where
  insert-before : (x : Tagged K) (ys : List (Tagged K)) → Low source_le x ys → insert (not_above order) x ys ≡ insert (before order) x ys
  insert-before x [] l = refl
  insert-before x (y ∷ ys) l =
      ap (λ r. cond (not_above order x y) (x ∷ (y ∷ ys)) (y ∷ r)) (insert-before x ys l.1)
      ∙ ap (λ c. cond c (x ∷ (y ∷ ys)) (y ∷ insert (before order) x ys)) (rank_up (order x.1 y.1) x.0 y.0 l.0)

  -- the stable sort of what stands by source is the sort with ties by source
  sort-before : (zs : List (Tagged K)) → Sorted source_le zs → sort (not_above order) zs ≡ sort (before order) zs
  sort-before [] s = refl
  sort-before (z ∷ zs) s =
      insert-before z (sort (not_above order) zs) (low-sort source_le (not_above order) z zs s.0)
      ∙ ap (insert (before order) z) (sort-before zs s.1)

module _ {K : Type 0} (order : K → K → Ordering) (laws : LawfulOrder order) where
  before-total : (x y : Tagged K) → before order x y ≡ false → before order y x ≡ true
  before-total x y e = grind (arith, nat_tests, laws.exchange x.1 y.1)

  before-trans : (x y z : Tagged K) → before order x y ≡ true → before order y z ≡ true → before order x z ≡ true
  before-trans x y z e f =
      grind (arith, nat_tests, laws.exchange x.1 y.1, laws.exchange y.1 z.1, laws.exchange x.1 z.1, laws.not_above x.1 y.1 z.1, laws.not_above y.1 z.1 x.1, laws.not_above z.1 x.1 y.1)

  -- the first key of a part stands behind what stands before all
  low_part : (x : Tagged K) (source : ℕ) (xs : List (Tagged K)) (k : K) (ks : List K) → Low (before order) x xs → part_of source xs ≡ k ∷ ks → before order x (source, k) ≡ true
  low_part x source [] k ks l e = let z : ◌≡◌ {A = ℕ} 0 (suc (length ks)) = ap length e in absurd (omega arith)
  low_part x source (y ∷ ys) k ks l e = let ih = low_part x source ys k ks l.1 in grind (arith, nat_tests, ih, l.0, e)

  part-here : (x : Tagged K) (xs : List (Tagged K)) → part_of x.0 (x ∷ xs) ≡ x.1 ∷ part_of x.0 xs
  part-here x xs = rw (eq-eqb x.0 x.0 refl)

  part-there : (x : Tagged K) (xs : List (Tagged K)) (source : ℕ) → (x.0 ≡ source → ⊥) → part_of source (x ∷ xs) ≡ part_of source xs
  part-there x xs source h = rw (ne_eqb x.0 source h)

  abbrev SameParts : List (Tagged K) → List (Tagged K) → Type 0
  SameParts xs ys = (source : ℕ) → part_of source xs ≡ part_of source ys

  tails : (x y : Tagged K) (xs ys : List (Tagged K)) → x.0 ≡ y.0 → SameParts (x ∷ xs) (y ∷ ys) → SameParts xs ys
  tails x y xs ys e h source =
      elim (cases_eq x.0 source) [
        | inl m ↦
            let g : x.1 ∷ part_of x.0 xs ≡ y.1 ∷ part_of y.0 ys = sym (part-here x xs) ∙ h x.0 ∙ ap (λ s. part_of s (y ∷ ys)) e ∙ part-here y ys in
            let i : part_of x.0 xs ≡ part_of y.0 ys = cc in
            ap (λ s. part_of s xs) (sym m) ∙ i ∙ ap (λ s. part_of s ys) (sym e ∙ m)
        | inr d ↦ sym (part-there x xs source d) ∙ h source ∙ part-there y ys source (λ m. d (e ∙ m))
      ]

  heads : (x y : Tagged K) (xs ys : List (Tagged K)) → x.0 ≡ y.0 → SameParts (x ∷ xs) (y ∷ ys) → x ≡ y
  heads x y xs ys e h =
      let g : x.1 ∷ part_of x.0 xs ≡ y.1 ∷ part_of y.0 ys = sym (part-here x xs) ∙ h x.0 ∙ ap (λ s. part_of s (y ∷ ys)) e ∙ part-here y ys in
      let i : x.1 ≡ y.1 = cc in
      ap (λ s. (s, x.1)) e ∙ ap (λ k. (y.0, k)) i

  -- an element before all of xs is before the head of a list with the same parts, if that is from another source
  before_head : (x y : Tagged K) (xs ys : List (Tagged K)) → (x.0 ≡ y.0 → ⊥) → Low (before order) x xs → SameParts (x ∷ xs) (y ∷ ys) → before order x y ≡ true
  before_head x y xs ys d l h = low_part x y.0 xs y.1 (part_of y.0 ys) l (sym (part-there x xs y.0 d) ∙ h y.0 ∙ part-here y ys)

  -- lists in order with the same parts are the same
  unique : (xs ys : List (Tagged K)) → Sorted (before order) xs → Sorted (before order) ys → SameParts xs ys → xs ≡ ys
  unique [] [] s r h = refl
  unique [] (y ∷ ys) s r h = let z : ◌≡◌ {A = ℕ} 0 (suc (length (part_of y.0 ys))) = ap length (h y.0 ∙ part-here y ys) in absurd (omega arith)
  unique (x ∷ xs) [] s r h = let z : ◌≡◌ {A = ℕ} (suc (length (part_of x.0 xs))) 0 = ap length (sym (part-here x xs) ∙ h x.0) in absurd (omega arith)
  unique (x ∷ xs) (y ∷ ys) s r h =
      elim (cases_eq x.0 y.0) [
        | inl e ↦ ap (λ z. z ∷ xs) (heads x y xs ys e h) ∙ ap (λ zs. y ∷ zs) (unique xs ys s.1 r.1 (tails x y xs ys e h))
        | inr d ↦
            let e = before_head x y xs ys d s.0 h in
            let f = before_head y x ys xs (λ m. d (sym m)) r.0 (λ source. sym (h source)) in
            absurd (d (rank-apart (order x.1 y.1) x.0 y.0 e (ap (λ o. rank o y.0 x.0) (sym (laws.exchange x.1 y.1)) ∙ f)))
      ]

module _ {K : Type 0} (order : K → K → Ordering) (laws : LawfulOrder order) (t : KeyTree K) (smaller : ParentsSmaller t) (v : ℕ) (there : v < length t) where
  abbrev sources : List (Tagged K)
  sources = tag own_source (keys_at t v) ++ tag_all 0 (samples_under order t v)

  is : augmented order t v ≡ sort (not_above order) sources
  is = by-children order t smaller v there

  part-is : (source : ℕ) → Sorted (key_le order) (part_of source sources) → part_of source (augmented order t v) ≡ part_of source sources
  part-is source s = ap (part_of source) is ∙ part-sort order laws source sources s

  described : Sorted (key_le order) (keys_at t v) → IsAugmented order t v (augmented order t v)
  described s =
      let own = part-own (keys_at t v) (samples_under order t v) in
      record {
        ordered = subst (Sorted (before order)) (sym (is ∙ sort-before order sources (rise (keys_at t v) (samples_under order t v))))
            (sort_sorted (before order) (before-total order laws) (before-trans order laws) sources);
        own = part-is own_source (subst (Sorted (key_le order)) (sym own) s) ∙ own;
        children = λ w z h e.
            let p : part_of (child_source (ordinal t w)) sources ≡ samples (keys_of (augmented order t w)) =
            part-child (ordinal t w) (keys_at t v) (samples_under order t v)
            ∙ subst (λ u. get_or (samples_under order t u) (ordinal t w) [] ≡ samples (keys_of (augmented order t w))) e (samples-at order t w z h) in
            part-is (child_source (ordinal t w))
            (subst (Sorted (key_le order)) (sym p) (samples-sorted (key_le order) (key-total order laws) (key-trans order laws) (keys_of (augmented order t w)) (keys-sorted order laws t w)))
            ∙ p;
        others = λ j h.
            let p : part_of (child_source j) sources ≡ [] =
            part-child j (keys_at t v) (samples_under order t v)
            ∙ get_or_past (samples_under order t v) j [] (rw length-map h) in
            part-is (child_source j) (subst (Sorted (key_le order)) (sym p) tt) ∙ p;
      }

  same : (xs ys : List (Tagged K)) → IsAugmented order t v xs → IsAugmented order t v ys → (source : ℕ) → part_of source xs ≡ part_of source ys
  same xs ys h k zero = h.own ∙ sym k.own
  same xs ys h k (suc j) =
      elim (cases_lt j (length (children_of t v))) [
        | inl l ↦
            let r = child-back t v j l in
            subst (λ i. part_of (child_source i) xs ≡ part_of (child_source i) ys) r.4
            (h.children r.0 r.1 r.2 r.3 ∙ sym (k.children r.0 r.1 r.2 r.3))
        | inr l ↦ h.others j l ∙ sym (k.others j l)
      ]

pub defined : (K : Type 0) → Defined K
defined K order laws t smaller v h s =
    let d = described order laws t smaller v h (sorted-from-in-order order laws (keys_at t v) s) in
    (d, λ xs r. unique order laws xs (augmented order t v) r.ordered d.ordered (same order laws t smaller v h xs (augmented order t v) r d))
