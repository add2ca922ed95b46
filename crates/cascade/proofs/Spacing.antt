-- All augmented lists together: at most four elements for three keys.
use Rattle.std.proofs.Common.{◌≡◌, ℕ, suc, ◌+◌, ◌*◌, ◌/◌, ◌≤◌, cond, eqb, ltb, List, [], ◌∷◌, ◌++◌, length, sum_by, Ordering, refl, ◌∙◌, arith, length-append}
use lib.ListN.{length-map}
use Rattle.std.proofs.lemmas.List.Sums.{sum_by-cons}
use Rattle.std.proofs.lemmas.Bool.Decides.{nat_tests}
use Rattle.cascade.specs.Trees.{KeyTree, Tagged, own_source, tag, tag_all, not_above, augment, child_samples, augmented_from, all_keys}
use Rattle.cascade.specs.Theorems.{Space}
use Rattle.cascade.proofs.Counts.{length-sort, length-samples}

module _ {K : Type 0} where
  -- how many samples the lists have of which v is the parent
  under : ℕ → KeyTree K → List (List (Tagged K)) → ℕ
  under v [] gs = 0
  under v (b ∷ bs) [] = 0
  under v (b ∷ bs) (g ∷ gs) = cond (eqb b.0 v) (length g / 4 + under v bs gs) (under v bs gs)

  -- and those of which the parent is smaller than u
  below : ℕ → KeyTree K → List (List (Tagged K)) → ℕ
  below u [] gs = 0
  below u (b ∷ bs) [] = 0
  below u (b ∷ bs) (g ∷ gs) = cond (ltb b.0 u) (length g / 4 + below u bs gs) (below u bs gs)

  -- and all
  fourths : List (List (Tagged K)) → ℕ
  fourths [] = 0
  fourths (g ∷ gs) = length g / 4 + fourths gs

  length-under : (j v : ℕ) (bs : KeyTree K) (gs : List (List (Tagged K))) → length (tag_all j (child_samples v bs gs)) ≡ under v bs gs
  unfolding under
  length-under j v [] gs = refl
  length-under j v (b ∷ bs) [] = refl
  length-under j v (b ∷ bs) (g ∷ gs) =
      let more = length-under (suc j) v bs gs in
      let same = length-under j v bs gs in
      grind (arith, length-append, length-map, length-samples, more, same)

  below_suc : (v : ℕ) (bs : KeyTree K) (gs : List (List (Tagged K))) → below (suc v) bs gs ≡ below v bs gs + under v bs gs
  unfolding below under
  below_suc v [] gs = refl
  below_suc v (b ∷ bs) [] = refl
  below_suc v (b ∷ bs) (g ∷ gs) = let ih = below_suc v bs gs in grind (arith, nat_tests)

  below-le : (v : ℕ) (b : ℕ × List K) (bs : KeyTree K) (g : List (Tagged K)) (gs : List (List (Tagged K))) → below v (b ∷ bs) (g ∷ gs) ≤ length g / 4 + below v bs gs
  unfolding below
  below-le v b bs g gs = grind (arith, nat_tests)

  fourths-le : (gs : List (List (Tagged K))) → 4 * fourths gs ≤ sum_by length gs
  unfolding fourths
  fourths-le [] = omega arith
  fourths-le (g ∷ gs) = let ih = fourths-le gs in let s = sum_by-cons length g gs in omega arith

  module _ (order : K → K → Ordering) where
    length-augment : (ks : List K) (v : ℕ) (bs : KeyTree K) (gs : List (List (Tagged K))) → length (augment order ks (child_samples v bs gs)) ≡ length ks + under v bs gs
    length-augment ks v bs gs =
        let u = length-under 0 v bs gs in
        length-sort (not_above order) (tag own_source ks ++ tag_all 0 (child_samples v bs gs)) ∙ rw (length-append, length-map) (omega arith)

    -- each list pays for the samples of those above it
    paid : (v : ℕ) (bs : KeyTree K) → sum_by length (augmented_from order v bs) + below v bs (augmented_from order v bs) ≤ all_keys bs + fourths (augmented_from order v bs)
    unfolding below fourths
    paid v [] = omega arith
    paid v (b ∷ bs) =
        let gs = augmented_from order (suc v) bs in
        let g = augment order b.1 (child_samples v bs gs) in
        let ih = paid (suc v) bs in
        let s = below_suc v bs gs in
        let l = length-augment b.1 v bs gs in
        let m = below-le v b bs g gs in
        let x = sum_by-cons length g gs in
        let y = sum_by-cons (λ (c : ℕ × List K). length c.1) b bs in
        omega arith

pub space : (K : Type 0) → Space K
space K order t = let p = paid order 0 t in let f = fourths-le (augmented_from order 0 t) in omega arith
