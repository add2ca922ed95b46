-- Each augmented list by its children: what stands behind a list, and what comes of it.
use Rattle.std.proofs.Common.{◌≡◌, ℕ, zero, suc, ◌+◌, ◌-◌, ◌/◌, ◌<◌, Bool, eqb, List, [], ◌∷◌, ◌++◌, map, length, get_or, drop, sum_by, filter, Ordering, sym, refl, ap, ◌∙◌, add-zero, add-suc, suc-add, zero-add, arith, length-append, length-drop}
use lib.ListN.{length-map}
use Rattle.std.specs.List.{range_with_len}
use Rattle.std.proofs.Math.Path.{fun_ext}
use Rattle.std.proofs.lemmas.List.{get_or-drop, get_or-map}
use Rattle.std.proofs.lemmas.List.Sums.{sum_by-cons}
use Rattle.std.proofs.lemmas.Bool.{eq-eqb, ne_eqb, eqb-true}
use Rattle.orders.specs.Places.{count}
use Rattle.cascade.specs.Lists.{samples}
use Rattle.cascade.specs.Trees.{KeyTree, Tagged, own_source, parent_of, keys_at, ParentsSmaller, children_of, ordinal, keys_of, tag, tag_all, not_above, augment, child_samples, augmented_from, augmented_lists, augmented}
use Rattle.cascade.specs.Theorems.{Lengths}
use Rattle.cascade.proofs.Counts.{length-sort, length-samples}
use Rattle.cascade.proofs.Numbering.{kept-skip, kept_at, kept_back, Numbered, numbered-tail, numbered-head, count-numbered}

module _ {K : Type 0} (order : K → K → Ordering) where
  pub length-augmented_from : (u : ℕ) (bs : KeyTree K) → length (augmented_from order u bs) ≡ length bs
  length-augmented_from u [] = refl
  length-augmented_from u (b ∷ bs) = ap suc (length-augmented_from (suc u) bs)

  -- list u + k comes of the lists behind it
  pub from_at : (u : ℕ) (bs : KeyTree K) (k : ℕ) → k < length bs
      → get_or (augmented_from order u bs) k [] ≡ augment order (get_or bs k (0, [])).1 (child_samples (u + k) (drop (suc k) bs) (drop (suc k) (augmented_from order u bs)))
  from_at u [] k h = absurd (omega arith)
  from_at u (b ∷ bs) zero h = ap (λ n. augment order b.1 (child_samples n bs (augmented_from order (suc u) bs))) (sym (add-zero u))
  from_at u (b ∷ bs) (suc k) h =
      from_at (suc u) bs k (omega arith)
      ∙ ap (λ n. augment order (get_or bs k (0, [])).1 (child_samples n (drop (suc k) bs) (drop (suc k) (augmented_from order (suc u) bs)))) (suc-add u k ∙ sym (add-suc u k))

  -- the samples by the children's numbers
  samples-numbered : (v u : ℕ) (p : ℕ → ℕ) (A : ℕ → List (Tagged K)) (bs : KeyTree K) (gs : List (List (Tagged K)))
      → length bs ≡ length gs → Numbered (0, []) (λ b. b.0) p u bs → Numbered [] (λ g. g) A u gs
      → child_samples v bs gs ≡ map (λ w. samples (keys_of (A w))) (filter (λ w. eqb (p w) v) (range_with_len u (length bs)))
  samples-numbered v u p A [] gs l h k = refl
  samples-numbered v u p A (b ∷ bs) [] l h k = absurd (omega arith)
  samples-numbered v u p A (b ∷ bs) (g ∷ gs) l h k =
      let ih = samples-numbered v (u + 1) p A bs gs (omega arith) (numbered-tail (0, []) (λ x. x.0) p u b bs h) (numbered-tail [] (λ x. x) A u g gs k) in
      let rest = filter (λ w. eqb (p w) v) (range_with_len (u + 1) (length bs)) in
      rw (← numbered-head (0, []) (λ x. x.0) p u b bs h)
      (let e = numbered-head [] (λ x. x) A u g gs k in grind (arith, ih, e))

-- the samples of the children of list v
abbrev pub samples_under : {K : Type 0} → (K → K → Ordering) → KeyTree K → ℕ → List (List K)
samples_under order t v = map (λ w. samples (keys_of (augmented order t w))) (children_of t v)

module _ {K : Type 0} (order : K → K → Ordering) (t : KeyTree K) (smaller : ParentsSmaller t) where
  children-behind : (v : ℕ) → v < length t → children_of t v ≡ filter (λ w. eqb (parent_of t w) v) (range_with_len (1 + v) (length t - suc v))
  children-behind v h =
      ap (λ n. filter (λ w. eqb (parent_of t w) v) (range_with_len 1 n)) (omega arith)
      ∙ kept-skip (λ w. eqb (parent_of t w) v) 1 v (length t - suc v)
      (λ w l m. let s = smaller w (omega arith) (omega arith) in ne_eqb (parent_of t w) v (omega arith))

  -- own keys, and the samples of the children, in order
  pub by-children : (v : ℕ) → v < length t → augmented order t v ≡ augment order (keys_at t v) (samples_under order t v)
  by-children v h =
      let gs = augmented_lists order t in
      let same : length (drop (suc v) t) ≡ length (drop (suc v) gs) = length-drop (suc v) t ∙ ap (λ n. n - suc v) (sym (length-augmented_from order 0 t)) ∙ sym (length-drop (suc v) gs) in
      from_at order 0 t v h
      ∙ ap (λ n. augment order (keys_at t v) (child_samples n (drop (suc v) t) (drop (suc v) gs))) (zero-add v)
      ∙ ap (augment order (keys_at t v))
      (samples-numbered order v (suc v) (parent_of t) (augmented order t) (drop (suc v) t) (drop (suc v) gs) same
      (λ k l. ap (λ b. b.0) (sym (get_or-drop (suc v) t k (0, []))))
      (λ k l. sym (get_or-drop (suc v) gs k []))
      ∙ ap (λ n. map (λ w. samples (keys_of (augmented order t w))) (filter (λ w. eqb (parent_of t w) v) (range_with_len (suc v) n))) (length-drop (suc v) t)
      ∙ ap (map (λ w. samples (keys_of (augmented order t w)))) (sym (children-behind v h ∙ ap (λ n. filter (λ w. eqb (parent_of t w) v) (range_with_len n (length t - suc v))) (omega arith))))

module _ {K : Type 0} (t : KeyTree K) where
  pub ordinal-count : (w : ℕ) → 0 < w → w < length t → ordinal t w ≡ count (λ u. eqb (parent_of t u) (parent_of t w)) (range_with_len 1 (w - 1))
  ordinal-count w z h =
      let l : length (drop 1 t) ≡ length t - 1 = length-drop 1 t in
      count-numbered (0, []) (λ b. b.0) (parent_of t) (λ p. eqb p (parent_of t w)) 1 (w - 1) (drop 1 t) (omega arith)
      (λ k m. ap (λ b. b.0) (sym (get_or-drop 1 t k (0, []))))

  -- a child is found under its ordinal
  pub child-at : (w : ℕ) → 0 < w → w < length t
      → (get_or (children_of t (parent_of t w)) (ordinal t w) 0 ≡ w) × (ordinal t w < length (children_of t (parent_of t w)))
  child-at w z h =
      let f : ℕ → Bool = λ u. eqb (parent_of t u) (parent_of t w) in
      let e : 1 + (w - 1) ≡ w = omega arith in
      let o = ordinal-count w z h in
      let r = kept_at f 1 (length t - 1) (w - 1) 0 (omega arith) (ap f e ∙ eq-eqb (parent_of t w) (parent_of t w) refl) in
      (ap (λ n. get_or (children_of t (parent_of t w)) n 0) o ∙ r.0 ∙ e, omega arith)

  -- and each ordinal below the number of children is a child's
  pub child-back : (v j : ℕ) → j < length (children_of t v) → (w : ℕ) × (0 < w) × (w < length t) × (parent_of t w ≡ v) × (ordinal t w ≡ j)
  child-back v j h =
      let r = kept_back (λ u. eqb (parent_of t u) v) 1 (length t - 1) j 0 h in
      let k = r.0 in
      let l = r.1 in
      let p : parent_of t (1 + k) ≡ v = eqb-true (parent_of t (1 + k)) v r.3 in
      let e : 1 + k - 1 ≡ k = omega arith in (
        1 + k,
        omega arith,
        omega arith,
        p,
        ordinal-count (1 + k) (omega arith) (omega arith)
            ∙ ap (λ n. count (λ u. eqb (parent_of t u) (parent_of t (1 + k))) (range_with_len 1 n)) e
            ∙ ap (λ x. count (λ u. eqb (parent_of t u) x) (range_with_len 1 k)) p
            ∙ r.4,
      )

-- so are its samples
pub samples-at : {K : Type 0} (order : K → K → Ordering) (t : KeyTree K) (w : ℕ) → 0 < w → w < length t
    → get_or (samples_under order t (parent_of t w)) (ordinal t w) [] ≡ samples (keys_of (augmented order t w))
samples-at order t w z h =
    let c = child-at t w z h in
    get_or-map (λ u. samples (keys_of (augmented order t u))) (children_of t (parent_of t w)) (ordinal t w) 0 [] c.1
    ∙ ap (λ u. samples (keys_of (augmented order t u))) c.0

length-tag_all : {K : Type 0} {W : Type 0} (f : W → List K) (j : ℕ) (ws : List W) → length (tag_all j (map f ws)) ≡ sum_by (λ w. length (f w)) ws
length-tag_all f j [] = refl
length-tag_all f j (w ∷ ws) =
    let ih = length-tag_all f (suc j) ws in
    let s = sum_by-cons (λ x. length (f x)) w ws in
    rw (length-append, length-map) (omega arith)

pub lengths : (K : Type 0) → Lengths K
lengths K order t smaller v h =
    let f : ℕ → List K = λ w. samples (keys_of (augmented order t w)) in
    let s = length-tag_all f 0 (children_of t v) in
    let q : sum_by (λ w. length (f w)) (children_of t v) ≡ sum_by (λ w. length (augmented order t w) / 4) (children_of t v) =
    ap (λ (g : ℕ → ℕ). sum_by g (children_of t v))
    (fun_ext (λ w. length-samples (keys_of (augmented order t w)) ∙ ap (λ n. n / 4) (length-map (augmented order t w) (λ x. x.1)))) in
    ap length (by-children order t smaller v h)
    ∙ length-sort (not_above order) (tag own_source (keys_at t v) ++ tag_all 0 (samples_under order t v))
    ∙ length-append (tag own_source (keys_at t v)) (tag_all 0 (samples_under order t v))
    ∙ rw length-map (omega arith)
