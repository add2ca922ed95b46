-- The path to a list: from the root on, each list the parent of the next.
use Rattle.std.proofs.Common.{◌≡◌, ℕ, zero, suc, ◌+◌, ◌-◌, ◌<◌, ◌≤◌, [], ◌∷◌, length, get_or, refl, ap, ◌∙◌, inl, inr, arith}
use Rattle.std.proofs.lemmas.List.{get_or_append_left, get_or_push, length_push}
use Rattle.std.proofs.lemmas.Bool.{cases_lt}
use Rattle.cascade.specs.Trees.{KeyTree, parent_of, ParentsSmaller, path}
use Rattle.cascade.proofs.Walking.{path-step}

-- two lists of a path that follow one another
pub record Linked {K : Type 0} (t : KeyTree K) (above list : ℕ) : Type 0 where
  pub below : 0 < list
  pub there : list < length t
  pub parent : parent_of t list ≡ above

module _ {K : Type 0} (t : KeyTree K) (smaller : ParentsSmaller t) where
  -- a path begins with the root and ends with its list
  pub record Ends (w : ℕ) : Type 0 where
    pub some : 0 < length (path t w)
    pub first : get_or (path t w) 0 0 ≡ 0
    pub last : get_or (path t w) (length (path t w) - 1) 0 ≡ w

  ends-within : (n w : ℕ) → w ≤ n → w < length t → Ends w
  ends-within n zero h l = record { some = omega arith; first = refl; last = refl }
  ends-within zero (suc w) h l = absurd (omega arith)
  ends-within (suc n) (suc w) h l =
      let s = smaller (suc w) (omega arith) l in
      let above = path t (parent_of t (suc w)) in
      let ih = ends-within n (parent_of t (suc w)) (omega arith) (omega arith) in
      let e = path-step t smaller (suc w) (omega arith) l in
      let some : 0 < length above = ih.some in
      let long : length (path t (suc w)) ≡ length above + 1 = ap length e ∙ length_push above (suc w) in
      let at : length (path t (suc w)) - 1 ≡ length above = omega arith in
      record {
        some = omega arith;
        first = ap (λ p. get_or p 0 0) e ∙ get_or_append_left above (suc w ∷ []) 0 0 some ∙ ih.first;
        last = ap (λ k. get_or (path t (suc w)) k 0) at ∙ ap (λ p. get_or p (length above) 0) e ∙ get_or_push above (suc w) 0 (length above) refl;
      }

  pub path-ends : (w : ℕ) → w < length t → Ends w
  path-ends w l = ends-within w w (omega arith) l

  linked-within : (n w : ℕ) → w ≤ n → w < length t → (i : ℕ) → i + 1 < length (path t w) → Linked t (get_or (path t w) i 0) (get_or (path t w) (i + 1) 0)
  linked-within n zero h l i k = absurd (omega arith)
  linked-within zero (suc w) h l i k = absurd (omega arith)
  linked-within (suc n) (suc w) h l i k =
      let s = smaller (suc w) (omega arith) l in
      let up = parent_of t (suc w) in
      let above = path t up in
      let e = path-step t smaller (suc w) (omega arith) l in
      let long : length (path t (suc w)) ≡ length above + 1 = ap length e ∙ length_push above (suc w) in
      let here : i < length above = omega arith in
      let first : get_or (path t (suc w)) i 0 ≡ get_or above i 0 = ap (λ p. get_or p i 0) e ∙ get_or_append_left above (suc w ∷ []) 0 i here in
      elim (cases_lt (i + 1) (length above)) [
        | inl b ↦
            let ih = linked-within n up (omega arith) (omega arith) i b in
            let next : get_or (path t (suc w)) (i + 1) 0 ≡ get_or above (i + 1) 0 = ap (λ p. get_or p (i + 1) 0) e ∙ get_or_append_left above (suc w ∷ []) 0 (i + 1) b in
            rw (first, next) ih
        | inr b ↦
            let at : length above ≡ i + 1 = omega arith in
            let pos : i ≡ length above - 1 = omega arith in
            let next : get_or (path t (suc w)) (i + 1) 0 ≡ suc w = ap (λ p. get_or p (i + 1) 0) e ∙ get_or_push above (suc w) 0 (i + 1) at in
            let up_is : get_or above i 0 ≡ up = ap (λ k. get_or above k 0) pos ∙ (path-ends up (omega arith)).last in
            rw (first, next, up_is) (record { below = omega arith; there = l; parent = refl })
      ]

  pub path-linked : (w : ℕ) → w < length t → (i : ℕ) → i + 1 < length (path t w) → Linked t (get_or (path t w) i 0) (get_or (path t w) (i + 1) 0)
  path-linked w l = linked-within w w (omega arith) l
