-- The part of a list that is from one source.
use Rattle.std.proofs.Common.{◌≡◌, ℕ, zero, suc, ◌+◌, ◌≤◌, Bool, ◌&&◌, eqb, List, [], ◌∷◌, ◌++◌, get_or, filter, Ordering, sym, refl, ap, ◌∙◌, add-zero, add-suc, suc-add, zero-add, arith}
use Rattle.std.proofs.lemmas.List.Elements.{filter-append}
use Rattle.std.proofs.lemmas.List.{map-append, append-nil}
use Rattle.std.proofs.lemmas.Bool.{eq-eqb, ne_eqb}
use Rattle.orders.specs.Laws.{LawfulOrder}
use Rattle.orders.specs.Places.{count}
use Rattle.cascade.specs.Lists.{sort, Sorted}
use Rattle.cascade.specs.Trees.{Tagged, own_source, child_source, keys_of, tag, tag_all, not_above}
use Rattle.cascade.specs.Theorems.{part_of}
use Rattle.cascade.proofs.Merging.{kept-sorted}
use Rattle.cascade.proofs.KeyOrders.{key_le, total, trans, sorted-from-keys}

module _ {K : Type 0} where
  pub count-part : (p : K → Bool) (source : ℕ) (xs : List (Tagged K)) → count (λ x. p x.1 && eqb x.0 source) xs ≡ count p (part_of source xs)
  count-part p source [] = refl
  count-part p source (x ∷ xs) =
      let ih = count-part p source xs in
      grind (arith, ih)

  pub part-append : (source : ℕ) (xs ys : List (Tagged K)) → part_of source (xs ++ ys) ≡ part_of source xs ++ part_of source ys
  part-append source xs ys =
      ap keys_of (filter-append (λ x. eqb x.0 source) xs ys)
      ∙ map-append (λ x. x.1) (filter (λ x. eqb x.0 source) xs) (filter (λ x. eqb x.0 source) ys)

  part_same : (source : ℕ) (ks : List K) → part_of source (tag source ks) ≡ ks
  part_same source [] = refl
  part_same source (k ∷ ks) = rw (eq-eqb source source refl) (ap (λ r. k ∷ r) (part_same source ks))

  part-other : (source s : ℕ) → (s ≡ source → ⊥) → (ks : List K) → part_of source (tag s ks) ≡ []
  part-other source s h [] = refl
  part-other source s h (k ∷ ks) = rw (ne_eqb s source h) (part-other source s h ks)

  part-early : (source j : ℕ) (ss : List (List K)) → source ≤ j → part_of source (tag_all j ss) ≡ []
  part-early source j [] h = refl
  part-early source j (s ∷ ss) h =
      part-append source (tag (child_source j) s) (tag_all (suc j) ss)
      ∙ ap (λ r. r ++ part_of source (tag_all (suc j) ss)) (part-other source (child_source j) (omega arith) s)
      ∙ part-early source (suc j) ss (omega arith)

  part_at : (j k : ℕ) (ss : List (List K)) → part_of (child_source (j + k)) (tag_all j ss) ≡ get_or ss k []
  part_at j k [] = refl
  part_at j zero (s ∷ ss) =
      rw add-zero
      (part-append (child_source j) (tag (child_source j) s) (tag_all (suc j) ss)
      ∙ ap (λ r. r ++ part_of (child_source j) (tag_all (suc j) ss)) (part_same (child_source j) s)
      ∙ ap (λ r. s ++ r) (part-early (child_source j) (suc j) ss (omega arith))
      ∙ append-nil s)
  part_at j (suc k) (s ∷ ss) =
      rw (add-suc, ← suc-add)
      (part-append (child_source (suc j + k)) (tag (child_source j) s) (tag_all (suc j) ss)
      ∙ ap (λ r. r ++ part_of (child_source (suc j + k)) (tag_all (suc j) ss)) (part-other (child_source (suc j + k)) (child_source j) (omega arith) s)
      ∙ part_at (suc j) k ss)

  -- of own keys and samples, before they are put in order
  pub part-own : (ks : List K) (ss : List (List K)) → part_of own_source (tag own_source ks ++ tag_all 0 ss) ≡ ks
  part-own ks ss =
      part-append own_source (tag own_source ks) (tag_all 0 ss)
      ∙ ap (λ r. r ++ part_of own_source (tag_all 0 ss)) (part_same own_source ks)
      ∙ ap (λ r. ks ++ r) (part-early own_source 0 ss (omega arith))
      ∙ append-nil ks

  pub part-child : (j : ℕ) (ks : List K) (ss : List (List K)) → part_of (child_source j) (tag own_source ks ++ tag_all 0 ss) ≡ get_or ss j []
  part-child j ks ss =
      part-append (child_source j) (tag own_source ks) (tag_all 0 ss)
      ∙ ap (λ r. r ++ part_of (child_source j) (tag_all 0 ss)) (part-other (child_source j) own_source (omega arith) ks)
      ∙ ap (λ n. part_of (child_source n) (tag_all 0 ss)) (sym (zero-add j))
      ∙ part_at 0 j ss

  -- a part that is in order stays as it is
  pub part-sort : (order : K → K → Ordering) → LawfulOrder order → (source : ℕ) (xs : List (Tagged K)) → Sorted (key_le order) (part_of source xs)
      → part_of source (sort (not_above order) xs) ≡ part_of source xs
  part-sort order laws source xs s =
      ap keys_of (kept-sorted (not_above order) (total order laws) (trans order laws) (λ x. eqb x.0 source) xs
      (sorted-from-keys order (filter (λ x. eqb x.0 source) xs) s))
