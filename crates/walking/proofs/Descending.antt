-- A walk down the lists of a path: from each arrival to the next.
use Rattle.std.proofs.Common.{◌≡◌, ℕ, zero, suc, ◌+◌, ◌-◌, ◌<◌, ◌≤◌, List, length, get_or, set, replicate, Ordering, sym, ap, ◌∙◌, subst, arith}
use Rattle.orders.specs.Laws.{LawfulOrder}
use Rattle.orders.specs.declared.side.Side.{Side}
use Rattle.cascade.specs.Rows.{tally}
use Rattle.cascade.specs.Trees.{KeyTree, own_source, parent_of, path, augmented}
use Rattle.cascade.specs.Walks.{arrival}
use Rattle.register.specs.Answers.{stop}
use Rattle.register.specs.Shape.{Shaped}
use Rattle.register.specs.declared.answers.Lookup.{Lookup}
use Rattle.register.specs.declared.answers.Stop.{Stop}
use Rattle.walking.specs.Walked.{looked_up}
use Rattle.walking.specs.Reached.{arrived, end_of, IsPath}
use Rattle.walking.specs.declared.search.Arrival.{Arrival}
use Rattle.walking.proofs.Lying.{root-small}
use Rattle.walking.proofs.Gathering.{Gathered, gathered_none, gathered-more, arrival-within, arrival-few}
use Rattle.walking.proofs.Paths.{Linked, path-ends, path-linked}

-- the walk has come to the list before list i of the path, and gathered what is so far
pub record Descended {K : Type 0} (order : K → K → Ordering) (t : KeyTree K) (side : Side) (q : K) (lists : List ℕ) (i at n : ℕ) (stops : List Stop) : Type 0 where
  pub here : 0 < i → at ≡ (arrival order t side q (get_or lists (i - 1) 0)).0
  pub gathered : Gathered order t side q lists i n stops

pub descended_none : {K : Type 0} (order : K → K → Ordering) (t : KeyTree K) (side : Side) (q : K) (lists : List ℕ) → Descended order t side q lists 0 0 0 (replicate 9 (stop 0 0))
descended_none order t side q lists = record { here = λ z. absurd (omega arith); gathered = gathered_none order t side q lists }

module _ {K : Type 0} {order : K → K → Ordering} {t : KeyTree K} {lists : List ℕ} (laws : LawfulOrder order) (shaped : Shaped t) (way : IsPath t lists) (side : Side) (q : K) where
  pub lists-few : length lists ≤ 9
  lists-few = omega (arith, ap length way.is, shaped.shallow (end_of lists) way.there)

  first : get_or lists 0 0 ≡ 0
  first = ap (λ p. get_or p 0 0) way.is ∙ (path-ends t shaped.smaller (end_of lists) way.there).first

  linked : (i : ℕ) → suc i < length lists → Linked t (get_or lists i 0) (get_or lists (suc i) 0)
  linked i l =
      let e : i + 1 ≡ suc i = omega arith in
      let h : i + 1 < length (path t (end_of lists)) = omega (arith, ap length way.is) in
      subst (λ k. Linked t (get_or lists i 0) (get_or lists k 0)) e
      (subst (λ p. Linked t (get_or p i 0) (get_or p (i + 1) 0)) (sym way.is) (path-linked t shaped.smaller (end_of lists) way.there i h))

  pub list-there : (i : ℕ) → i < length lists → get_or lists i 0 < length t
  list-there zero l = let h = way.there in subst (λ v. v < length t) (sym first) (omega arith)
  list-there (suc i) l = (linked i l).there

  -- the arrival before is that in the list's parent
  pub from-parent : (i at n : ℕ) (stops : List Stop) → i < length lists → Descended order t side q lists i at n stops → 0 < get_or lists i 0
      → at ≡ (arrival order t side q (parent_of t (get_or lists i 0))).0
  from-parent zero at n stops l was below = absurd (let e = first in omega arith)
  from-parent (suc i) at n stops l was below =
      let e : suc i - 1 ≡ i = omega arith in
      was.here (omega arith) ∙ ap (λ k. (arrival order t side q (get_or lists k 0)).0) e ∙ ap (λ v. (arrival order t side q v).0) (sym (linked i l).parent)

  module _ (i : ℕ) (l : i < length lists) (r : Arrival) (e : r ≡ arrived (arrival order t side q (get_or lists i 0))) where
    pub place-within : r.place ≤ length (augmented order t (get_or lists i 0))
    place-within = subst (λ x. x.place ≤ length (augmented order t (get_or lists i 0))) (sym e) (arrival-within order laws t shaped.smaller side q (get_or lists i 0) (list-there i l))

    few : r.comparisons ≤ 16
    few = let h = way.there in subst (λ x. x.comparisons ≤ 16) (sym e) (arrival-few order laws t side q (root-small order t shaped (omega arith)) (get_or lists i 0))

    module _ (at n : ℕ) (stops : List Stop) (was : Descended order t side q lists i at n stops) where
      pub comparisons-few : n + r.comparisons ≤ 1000
      comparisons-few = omega (arith, was.gathered.few, few, lists-few)

      pub descended-more : (place : ℕ) → place ≡ tally own_source r.place (augmented order t (get_or lists i 0))
          → Descended order t side q lists (i + 1) r.place (n + r.comparisons) (set stops i (stop (get_or lists i 0) place))
      descended-more place p =
          let v : i ≡ i + 1 - 1 = omega arith in
          let f = lists-few in
          record {
            here = λ z. ap (λ x. x.place) e ∙ ap (λ k. (arrival order t side q (get_or lists k 0)).0) v;
            gathered = gathered-more order t side q lists i n r.comparisons place stops l (omega arith) was.gathered (ap (λ x. x.comparisons) e) few
                (p ∙ ap (λ x. tally own_source x.place (augmented order t (get_or lists i 0))) e);
          }

-- lists that are a path, and where they end
module _ {K : Type 0} {t : KeyTree K} (shaped : Shaped t) (end : ℕ) (there : end < length t) (lists : List ℕ) (is : lists ≡ path t end) where
  end-is : end_of lists ≡ end
  end-is = ap end_of is ∙ (path-ends t shaped.smaller end there).last

  pub is-path : IsPath t lists
  is-path = record { there = subst (λ v. v < length t) (sym end-is) there; is = is ∙ ap (path t) (sym end-is) }

  -- a lookup along them is a lookup at their end
  pub walked-is : (order : K → K → Ordering) (side : Side) (q : K) (l : Lookup) → l ≡ looked_up order t (end_of lists) side q → l ≡ looked_up order t end side q
  walked-is order side q l e = e ∙ ap (λ v. looked_up order t v side q) end-is
