-- The spans of an offer: what lies between a low and a high lookup.
use Rattle.std.proofs.Common.{◌≡◌, ℕ, zero, suc, ◌+◌, ◌<◌, ◌≤◌, List, map, length, get_or, take, Ordering, sym, ap, ◌∙◌, subst, ap₂, inl, inr, arith}
use mathlib.Core.List.{map-map}
use Rattle.std.specs.List.{range_with_len}
use Rattle.std.proofs.lemmas.List.FromFn.{length-map-range_with_len, get_or-map-range_with_len}
use Rattle.std.proofs.lemmas.List.{length-map, get_or-map, get_or_past, ext_get_or}
use Rattle.std.proofs.lemmas.Bool.{cases_lt}
use Rattle.orders.specs.Laws.{LawfulOrder}
use Rattle.orders.specs.declared.side.Side.{Side}
use Rattle.orders.specs.declared.side.Side.TheVariants.{Low, High}
use Rattle.cascade.specs.Trees.{KeyTree, path, augmented}
use Rattle.cascade.specs.Walks as walks
use Rattle.cascade.specs.Walks.{walked_place}
use Rattle.cascade.proofs.Searching.{bit_length-least}
use Rattle.cascade.proofs.Walking.{lookup-within}
use Rattle.register.specs.Answers.{stop, span, filled_up}
use Rattle.register.specs.Shape.{Shaped}
use Rattle.register.specs.declared.answers.Lookup.{Lookup}
use Rattle.register.specs.declared.answers.Offer.{Offer}
use Rattle.register.specs.declared.answers.Span.{Span}
use Rattle.register.specs.declared.answers.Stop.{Stop}
use Rattle.walking.specs.Walked.{looked_up, offered_spans}
use Rattle.walking.specs.Reached.{SpanOf, no_span}
use Rattle.walking.specs.Between.{span_at, spans_between}
use Rattle.walking.proofs.Filling.{filled-taken, filled-at, length-filled}
use Rattle.walking.proofs.Spanning.{not-above, span_of}
use Rattle.walking.proofs.Paths.{path-ends, path-linked}

-- the stops of a list of lists
module _ (f : ℕ → ℕ) (lists : List ℕ) where
  abbrev stops_of : List Stop
  stops_of = filled_up 9 (stop 0 0) (map (λ (s : ℕ × ℕ). stop s.0 s.1) (map (λ v. (v, f v)) lists))

  made : map (λ (s : ℕ × ℕ). stop s.0 s.1) (map (λ v. (v, f v)) lists) ≡ map (λ v. stop v (f v)) lists
  made = map-map (λ (s : ℕ × ℕ). stop s.0 s.1) (λ v. (v, f v)) lists

  row-at : (k : ℕ) → k < 9 → get_or stops_of k (stop 0 0) ≡ get_or (map (λ v. stop v (f v)) lists) k (stop 0 0)
  row-at k h = filled-at 9 (stop 0 0) _ k h ∙ ap (λ xs. get_or xs k (stop 0 0)) made

  stop-at : (k : ℕ) → k < 9 → k < length lists → get_or stops_of k (stop 0 0) ≡ stop (get_or lists k 0) (f (get_or lists k 0))
  stop-at k h l = row-at k h ∙ get_or-map (λ v. stop v (f v)) lists k 0 (stop 0 0) l

  no_stop : (k : ℕ) → k < 9 → length lists ≤ k → get_or stops_of k (stop 0 0) ≡ stop 0 0
  no_stop k h l = row-at k h ∙ get_or_past (map (λ v. stop v (f v)) lists) k (stop 0 0) (rw (length-map lists (λ v. stop v (f v))) l)

between_is : (f g : ℕ → ℕ) (lists : List ℕ) → length lists ≤ 9 → spans_between (stops_of f lists) (stops_of g lists) ≡ filled_up 9 no_span (map (λ v. span v (f v) (g v)) lists)
between_is f g lists few =
    let at = span_at (stops_of f lists) (stops_of g lists) in
    let spans = map (λ v. span v (f v) (g v)) lists in
    let n : length spans ≡ length lists = length-map lists (λ v. span v (f v) (g v)) in
    ext_get_or no_span (map at (range_with_len 0 9)) (filled_up 9 no_span spans) (length-map-range_with_len at 0 9 ∙ sym (length-filled 9 no_span spans (omega arith)))
    (λ k l.
    let h : k < 9 = omega arith in
    get_or-map-range_with_len at 0 9 k k no_span h (omega arith)
    ∙ (elim (cases_lt k (length lists)) [
      | inl i ↦ ap₂ (λ a b. span a.list a.place b.place) (stop-at f lists k h i) (stop-at g lists k h i) ∙ sym (get_or-map (λ v. span v (f v) (g v)) lists k 0 no_span i)
      | inr i ↦ ap₂ (λ a b. span a.list a.place b.place) (no_stop f lists k h i) (no_stop g lists k h i) ∙ sym (get_or_past spans k no_span (omega arith))
    ])
    ∙ sym (filled-at 9 no_span spans k h))

module _ {K : Type 0} (order : K → K → Ordering) (laws : LawfulOrder order) (t : KeyTree K) (shaped : Shaped t) (q : K) where
  module _ (end : ℕ) (there : end < length t) where
    pub used-few : length (path t end) ≤ 9
    used-few = omega (arith, shaped.shallow end there)

    list-there : (k : ℕ) → k < length (path t end) → get_or (path t end) k 0 < length t
    list-there zero l = rw (path-ends t shaped.smaller end there).first (omega arith)
    list-there (suc k) l =
        let e : k + 1 ≡ suc k = omega arith in
        subst (λ i. get_or (path t end) i 0 < length t) e (path-linked t shaped.smaller end there k (omega arith)).there

    pub offered-used : length (offered_spans order t end q) ≡ length (path t end)
    offered-used = length-map (path t end) (λ v. span v (walked_place order t Low q v) (walked_place order t High q v))

    pub each-offered : (i : ℕ) → i < length (offered_spans order t end q) → SpanOf t (get_or (offered_spans order t end q) i no_span)
    each-offered i l =
        let h : i < length (path t end) = omega (arith, offered-used) in
        subst (SpanOf t) (sym (get_or-map (λ v. span v (walked_place order t Low q v) (walked_place order t High q v)) (path t end) i 0 no_span h))
        (span_of order laws q q (not-above order laws q) t shaped.smaller (get_or (path t end) i 0) (list-there i h))

    pub comparisons-few : (side : Side) → length (augmented order t 0) ≤ 53333 → walks.comparisons order t side q end ≤ 40
    comparisons-few side small =
        let d = shaped.shallow end there in
        let w = (lookup-within K order laws t shaped.smaller end there side q).1 in
        omega (arith, bit_length-least (length (augmented order t 0)) 16 (omega arith))

    module _ (low high : Lookup) (l : low ≡ looked_up order t end Low q) (h : high ≡ looked_up order t end High q) where
      pub spans-are : spans_between low.stops high.stops ≡ filled_up 9 no_span (offered_spans order t end q)
      spans-are =
          ap₂ (λ a b. spans_between a.stops b.stops) l h
          ∙ between_is (walked_place order t Low q) (walked_place order t High q) (path t end) used-few

      pub spans-taken : (spans : List Span) → spans ≡ spans_between low.stops high.stops → take low.used spans ≡ offered_spans order t end q
      spans-taken spans e = filled-taken 9 low.used no_span (offered_spans order t end q) spans (e ∙ spans-are) (ap (λ r. r.used) l ∙ sym offered-used)

pub offer-same : {P : Type 0} {spans spans' : List Span} {used used' : ℕ} {sum sum' : ℕ × P} {comparisons comparisons' : ℕ}
    → spans ≡ spans' → used ≡ used' → sum ≡ sum' → comparisons ≡ comparisons'
    → ◌≡◌ {A = Offer P} (record { spans = spans; used = used; entries = sum.0; payload = sum.1; comparisons = comparisons })
    (record { spans = spans'; used = used'; entries = sum'.0; payload = sum'.1; comparisons = comparisons' })
offer-same {spans' = spans'} {used = used} {used' = used'} {sum = sum} {sum' = sum'} {comparisons = comparisons} s u e c =
    ap (λ x. record { spans = x; used = used; entries = sum.0; payload = sum.1; comparisons = comparisons }) s
    ∙ ap (λ x. record { spans = spans'; used = x; entries = sum.0; payload = sum.1; comparisons = comparisons }) u
    ∙ ap (λ x. record { spans = spans'; used = used'; entries = x.0; payload = x.1; comparisons = comparisons }) e
    ∙ ap (λ x. record { spans = spans'; used = used'; entries = sum'.0; payload = sum'.1; comparisons = x }) c
