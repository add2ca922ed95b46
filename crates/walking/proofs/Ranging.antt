-- The spans of a range.
use Rattle.std.proofs.Common.{◌≡◌, ℕ, ◌<◌, ◌≤◌, true, List, length, get_or, take, Ordering, sym, ap, ◌∙◌, subst, ap₂, arith, lit≤}
use Rattle.std.specs.Ordering.{is_le}
use Rattle.std.proofs.lemmas.List.{get_or-map, length-take}
use Rattle.orders.specs.Laws.{LawfulOrder}
use Rattle.shelves.specs.Slots.{slot_count}
use Rattle.cascade.specs.SlotTree.{SieveShaped, chosen_lists}
use Rattle.cascade.specs.Trees.{KeyTree, ParentsSmaller}
use Rattle.cascade.proofs.Ranging.{few-chosen}
use Rattle.register.specs.Answers.{filled_up}
use Rattle.register.specs.declared.answers.Range.{Range}
use Rattle.register.specs.declared.answers.Span.{Span}
use Rattle.walking.specs.Ranged.{ranged_spans}
use Rattle.walking.specs.Reached.{SpanOf, no_span}
use Rattle.walking.specs.Surveyed.{PlacesOf, spans_at}
use Rattle.walking.proofs.Choosing.{span_at, chosen-there, ranged-is, ranged-used, spans-are}
use Rattle.walking.proofs.Filling.{filled-taken}
use Rattle.walking.proofs.Spanning.{span_of}

pub taken-few : {X : Type 0} (used : ℕ) (filled : List X) → used ≤ 10 → length (take used filled) ≤ 127
taken-few used filled h = omega (arith, length-take used filled)

module _ {K : Type 0} (order : K → K → Ordering) (t : KeyTree K) (a b : ℕ) (low high : K) where
  -- the rows of the chosen lists, from a table with the places of the visited ones
  pub rows-are : (places : List (ℕ × ℕ)) → PlacesOf order t a b low high places → (r : List Span × ℕ)
      → r.0 ≡ filled_up 10 no_span (spans_at order t a b places) → r.1 ≡ length (chosen_lists a b)
      → ◌≡◌ {A = List Span × ℕ} r (filled_up 10 no_span (ranged_spans order t a b low high), length (ranged_spans order t a b low high))
  rows-are places are r s u =
      ap₂ (λ (ss : List Span) (n : ℕ). (ss, n)) (s ∙ ap (filled_up 10 no_span) (spans-are order t low high a b places are)) (u ∙ sym (ranged-used order t low high a b))

  module _ (spans : List Span) (used : ℕ) (is : ◌≡◌ {A = List Span × ℕ} (spans, used) (filled_up 10 no_span (ranged_spans order t a b low high), length (ranged_spans order t a b low high))) where
    pub ranged-taken : take used spans ≡ ranged_spans order t a b low high
    ranged-taken = filled-taken 10 used no_span (ranged_spans order t a b low high) spans (ap (λ r. r.0) is) (ap (λ r. r.1) is)

    pub ranged-few : a ≤ b → b < slot_count → used ≤ 10
    ranged-few up top = subst (λ n. n ≤ 10) (sym (ap (λ r. r.1) is ∙ ranged-used order t low high a b)) (few-chosen 10 (lit≤ tt) a b up top)

  module _ (sieve : SieveShaped t) where
    list-there : (i : ℕ) → i < length (chosen_lists a b) → get_or (chosen_lists a b) i 0 < length t
    list-there i l = subst (λ n. get_or (chosen_lists a b) i 0 < n) (sym sieve.lists) (chosen-there a b i l)

    pub each-ranged : LawfulOrder order → ParentsSmaller t → is_le (order low high) ≡ true → (i : ℕ) → i < length (ranged_spans order t a b low high) → SpanOf t (get_or (ranged_spans order t a b low high) i no_span)
    each-ranged laws smaller upward i l =
        let h : i < length (chosen_lists a b) = subst (λ n. i < n) (ranged-used order t low high a b) l in
        subst (SpanOf t) (sym (ap (λ xs. get_or xs i no_span) (ranged-is order t low high a b) ∙ get_or-map (span_at order t low high) (chosen_lists a b) i 0 no_span h))
        (span_of order laws low high upward t smaller (get_or (chosen_lists a b) i 0) (list-there i h))

pub range_same : {P : Type 0} {spans spans' : List Span × ℕ} {sum sum' : ℕ × P} {comparisons comparisons' : ℕ}
    → spans ≡ spans' → sum ≡ sum' → comparisons ≡ comparisons'
    → ◌≡◌ {A = Range P} (record { spans = spans.0; used = spans.1; entries = sum.0; payload = sum.1; comparisons = comparisons })
    (record { spans = spans'.0; used = spans'.1; entries = sum'.0; payload = sum'.1; comparisons = comparisons' })
range_same {spans' = spans'} {sum = sum} {sum' = sum'} {comparisons = comparisons} s e c =
    ap (λ x. record { spans = x.0; used = x.1; entries = sum.0; payload = sum.1; comparisons = comparisons }) s
    ∙ ap (λ x. record { spans = spans'.0; used = spans'.1; entries = x.0; payload = x.1; comparisons = comparisons }) e
    ∙ ap (λ x. record { spans = spans'.0; used = spans'.1; entries = sum'.0; payload = sum'.1; comparisons = x }) c
