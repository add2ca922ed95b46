-- The spans of the chosen lists, in rising number.
use Rattle.std.proofs.Common.{◌≡◌, ℕ, ◌+◌, ◌<◌, ◌≤◌, true, false, List, map, length, get_or, set, filter, Ordering, sym, ap, ◌∙◌, subst, arith, lit≤}
use mathlib.Core.List.{map-map}
use Rattle.std.specs.List.{range_with_len}
use Rattle.std.proofs.ByRecursion.{All-get_or, all_kept_by}
use Rattle.std.proofs.lemmas.List.{length-map, length_push, map_push}
use Rattle.orders.specs.Laws.{LawfulOrder}
use Rattle.orders.specs.declared.side.Side.TheVariants.{Low, High}
use Rattle.shelves.specs.Slots.{sieve_lists, slot_count}
use Rattle.cascade.specs.SlotTree.{SieveShaped, chosen, chosen_lists}
use Rattle.cascade.specs.Rows.{tally}
use Rattle.cascade.specs.Trees.{KeyTree, own_source, ParentsSmaller, augmented}
use Rattle.cascade.specs.Walks.{walked_place}
use Rattle.cascade.proofs.Numbering.{all_among}
use Rattle.cascade.proofs.Ranging.{few-chosen}
use Rattle.register.specs.Answers.{span, filled_up}
use Rattle.register.specs.declared.answers.Span.{Span}
use Rattle.walking.specs.Ranged.{ranged_spans}
use Rattle.walking.specs.Reached.{no_span}
use Rattle.walking.specs.Surveyed.{PlacesOf, PlacesWithin, placed_span, spans_at}
use Rattle.walking.proofs.Filling.{filled_more}
use Rattle.walking.proofs.Surveying.{sides-within}
use Rattle.walking.proofs.Visiting.{visited-chosen}
use Rattle.walking.proofs.Keeping.{kept-yes, kept-no, kept-few, map-kept}

one_of : (used m n : ℕ) → used + 1 ≡ m → m ≤ n → n ≤ 10 → used < 10
one_of used m n e h k = omega arith

each_below : (v : ℕ) → 0 ≤ v → v < 0 + sieve_lists → v < sieve_lists
each_below v z h = omega arith

next-within : (v : ℕ) → v < sieve_lists → v + 1 ≤ sieve_lists
next-within v h = omega arith

module _ (a b : ℕ) where
  -- the chosen lists before v
  abbrev pub chosen_before : ℕ → List ℕ
  chosen_before v = filter (chosen a b) (range_with_len 0 v)

  pub count_yes : (v used : ℕ) → chosen a b v ≡ true → used ≡ length (chosen_before v) → used + 1 ≡ length (chosen_before (v + 1))
  count_yes v used e u = ap (λ n. n + 1) u ∙ sym (ap length (kept-yes (chosen a b) v e) ∙ length_push (chosen_before v) v)

  pub count_no : (v used : ℕ) → chosen a b v ≡ false → used ≡ length (chosen_before v) → used ≡ length (chosen_before (v + 1))
  count_no v used e u = u ∙ ap length (sym (kept-no (chosen a b) v e))

  pub chosen-room : (v used : ℕ) → a ≤ b → b < slot_count → v < sieve_lists → chosen a b v ≡ true → used ≡ length (chosen_before v) → used < 10
  chosen-room v used up top l e u =
      one_of used (length (chosen_before (v + 1))) (length (chosen_lists a b)) (count_yes v used e u) (kept-few (chosen a b) (v + 1) sieve_lists (next-within v l)) (few-chosen 10 (lit≤ tt) a b up top)

  pub chosen-there : (i : ℕ) → i < length (chosen_lists a b) → get_or (chosen_lists a b) i 0 < sieve_lists
  chosen-there i l =
      All-get_or (λ v. v < sieve_lists) (chosen_lists a b) i 0 l
      (all_kept_by (chosen a b) (λ v. v < sieve_lists) (range_with_len 0 sieve_lists) (all_among (λ v. v < sieve_lists) 0 sieve_lists each_below))

  module _ (f : ℕ → Span) where
    pub spans-yes : (v used : ℕ) (spans : List Span) → chosen a b v ≡ true → used ≡ length (chosen_before v) → used < 10 → spans ≡ filled_up 10 no_span (map f (chosen_before v))
        → set spans used (f v) ≡ filled_up 10 no_span (map f (chosen_before (v + 1)))
    spans-yes v used spans e u room s =
        ap (λ xs. set xs used (f v)) s
        ∙ filled_more 10 used no_span (f v) (map f (chosen_before v)) (length-map (chosen_before v) f ∙ sym u) room
        ∙ ap (filled_up 10 no_span) (sym (ap (map f) (kept-yes (chosen a b) v e) ∙ map_push f (chosen_before v) v))

    pub spans-no : (v : ℕ) (spans : List Span) → chosen a b v ≡ false → spans ≡ filled_up 10 no_span (map f (chosen_before v))
        → spans ≡ filled_up 10 no_span (map f (chosen_before (v + 1)))
    spans-no v spans e s = s ∙ ap (λ vs. filled_up 10 no_span (map f vs)) (sym (kept-no (chosen a b) v e))

module _ {K : Type 0} (order : K → K → Ordering) (t : KeyTree K) (low high : K) where
  abbrev pub span_at : ℕ → Span
  span_at v = span v (walked_place order t Low low v) (walked_place order t High high v)

  pub ranged-is : (a b : ℕ) → ranged_spans order t a b low high ≡ map span_at (chosen_lists a b)
  ranged-is a b =
      map-map (λ (s : ℕ × ℕ × ℕ). span s.0 s.1 s.2) (λ v. (v, walked_place order t Low low v, walked_place order t High high v)) (chosen_lists a b)

  pub ranged-used : (a b : ℕ) → length (ranged_spans order t a b low high) ≡ length (chosen_lists a b)
  ranged-used a b = ap length (ranged-is a b) ∙ length-map (chosen_lists a b) span_at

-- a table with the places of the visited lists
module _ {K : Type 0} (order : K → K → Ordering) (t : KeyTree K) (low high : K) (a b : ℕ) (places : List (ℕ × ℕ)) (are : PlacesOf order t a b low high places) where
  pub spans-are : spans_at order t a b places ≡ ranged_spans order t a b low high
  spans-are =
      map-kept (chosen a b) (placed_span order t places) (span_at order t low high) 0 sieve_lists
      (λ v z h e.
      let l : v < sieve_lists = omega arith in
      ap (λ (p : ℕ × ℕ). span v (tally own_source p.0 (augmented order t v)) (tally own_source p.1 (augmented order t v))) (are v l (visited-chosen a b v l e)))
      ∙ sym (ranged-is order t low high a b)

  pub places-within : LawfulOrder order → ParentsSmaller t → SieveShaped t → PlacesWithin order t a b places
  places-within laws smaller sieve = λ v l e.
      sides-within order t low high laws smaller v (subst (λ n. v < n) (sym sieve.lists) l) (get_or places v (0, 0)) (are v l (visited-chosen a b v l e))
