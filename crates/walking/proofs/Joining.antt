-- The payloads of spans, one span after the other.
use Rattle.std.proofs.Common.{◌≡◌, ℕ, suc, ◌+◌, ◌-◌, ◌*◌, ◌<◌, ◌≤◌, List, [], ◌∷◌, ◌++◌, map, length, get_or, take, drop, fold, sym, refl, ap, ◌∙◌, ap₂, arith}
use Rattle.std.proofs.lemmas.List.{append-nil, append_assoc, length-append, length-take-le, length-drop, map_more, take_all}
use Rattle.std.proofs.lemmas.List.Sums.{sum_by_more, sum_by-take-le}
use Rattle.orders.specs.declared.KeyOrder.{Ghosts}
use Rattle.cascade.specs.Trees.{KeyTree, all_keys}
use Rattle.register.specs.Memory.{joined_lists}
use Rattle.register.specs.declared.answers.Span.{Span}
use Rattle.plan.specs.declared.table.ListRun.{ListRun}
use Rattle.walking.specs.Walked.{span_payloads, spans_payloads}
use Rattle.walking.specs.Reached.{SpanOf, Spanned, no_span}
use Rattle.walking.specs.declared.walk.Cascade.{Cascade}
use Rattle.walking.proofs.Lying.{no_run, first-is}

folded-append : {A B : Type 0} (f : B → A → B) (a : B) (xs ys : List A) → fold f a (xs ++ ys) ≡ fold f (fold f a xs) ys
folded-append f a [] ys = refl
folded-append f a (x ∷ xs) ys = folded-append f (f a x) xs ys

joined-push : {X : Type 0} (xss : List (List X)) (ys : List X) → joined_lists (xss ++ (ys ∷ [])) ≡ joined_lists xss ++ ys
joined-push [] ys = append-nil ys
joined-push (xs ∷ xss) ys = ap (λ zs. xs ++ zs) (joined-push xss ys) ∙ sym (append_assoc xs (joined_lists xss) ys)

-- where the payloads of a span begin and end
abbrev pub from_of : List ListRun → Span → ℕ
from_of runs s = (get_or runs s.list no_run).first + s.first

abbrev pub to_of : List ListRun → Span → ℕ
to_of runs s = (get_or runs s.list no_run).first + s.after

module _ {P : Type 0} (runs : List ListRun) (payloads : List P) where
  abbrev part_of : Span → List P
  part_of s = take (to_of runs s - from_of runs s) (drop (from_of runs s) payloads)

  abbrev between : ℕ → List Span → List P
  between i spans = joined_lists (map part_of (take i spans))

  between_more : (i : ℕ) (spans : List Span) → i < length spans → between (i + 1) spans ≡ between i spans ++ part_of (get_or spans i no_span)
  between_more i spans l = ap joined_lists (map_more part_of spans i no_span l) ∙ joined-push (map part_of (take i spans)) (part_of (get_or spans i no_span))

module _ {P : Type 0} (neutral : P) (joined : P → P → P) (runs : List ListRun) (payloads : List P) (spans : List Span) where
  -- what the first i spans hold
  pub record Joined (i entries : ℕ) (payload : P) : Type 0 where
    pub count : entries ≡ length (between runs payloads i spans)
    pub few : entries ≤ 40000 * i
    pub all : payload ≡ fold joined neutral (between runs payloads i spans)

  pub joined-none : (payload : P) → payload ≡ neutral → Joined 0 0 payload
  joined-none payload e = record { count = refl; few = omega arith; all = e }

  pub joined-more : (i entries : ℕ) (payload more : P) → i < length spans → Joined i entries payload
      → to_of runs (get_or spans i no_span) ≤ length payloads → to_of runs (get_or spans i no_span) ≤ 40000
      → more ≡ fold joined payload (part_of runs payloads (get_or spans i no_span))
      → Joined (i + 1) (entries + (to_of runs (get_or spans i no_span) - from_of runs (get_or spans i no_span))) more
  joined-more i entries payload more l was h k e =
      let s = get_or spans i no_span in
      let n : length (part_of runs payloads s) ≡ to_of runs s - from_of runs s =
      length-take-le (to_of runs s - from_of runs s) (drop (from_of runs s) payloads) (omega (arith, length-drop (from_of runs s) payloads)) in
      let b = between_more runs payloads i spans l in
      let f = was.few in
      record {
        count = ap₂ (λ a c. a + c) was.count (sym n) ∙ sym (ap length b ∙ length-append (between runs payloads i spans) (part_of runs payloads s));
        few = omega arith;
        all = e ∙ ap (λ p. fold joined p (part_of runs payloads s)) was.all
            ∙ sym (ap (fold joined neutral) b ∙ folded-append joined neutral (between runs payloads i spans) (part_of runs payloads s));
      }

module _ {K P : Type 0} {g : Ghosts K} (c : Cascade K P g) where
  abbrev t : KeyTree K
  t = c.tree.now

  abbrev runs : List ListRun
  runs = c.table.now.runs

  pub record Held (s : Span) : Type 0 where
    pub forward : from_of runs s ≤ to_of runs s
    pub within : to_of runs s ≤ length c.payloads.now
    pub small : to_of runs s ≤ 40000

  pub span-held : all_keys t ≤ length c.payloads.now → (s : Span) → SpanOf t s → Held s
  span-held h s o =
      let f = o.forward in
      let w = o.within in
      let n = c.laid.shaped.entries in
      let first = first-is c s.list o.there in
      let more = sum_by_more (λ b. length b.1) t s.list (0, []) o.there in
      let all = sum_by-take-le (λ b. length b.1) t (s.list + 1) in
      record { forward = omega arith; within = omega arith; small = omega arith }

  part-is : (s : Span) → s.list < length t → part_of runs c.payloads.now s ≡ span_payloads t c.payloads.now s
  part-is s l =
      let n : to_of runs s - from_of runs s ≡ s.after - s.first = omega arith in
      ap₂ (λ m k. take m (drop k c.payloads.now)) n (ap (λ k. k + s.first) (first-is c s.list l))

  parts_are : (spans : List Span) → ((i : ℕ) → i < length spans → SpanOf t (get_or spans i no_span))
      → map (part_of runs c.payloads.now) spans ≡ map (span_payloads t c.payloads.now) spans
  parts_are [] each = refl
  parts_are (s ∷ spans) each = ap₂ (λ x xs. x ∷ xs) (part-is s (each 0 (omega arith)).there) (parts_are spans (λ i l. each (suc i) (omega arith)))

  pub joined-all : (neutral : P) (joined : P → P → P) (spans : List Span) (i entries : ℕ) (payload : P)
      → length spans ≤ i → Spanned t spans → Joined neutral joined runs c.payloads.now spans i entries payload
      → ◌≡◌ {A = ℕ × P} (entries, payload) (length (spans_payloads t c.payloads.now spans), fold joined neutral (spans_payloads t c.payloads.now spans))
  joined-all neutral joined spans i entries payload l spanned was =
      let e : between runs c.payloads.now i spans ≡ spans_payloads t c.payloads.now spans =
      ap (λ xs. joined_lists (map (part_of runs c.payloads.now) xs)) (take_all i spans l) ∙ ap joined_lists (parts_are spans spanned.each) in
      ap₂ (λ n p. (n, p)) (was.count ∙ ap length e) (was.all ∙ ap (fold joined neutral) e)
