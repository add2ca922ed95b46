-- Walked ranges are the plain register's answers. Assumes nothing.
use Rattle.std.proofs.Common.{◌≡◌, ℕ, ◌<◌, ◌≤◌, true, List, map, length, fold, Ordering, sym, ap, ◌∙◌}
use mathlib.Core.List.{map-map}
use Rattle.std.specs.Ordering.{is_le}
use Rattle.orders.specs.declared.side.Side.TheVariants.{Low, High}
use Rattle.orders.specs.Laws.{LawfulOrder}
use Rattle.orders.specs.Places.{place}
use Rattle.shelves.specs.Meaning.{payloads_of}
use Rattle.shelves.specs.Slots.{sieve_lists}
use Rattle.cascade.proofs.Numbering.{map-among}
use Rattle.cascade.proofs.Ranging.{spans-counted}
use Rattle.cascade.specs.SlotTree as slots
use Rattle.cascade.specs.SlotTree.{SieveShaped, chosen, chosen_lists, counted_spans}
use Rattle.cascade.specs.Trees.{KeyTree, keys_at, all_keys}
use Rattle.register.specs.Answers.{span, filled_up, range_read, Spans}
use Rattle.register.specs.Limits.{most_spans}
use Rattle.register.specs.Memory.{joined_lists}
use Rattle.register.specs.Register.{Register, ranged, spanned, summed}
use Rattle.register.specs.declared.answers.Span.{Span}
use Rattle.walking.specs.Ranged.{ranged_at}
use Rattle.walking.specs.Walked.{span_payloads, spans_payloads}
use Rattle.index.specs.Held.{dressed}
use Rattle.index.proofs.Answering.{span-payloads, payloads-joined, length-payloads_of, places-up, place-within}
use Rattle.index.proofs.Dressing.{tree-dressed}
use Rattle.index.proofs.Sieving.{there}

abbrev as_span : slots.Span → Span
as_span s = span s.0 s.1 s.2

module _ {K P : Type 0} (order : K → K → Ordering) (laws : LawfulOrder order) (t : KeyTree K) (shape : SieveShaped t) (ps : List P) (loaded : all_keys t ≤ length ps) (a b : ℕ) (low high : K) where
  abbrev reg : Register K P
  reg = dressed t ps

  -- the spans by counted places
  abbrev counted : KeyTree K → List Span
  counted u = map as_span (counted_spans order u a b low high)

  abbrev here : ℕ → Span
  here v = span v (place order Low low (keys_at t v)) (place order High high (keys_at t v))

  counted_is : counted t ≡ map here (chosen_lists a b)
  counted_is = map-map as_span (λ v. (v, place order Low low (keys_at t v), place order High high (keys_at t v))) (chosen_lists a b)

  module _ (upward : is_le (order low high) ≡ true) where
    payloads-here : (v : ℕ) → v < sieve_lists → span_payloads t ps (here v) ≡ payloads_of (spanned reg (here v))
    payloads-here v l =
        sym (span-payloads t ps v (place order Low low (keys_at t v)) (place order High high (keys_at t v)) (there (length t) v shape.lists l)
        (places-up order laws low high upward (keys_at t v)) (place-within order High high (keys_at t v)))

    payloads-counted : spans_payloads t ps (counted t) ≡ payloads_of (joined_lists (map (spanned reg) (counted t)))
    payloads-counted =
        let read : map (span_payloads t ps) (counted t) ≡ map payloads_of (map (spanned reg) (counted t)) =
        ap (map (span_payloads t ps)) counted_is
        ∙ map-map (span_payloads t ps) here (chosen_lists a b)
        ∙ map-among (chosen a b) (λ v. span_payloads t ps (here v)) (λ v. payloads_of (spanned reg (here v))) 0 sieve_lists (λ v z l. payloads-here v l)
        ∙ sym (map-map (λ (s : Span). payloads_of (spanned reg s)) here (chosen_lists a b))
        ∙ sym (ap (map (λ (s : Span). payloads_of (spanned reg s))) counted_is)
        ∙ sym (map-map payloads_of (spanned reg) (counted t)) in
        ap joined_lists read ∙ sym (payloads-joined (map (spanned reg) (counted t)))

    pub ranges : (neutral : P) (joined : P → P → P) → range_read (ranged_at order neutral joined t ps a b low high) ≡ ranged order neutral joined reg a b low high
    ranges neutral joined =
        let answer : List Span → List P → Spans P = λ spans between. record {
          spans = filled_up most_spans (span 0 0 0) spans;
          used = length spans;
          entries = length between;
          payload = fold joined neutral between;
        } in
        let between = joined_lists (map (spanned reg) (counted t)) in
        ap (λ (ss : List Span). answer ss (spans_payloads t ps ss)) (ap (map as_span) (spans-counted K order laws t shape a b low high))
        ∙ ap (answer (counted t)) payloads-counted
        ∙ ap (λ (n : ℕ). record { spans = filled_up most_spans (span 0 0 0) (counted t); used = length (counted t); entries = n; payload = fold joined neutral (payloads_of between) }) (length-payloads_of between)
        ∙ sym (ap (λ (u : KeyTree K). summed order neutral joined most_spans reg (counted u)) (tree-dressed t ps loaded))
