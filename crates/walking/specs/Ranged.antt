-- What a range over the sieve's lists answers.
use Rattle.std.specs.Prelude.{ℕ, List, map, length, fold}
use Rattle.std.specs.declared.cmp.Ordering.{Ordering}
use Rattle.cascade.specs.SlotTree as slots
use Rattle.cascade.specs.SlotTree.{range_comparisons}
use Rattle.cascade.specs.Trees.{KeyTree}
use Rattle.register.specs.Limits.{most_spans}
use Rattle.register.specs.Answers.{span, filled_up}
use Rattle.register.specs.declared.answers.Range.{Range}
use Rattle.register.specs.declared.answers.Span.{Span}
use Rattle.walking.specs.Walked.{spans_payloads}

module _ {K : Type 0} (order : K → K → Ordering) (t : KeyTree K) (a b : ℕ) (low high : K) where
  abbrev pub ranged_spans : List Span
  ranged_spans = map (λ s. span s.0 s.1 s.2) (slots.spans order t a b low high)

-- a range over slots a to b and keys low to high
abbrev pub ranged_at : {K P : Type 0} → (K → K → Ordering) → P → (P → P → P) → KeyTree K → List P → (a b : ℕ) → (low high : K) → Range P
ranged_at order neutral joined t payloads a b low high =
    let spans = ranged_spans order t a b low high in
    record {
      spans = filled_up most_spans (span 0 0 0) spans;
      used = length spans;
      entries = length (spans_payloads t payloads spans);
      payload = fold joined neutral (spans_payloads t payloads spans);
      comparisons = range_comparisons order t a b low high;
    }
