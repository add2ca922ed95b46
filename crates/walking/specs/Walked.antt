-- What walks over laid-down lists answer.
use Rattle.std.specs.Prelude.{ℕ, ◌+◌, ◌-◌, List, map, length, take, drop, fold}
use Rattle.std.specs.declared.cmp.Ordering.{Ordering}
use Rattle.orders.specs.declared.side.Side.{Side}
use Rattle.orders.specs.declared.side.Side.TheVariants.{Low, High}
use Rattle.cascade.specs.Trees.{KeyTree, path, all_keys}
use Rattle.cascade.specs.Walks as walks
use Rattle.cascade.specs.Walks.{walked_place}
use Rattle.register.specs.Limits.{most_stops}
use Rattle.register.specs.Memory.{joined_lists}
use Rattle.register.specs.Answers.{stop, span, filled_up}
use Rattle.register.specs.declared.answers.Lookup.{Lookup}
use Rattle.register.specs.declared.answers.Offer.{Offer}
use Rattle.register.specs.declared.answers.Span.{Span}

module _ {K : Type 0} (order : K → K → Ordering) (t : KeyTree K) where
  -- a lookup that ends at list w
  abbrev pub looked_up : (w : ℕ) → Side → K → Lookup
  looked_up w side q = record {
    stops = filled_up most_stops (stop 0 0) (map (λ s. stop s.0 s.1) (walks.stops order t side q w));
    used = length (path t w);
    comparisons = walks.comparisons order t side q w;
  }

  -- in each list of the path to list w the entries from the low-side place to before the high-side place
  abbrev pub offered_spans : (w : ℕ) → K → List Span
  offered_spans w q = map (λ v. span v (walked_place order t Low q v) (walked_place order t High q v)) (path t w)

module _ {K P : Type 0} (t : KeyTree K) (payloads : List P) where
  -- the payloads of a span's entries: those of a list lie behind those of the lists before it
  abbrev pub span_payloads : Span → List P
  span_payloads s = take (s.after - s.first) (drop (all_keys (take s.list t) + s.first) payloads)

  abbrev pub spans_payloads : List Span → List P
  spans_payloads spans = joined_lists (map span_payloads spans)

-- an offer at list w
abbrev pub offered_at : {K P : Type 0} → (K → K → Ordering) → P → (P → P → P) → KeyTree K → List P → (w : ℕ) → K → Offer P
offered_at order neutral joined t payloads w q =
    let spans = offered_spans order t w q in
    record {
      spans = filled_up most_stops (span 0 0 0) spans;
      used = length (path t w);
      entries = length (spans_payloads t payloads spans);
      payload = fold joined neutral (spans_payloads t payloads spans);
      comparisons = walks.comparisons order t Low q w + walks.comparisons order t High q w;
    }
