-- Walked lookups and offers are the plain register's answers. Assumes nothing.
use Rattle.std.proofs.Common.{◌≡◌, ℕ, ◌<◌, ◌≤◌, List, map, length, fold, Ordering, sym, ap, ◌∙◌, ap₂}
use mathlib.Core.List.{map-map}
use Rattle.std.proofs.lemmas.List.{length-map}
use Rattle.orders.specs.declared.side.Side.{Side}
use Rattle.orders.specs.declared.side.Side.TheVariants.{Low, High}
use Rattle.orders.specs.Laws.{LawfulOrder}
use Rattle.orders.specs.Places.{place}
use Rattle.shelves.specs.Meaning.{payloads_of}
use Rattle.cascade.proofs.Walking.{walks}
use Rattle.cascade.specs.Trees.{KeyTree, ParentsSmaller, keys_at, path, all_keys}
use Rattle.cascade.specs.Walks.{walked_place, stops}
use Rattle.layout.specs.KeyTrees.{key_tree}
use Rattle.register.specs.Answers.{stop, span, filled_up, lookup_read, offer_read, Stops, Spans}
use Rattle.register.specs.Limits.{most_stops}
use Rattle.register.specs.Memory.{joined_lists}
use Rattle.register.specs.Register.{Register, looked, offered, spanned, summed}
use Rattle.register.specs.declared.answers.Span.{Span}
use Rattle.register.specs.declared.answers.Stop.{Stop}
use Rattle.walking.specs.Walked.{looked_up, offered_at, offered_spans, span_payloads, spans_payloads}
use Rattle.index.specs.Held.{dressed}
use Rattle.index.proofs.Answering.{along-path, span-payloads, payloads-joined, length-payloads_of, places-rise, place-within}
use Rattle.index.proofs.Dressing.{tree-dressed}

module _ {K P : Type 0} (order : K → K → Ordering) (laws : LawfulOrder order) (t : KeyTree K) (smaller : ParentsSmaller t) (ps : List P) (loaded : all_keys t ≤ length ps) (w : ℕ) (there : w < length t) where
  abbrev reg : Register K P
  reg = dressed t ps

  tree : key_tree reg ≡ t
  tree = tree-dressed t ps loaded

  pub looks : (side : Side) (q : K) → lookup_read (looked_up order t w side q) ≡ looked order reg w side q
  looks side q =
      let counted : KeyTree K → Stops = λ u. record {
        stops = filled_up most_stops (stop 0 0) (map (λ v. stop v (place order side q (keys_at u v))) (path u w));
        used = length (path u w);
      } in
      let walked : map (λ (s : ℕ × ℕ). stop s.0 s.1) (stops order t side q w) ≡ map (λ v. stop v (place order side q (keys_at t v))) (path t w) =
      map-map (λ (s : ℕ × ℕ). stop s.0 s.1) (λ v. (v, walked_place order t side q v)) (path t w)
      ∙ along-path t smaller (λ v. stop v (walked_place order t side q v)) (λ v. stop v (place order side q (keys_at t v))) (λ v l. ap (stop v) (walks order laws t smaller side q v l)) w there in
      ap (λ (ss : List Stop). record { stops = filled_up most_stops (stop 0 0) ss; used = length (path t w) }) walked
      ∙ sym (ap counted tree)

  module _ (neutral : P) (joined : P → P → P) (q : K) where
    -- the spans by counted places, along the path
    abbrev here : KeyTree K → ℕ → Span
    here u v = span v (place order Low q (keys_at u v)) (place order High q (keys_at u v))

    abbrev counted : KeyTree K → List Span
    counted u = map (here u) (path u w)

    spans-counted : offered_spans order t w q ≡ counted t
    spans-counted =
        along-path t smaller _ (here t)
        (λ v l. ap₂ (span v) (walks order laws t smaller Low q v l) (walks order laws t smaller High q v l)) w there

    payloads-counted : spans_payloads t ps (counted t) ≡ payloads_of (joined_lists (map (spanned reg) (counted t)))
    payloads-counted =
        let read : map (span_payloads t ps) (counted t) ≡ map payloads_of (map (spanned reg) (counted t)) =
        map-map (span_payloads t ps) (here t) (path t w)
        ∙ along-path t smaller (λ v. span_payloads t ps (here t v)) (λ v. payloads_of (spanned reg (here t v)))
        (λ v l. sym (span-payloads t ps v (place order Low q (keys_at t v)) (place order High q (keys_at t v)) l (places-rise order q (keys_at t v)) (place-within order High q (keys_at t v)))) w there
        ∙ sym (map-map (λ (s : Span). payloads_of (spanned reg s)) (here t) (path t w))
        ∙ sym (map-map payloads_of (spanned reg) (counted t)) in
        ap joined_lists read ∙ sym (payloads-joined (map (spanned reg) (counted t)))

    pub offers : offer_read (offered_at order neutral joined t ps w q) ≡ offered order neutral joined reg w q
    offers =
        let answer : List Span → ℕ → List P → Spans P = λ spans used between. record {
          spans = filled_up most_stops (span 0 0 0) spans;
          used = used;
          entries = length between;
          payload = fold joined neutral between;
        } in
        let between = joined_lists (map (spanned reg) (counted t)) in
        let long : length (path t w) ≡ length (counted t) = sym (length-map (path t w) (here t)) in
        ap (λ (ss : List Span). answer ss (length (path t w)) (spans_payloads t ps ss)) spans-counted
        ∙ ap₂ (λ (n : ℕ) (qs : List P). answer (counted t) n qs) long payloads-counted
        ∙ ap (λ (n : ℕ). record { spans = filled_up most_stops (span 0 0 0) (counted t); used = length (counted t); entries = n; payload = fold joined neutral (payloads_of between) }) (length-payloads_of between)
        ∙ sym (ap (λ (u : KeyTree K). summed order neutral joined most_stops reg (counted u)) tree)
