use Rattle.std.proofs.Common.{ℕ, ◌<◌, length, get_or, fold, sym, ap, ◌∙◌, subst}
use Rattle.walking.specs.Walked.{spans_payloads}
use Rattle.walking.specs.Reached.{SpanOf, no_span}
use Rattle.walking.proofs.Choosing.{places-within}
use Rattle.walking.proofs.Ranging.{rows-are, ranged-taken, ranged-few, taken-few, each-ranged, range_same}
use Rattle.walking.proofs.walk.Cascade.range.Goals as goal

pub chosen_spans-used-requires-clause-within : goal.chosen_spans-used-requires-clause-within
chosen_spans-used-requires-clause-within g c =
    places-within g.K.KeyOrder.order c.args.self.now.tree.now c.args.keys.now.low.now c.args.keys.now.high.now c.args.slots.first c.args.slots.last
    c.survey-comparisons.result.0 c.survey-comparisons.ensures.are g.met.K.KeyOrder.lawful c.args.self.now.laid.shaped.smaller c.requires.sieve

pub join_spans-entries-requires-clause-spanned : goal.join_spans-entries-requires-clause-spanned
join_spans-entries-requires-clause-spanned g c =
    let order = g.K.KeyOrder.order in
    let t = c.args.self.now.tree.now in
    let low = c.args.keys.now.low.now in
    let high = c.args.keys.now.high.now in
    let s = c.args.slots in
    let r = c.chosen_spans-used.result in
    let is = rows-are order t s.first s.last low high c.survey-comparisons.result.0 c.survey-comparisons.ensures.are r c.chosen_spans-used.ensures.spans c.chosen_spans-used.ensures.used in
    let taken = ranged-taken order t s.first s.last low high r.0 r.1 is in
    record {
      few = taken-few r.1 r.0 (ranged-few order t s.first s.last low high r.0 r.1 is s.forward s.few);
      each = subst (λ xs. (i : ℕ) → i < length xs → SpanOf t (get_or xs i no_span)) (sym taken)
          (each-ranged order t s.first s.last low high c.requires.sieve g.met.K.KeyOrder.lawful c.args.self.now.laid.shaped.smaller c.args.keys.now.upward);
    }

pub returns : goal.returns
returns g c =
    let order = g.K.KeyOrder.order in
    let t = c.args.self.now.tree.now in
    let low = c.args.keys.now.low.now in
    let high = c.args.keys.now.high.now in
    let s = c.args.slots in
    let r = c.chosen_spans-used.result in
    let is = rows-are order t s.first s.last low high c.survey-comparisons.result.0 c.survey-comparisons.ensures.are r c.chosen_spans-used.ensures.spans c.chosen_spans-used.ensures.used in
    let payloads = spans_payloads t c.args.self.now.payloads.now in
    range_same is
    (c.join_spans-entries.ensures
    ∙ ap (λ xs. (length (payloads xs), fold g.P.Payload.joined g.P.Payload.neutral (payloads xs))) (ranged-taken order t s.first s.last low high r.0 r.1 is))
    c.survey-comparisons.ensures.counted
