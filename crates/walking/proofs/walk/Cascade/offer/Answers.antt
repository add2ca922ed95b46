use Rattle.std.proofs.Common.{ℕ, ◌+◌, ◌<◌, ◌≤◌, length, get_or, fold, sym, ap, ◌∙◌, subst, ap₂, arith}
use Rattle.orders.specs.declared.side.Side.TheVariants.{Low, High}
use Rattle.walking.specs.Walked.{spans_payloads}
use Rattle.walking.specs.Reached.{SpanOf, no_span}
use Rattle.walking.proofs.Lying.{root-small}
use Rattle.walking.proofs.Descending.{is-path, walked-is}
use Rattle.walking.proofs.Offering.{used-few, offered-used, each-offered, comparisons-few, spans-are, spans-taken, offer-same}
use Rattle.walking.proofs.walk.Cascade.offer.Goals as goal

pub walk-low-requires : goal.walk-low-requires
walk-low-requires g c = is-path c.args.self.now.laid.shaped c.args.end c.requires.there c.lists.result.now (c.lists.ensures ∙ c.path_to-path.ensures)

pub walk-high-requires : goal.walk-high-requires
walk-high-requires g c = is-path c.args.self.now.laid.shaped c.args.end c.requires.there c.lists-2.result.now (c.lists-2.ensures ∙ c.path_to-path.ensures)

pub slice_bounds-join_spans-end : goal.slice_bounds-join_spans-end
slice_bounds-join_spans-end g c =
    let order = g.K.KeyOrder.order in
    let laws = g.met.K.KeyOrder.lawful in
    let t = c.args.self.now.tree.now in
    let shaped = c.args.self.now.laid.shaped in
    let q = c.args.key.now in
    let end = c.args.end in
    let l = walked-is shaped end c.requires.there c.lists.result.now (c.lists.ensures ∙ c.path_to-path.ensures) order Low q c.walk-low.result c.walk-low.ensures in
    let h = walked-is shaped end c.requires.there c.lists-2.result.now (c.lists-2.ensures ∙ c.path_to-path.ensures) order High q c.walk-high.result c.walk-high.ensures in
    ap (λ r. r.used) l ∙ sym (offered-used order laws t shaped q end c.requires.there)
    ∙ sym (ap length (spans-taken order laws t shaped q end c.requires.there c.walk-low.result c.walk-high.result l h c.spans_between-spans.result c.spans_between-spans.ensures))

pub join_spans-entries-requires-clause-spanned : goal.join_spans-entries-requires-clause-spanned
join_spans-entries-requires-clause-spanned g c =
    let order = g.K.KeyOrder.order in
    let laws = g.met.K.KeyOrder.lawful in
    let t = c.args.self.now.tree.now in
    let shaped = c.args.self.now.laid.shaped in
    let q = c.args.key.now in
    let end = c.args.end in
    let l = walked-is shaped end c.requires.there c.lists.result.now (c.lists.ensures ∙ c.path_to-path.ensures) order Low q c.walk-low.result c.walk-low.ensures in
    let h = walked-is shaped end c.requires.there c.lists-2.result.now (c.lists-2.ensures ∙ c.path_to-path.ensures) order High q c.walk-high.result c.walk-high.ensures in
    let taken = spans-taken order laws t shaped q end c.requires.there c.walk-low.result c.walk-high.result l h c.spans_between-spans.result c.spans_between-spans.ensures in
    let few = used-few order laws t shaped q end c.requires.there in
    let used = offered-used order laws t shaped q end c.requires.there in
    record {
      few = subst (λ xs. length xs ≤ 127) (sym taken) (omega arith);
      each = subst (λ xs. (i : ℕ) → i < length xs → SpanOf t (get_or xs i no_span)) (sym taken) (each-offered order laws t shaped q end c.requires.there);
    }

pub overflow_add-result : goal.overflow_add-result
overflow_add-result g c =
    let order = g.K.KeyOrder.order in
    let laws = g.met.K.KeyOrder.lawful in
    let t = c.args.self.now.tree.now in
    let shaped = c.args.self.now.laid.shaped in
    let q = c.args.key.now in
    let end = c.args.end in
    let there = c.requires.there in
    let l = walked-is shaped end c.requires.there c.lists.result.now (c.lists.ensures ∙ c.path_to-path.ensures) order Low q c.walk-low.result c.walk-low.ensures in
    let h = walked-is shaped end c.requires.there c.lists-2.result.now (c.lists-2.ensures ∙ c.path_to-path.ensures) order High q c.walk-high.result c.walk-high.ensures in
    let small = root-small order t shaped (omega arith) in
    let a = comparisons-few order laws t shaped q end there Low small in
    let b = comparisons-few order laws t shaped q end there High small in
    record { fits = omega (arith, ap (λ r. r.comparisons) l, ap (λ r. r.comparisons) h) }

pub returns : goal.returns
returns g c =
    let order = g.K.KeyOrder.order in
    let laws = g.met.K.KeyOrder.lawful in
    let t = c.args.self.now.tree.now in
    let shaped = c.args.self.now.laid.shaped in
    let q = c.args.key.now in
    let end = c.args.end in
    let low = c.walk-low.result in
    let high = c.walk-high.result in
    let l = walked-is shaped end c.requires.there c.lists.result.now (c.lists.ensures ∙ c.path_to-path.ensures) order Low q c.walk-low.result c.walk-low.ensures in
    let h = walked-is shaped end c.requires.there c.lists-2.result.now (c.lists-2.ensures ∙ c.path_to-path.ensures) order High q c.walk-high.result c.walk-high.ensures in
    let payloads = spans_payloads t c.args.self.now.payloads.now in
    offer-same
    (c.spans_between-spans.ensures ∙ spans-are order laws t shaped q end c.requires.there low high l h)
    (ap (λ r. r.used) l)
    (c.join_spans-entries.ensures
    ∙ ap (λ xs. (length (payloads xs), fold g.P.Payload.joined g.P.Payload.neutral (payloads xs)))
    (spans-taken order laws t shaped q end c.requires.there low high l h c.spans_between-spans.result c.spans_between-spans.ensures))
    (ap₂ (λ a b. a.comparisons + b.comparisons) l h)
