use Rattle.std.proofs.Common.{get_or, arith, rules}
use Rattle.walking.specs.Reached.{no_span}
use Rattle.walking.proofs.Joining.{span-held, joined-more, joined-all}
use Rattle.walking.proofs.walk.Cascade.join_spans.Goals as goal

pub overflow_add-from : goal.overflow_add-from
overflow_add-from g c =
    let i = c.loop-span.span-index in
    let h = span-held c.args.self.now c.requires.held (get_or c.args.spans.now i no_span) (c.requires.spanned.each i c.loop-span-test.true) in
    let f = h.forward in
    let m = h.small in
    record { fits = omega arith }

pub overflow_add-to : goal.overflow_add-to
overflow_add-to g c =
    let i = c.loop-span.span-index in
    let m = (span-held c.args.self.now c.requires.held (get_or c.args.spans.now i no_span) (c.requires.spanned.each i c.loop-span-test.true)).small in
    record { fits = omega arith }

pub overflow_add-entries : goal.overflow_add-entries
overflow_add-entries g c =
    let i = c.loop-span.span-index in
    let m = (span-held c.args.self.now c.requires.held (get_or c.args.spans.now i no_span) (c.requires.spanned.each i c.loop-span-test.true)).small in
    let n = c.loop-span.invariant.few in
    let k = c.requires.spanned.few in
    record { fits = omega arith }

pub offset_bounds-self-from : goal.offset_bounds-self-from
offset_bounds-self-from g c =
    let i = c.loop-span.span-index in
    let h = span-held c.args.self.now c.requires.held (get_or c.args.spans.now i no_span) (c.requires.spanned.each i c.loop-span-test.true) in
    let f = h.forward in
    let w = h.within in
    omega arith

pub slice_bounds-join_all-end : goal.slice_bounds-join_all-end
slice_bounds-join_all-end g c =
    let i = c.loop-span.span-index in
    let h = span-held c.args.self.now c.requires.held (get_or c.args.spans.now i no_span) (c.requires.spanned.each i c.loop-span-test.true) in
    let f = h.forward in
    let w = h.within in
    search rules

pub loop-span-preserved : goal.loop-span-preserved
loop-span-preserved g c =
    let i = c.loop-span.span-index in
    let h = span-held c.args.self.now c.requires.held (get_or c.args.spans.now i no_span) (c.requires.spanned.each i c.loop-span-test.true) in
    joined-more _ _ _ _ _ i c.loop-span.entries c.loop-span.payload c.join_all-payload.result c.loop-span-test.true c.loop-span.invariant h.within h.small c.join_all-payload.ensures

pub returns : goal.returns
returns g c =
    joined-all c.args.self.now g.P.Payload.neutral g.P.Payload.joined c.args.spans.now c.loop-span.span-index c.loop-span.entries c.loop-span.payload (omega arith) c.requires.spanned c.loop-span.invariant
