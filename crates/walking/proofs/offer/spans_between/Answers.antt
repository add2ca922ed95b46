use Rattle.std.proofs.Common.{◌≡◌, map, set, sym, ap, ◌∙◌, arith}
use Rattle.std.specs.List.{range_with_len}
use Rattle.std.proofs.lemmas.List.FromFn.{length-map-range_with_len, map-range_with_len_more}
use Rattle.register.specs.Answers.{filled_up}
use Rattle.walking.specs.Between.{span_at}
use Rattle.walking.specs.Reached.{no_span}
use Rattle.walking.proofs.Filling.{filled_more}
use Rattle.walking.proofs.offer.spans_between.Goals as goal

pub loop-i-preserved : goal.loop-i-preserved
loop-i-preserved c =
    let i = c.loop-i.i in
    let at = span_at c.args.low.now c.args.high.now in
    ap (λ xs. set xs i (at i)) c.loop-i.invariant
    ∙ filled_more 9 i no_span (at i) (map at (range_with_len 0 i)) (length-map-range_with_len at 0 i) c.loop-i-test.true
    ∙ ap (filled_up 9 no_span) (sym (map-range_with_len_more at 0 i i (omega arith)))

pub returns : goal.returns
returns c =
    let e : c.loop-i.i ≡ 9 = let h = c.loop-i-test.false in let k = c.loop-i.auto.i-end in omega arith in
    c.loop-i.invariant ∙ ap (λ n. filled_up 9 no_span (map (span_at c.args.low.now c.args.high.now) (range_with_len 0 n))) e
