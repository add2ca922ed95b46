use Rattle.std.proofs.Common.{◌≡◌, length}
use Rattle.std.specs.Iterator.Adapters.{zip_first, zip_second}
use Rattle.std.specs.List.{concat}
use Rattle.std.specs.Slice.Iter.{iter_rest}
use Rattle.terms.specs.Order.{text_order, term_order}
use Rattle.terms.proofs.key.order.TermKeyOrder.compare.Given as goal

-- the words that are left have the order of the whole
abbrev pub invariant-loop-a : goal.invariant-loop-a
invariant-loop-a l =
    let ours = iter_rest (zip_first l.a-iterator) in
    let theirs = iter_rest (zip_second l.a-iterator) in
    (length ours ≡ length theirs) × (text_order (concat ours) (concat theirs) ≡ term_order l.self l.other)
