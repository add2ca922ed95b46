use Rattle.std.proofs.Common.{refl, arith}
use Rattle.index.proofs.sieve.is_sieve.Goals as goal

pub returns : goal.returns
returns c =
    let n = c.if-table-ne-SIEVE_LISTS.false in
    let left = c.loop-list-test.false in (
      λ e. record { lists = n; parents = λ v z l. c.loop-list.invariant v z (omega (arith, n, c.lists-run-items.ensures.count, left, l)) },
      λ s. refl,
    )
