use Rattle.std.proofs.Common.{◌-◌, arith, rules}
use Rattle.std.proofs.lemmas.Iterator.{YieldsList-from_slice}
use Rattle.std.proofs.lemmas.Iterator.Consumers.{fold_from_yields_List}
use Rattle.shelves.proofs.Branches.{claims_folded}
use Rattle.shelves.proofs.stored.claimed.Goals as goal

pub overflow_sub-result : goal.overflow_sub-result
overflow_sub-result c =
    let limit = c.args.limit in
    let rows = c.args.rows.now in
    let ran = fold_from_yields_List _ (λ k row. k - row.count) _ _ c.fold.ensures.ran (YieldsList-from_slice rows cc) (λ a x b q k. search rules) in
    omega (arith, ran, claims_folded rows limit)

pub returns : goal.returns
returns c =
    let limit = c.args.limit in
    let rows = c.args.rows.now in
    let ran = fold_from_yields_List _ (λ k row. k - row.count) _ _ c.fold.ensures.ran (YieldsList-from_slice rows cc) (λ a x b q k. search rules) in
    omega (arith, ran, claims_folded rows limit)
