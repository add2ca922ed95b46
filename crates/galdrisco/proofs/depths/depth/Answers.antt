use Rattle.std.proofs.Common.{◌≡◌, ◌+◌, ◌<◌, length, sym, ap, subst, ◌∙◌, arith}
use Rattle.std.proofs.lemmas.Bool.{ltb-true, ltb-false}
use Rattle.shelves.specs.declared.rows.ListRow.{ListRow}
use Rattle.galdrisco.specs.Depths.{climbed, parent_of}
use Rattle.galdrisco.proofs.Climbs.{stepped, absent, barred, found}
use Rattle.galdrisco.proofs.depths.depth.Goals as goal

pub loop-at-preserved : goal.loop-at-preserved
loop-at-preserved c =
    let rows = c.args.lists.now in
    let at = c.loop-at.at in
    let row = c.in_ok-parent.field-0.now in
    let there : at < length rows = ltb-true at (length rows) (sym c.in_ok-parent.ensures.lookup.0) in
    let is : row.parent ≡ parent_of rows at = found rows at row there c.in_ok-parent.ensures.lookup.1 in (
      omega arith,
      ap (λ n. climbed n rows n (c.loop-at.steps + 1)) is
          ∙ sym (stepped rows at c.loop-at.steps c.loop-at-test.true there (subst (λ n. n < at) is c.if-parent-at.false))
          ∙ c.loop-at.invariant.1,
    )

pub returns-in_err-parent : goal.returns-in_err-parent
returns-in_err-parent c =
    let rows = c.args.lists.now in
    c.from_residual.ensures
    ∙ sym (absent rows c.loop-at.at c.loop-at.steps c.loop-at-test.true (ltb-false c.loop-at.at (length rows) (sym c.in_err-parent.ensures.lookup.0)))
    ∙ c.loop-at.invariant.1

pub returns-then-parent-at : goal.returns-then-parent-at
returns-then-parent-at c =
    let rows = c.args.lists.now in
    let at = c.loop-at.at in
    let row = c.in_ok-parent.field-0.now in
    let there : at < length rows = ltb-true at (length rows) (sym c.in_ok-parent.ensures.lookup.0) in
    let is : row.parent ≡ parent_of rows at = found rows at row there c.in_ok-parent.ensures.lookup.1 in
    sym (barred rows at c.loop-at.steps c.loop-at-test.true there (omega (arith, c.if-parent-at.true, is))) ∙ c.loop-at.invariant.1
