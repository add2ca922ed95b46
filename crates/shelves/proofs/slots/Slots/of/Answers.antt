use Rattle.std.proofs.Common.{arith}
use Rattle.shelves.proofs.Depths.{fits, width-at, first-at}
use Rattle.shelves.proofs.slots.Slots.of.Goals as goal

pub overflow_shr-width : goal.overflow_shr-width
overflow_shr-width c = let d = c.in_ok-depth.ensures in omega (arith, (fits c.args.list d.0).shallow)

pub overflow_shl-first : goal.overflow_shl-first
overflow_shl-first c = let d = c.in_ok-depth.ensures in omega (arith, (fits c.args.list d.0).shallow)

pub returns : goal.returns
returns c =
    let d = c.in_ok-depth.ensures in
    let first = first-at c.args.list c.in_ok-depth.depth d.0 d.1 in
    let width = width-at c.args.list c.in_ok-depth.depth d.0 d.1 in
    (d.0, omega arith, omega arith)
