use Rattle.std.proofs.Common.{ap}
use Rattle.plan.specs.declared.table.ListTable.{ListTable}
use Rattle.index.proofs.Facts.{facts-none}
use Rattle.index.proofs.Index.set_up.Goals as goal

pub invariant_of-result : goal.invariant_of-result
invariant_of-result g c = facts-none _ _ c.empty.result _ _ _ c.empty-2.ensures.0 c.empty-2.ensures.1 (ap (λ (t : ListTable). t.len) c.empty.ensures)
