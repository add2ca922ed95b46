use Rattle.std.proofs.Common.{rules}
use Rattle.index.proofs.Facts.{facts-none}
use Rattle.index.proofs.Index.clear.Goals as goal

pub invariant_of-self : goal.invariant_of-self
invariant_of-self g c = facts-none _ _ c.empty-self.result _ _ _ (search rules) (search rules) (search rules)
