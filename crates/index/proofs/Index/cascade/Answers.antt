use Rattle.index.proofs.Sounding.{laid_of}
use Rattle.index.proofs.Index.cascade.Goals as goal

pub invariant_of-result : goal.invariant_of-result
invariant_of-result g c =
    let i = c.args.self.now in
    let l = laid_of i g.K.KeyOrder.order i.layout.augmented_of_tree in
    record { laid = record { shaped = l.shaped; tabled = l.tabled; keyed = l.key_front; rowed = l.row_front } }
