use Rattle.index.proofs.Sounding.{sound-of}
use Rattle.index.proofs.Index.sound.Goals as goal

pub returns : goal.returns
returns g c = sound-of c.args.self.now g.K.KeyOrder.order c.args.self.now.layout.augmented_of_tree
