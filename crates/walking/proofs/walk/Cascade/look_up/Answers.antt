use Rattle.std.proofs.Common.{◌∙◌}
use Rattle.walking.proofs.Descending.{is-path, walked-is}
use Rattle.walking.proofs.walk.Cascade.look_up.Goals as goal

pub walk-requires : goal.walk-requires
walk-requires g c = is-path c.args.self.now.laid.shaped c.args.end c.requires c.lists.result.now (c.lists.ensures ∙ c.path_to.ensures)

pub returns : goal.returns
returns g c =
    walked-is c.args.self.now.laid.shaped c.args.end c.requires c.lists.result.now (c.lists.ensures ∙ c.path_to.ensures) g.K.KeyOrder.order c.args.side c.args.key.now c.walk.result c.walk.ensures
