use Rattle.std.proofs.Common.{◌≡◌, suc, map}
use Rattle.std.specs.Option.{option_map}
use Rattle.cascade.specs.Trees.{keys_at}
use Rattle.layout.specs.KeyTrees.{key_tree}
use Rattle.laying.specs.Merging.{head_of, least_head}
use Rattle.laying.specs.Numbering.{numbered}
use Rattle.laying.proofs.sources.Sources.least.Given as goal

abbrev pub invariant-loop-ordinal : goal.invariant-loop-ordinal
invariant-loop-ordinal g l =
    let own = keys_at (key_tree (g.S.Shelf.meaning l.self.shelf.now)) l.self.list in
    option_map numbered l.best ≡ least_head g.S.Key.KeyOrder.order (head_of own (map (λ keys. keys.now) l.self.children) l.row) (suc l.ordinal)
