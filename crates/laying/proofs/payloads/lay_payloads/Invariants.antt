use Rattle.std.proofs.Common.{◌≡◌, ◌++◌, take, drop}
use Rattle.cascade.specs.Trees.{all_keys}
use Rattle.layout.specs.KeyTrees.{key_tree}
use Rattle.register.specs.Memory.{payloads_laid}
use Rattle.laying.proofs.payloads.lay_payloads.Given as goal

abbrev pub invariant-loop-list : goal.invariant-loop-list
invariant-loop-list g l =
    let bs = g.S.Shelf.meaning l.shelf in
    l.payloads ≡ payloads_laid (take l.list bs) ++ drop (all_keys (take l.list (key_tree bs))) l.initial.payloads
