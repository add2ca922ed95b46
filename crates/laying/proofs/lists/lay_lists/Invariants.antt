use Rattle.std.proofs.Common.{◌≡◌, ◌≤◌, ◌+◌, ◌++◌, length, take, drop}
use Rattle.cascade.specs.Trees.{augmented_lists, all_augmented}
use Rattle.layout.specs.KeyTrees.{key_tree}
use Rattle.register.specs.Memory.{keys_laid, rows_laid}
use Rattle.laying.specs.Laying.{start_of}
use Rattle.laying.proofs.lists.lay_lists.Given as goal

-- the lists that are still to come are in front of those that lie
abbrev pub invariant-loop-list : goal.invariant-loop-list
invariant-loop-list g l =
    let order = g.S.Key.KeyOrder.order in
    let t = key_tree (g.S.Shelf.meaning l.shelf) in
    let front = l.list-iterator.iter.iter.rest.now in
    let v = length front in
    let rest = drop v (augmented_lists order t) in
    record {
      callable : (goal.iterator-loop-list g).can_next l.list-iterator;
      finite : (goal.iterator-loop-list g).is_finite l.list-iterator;
      from : l.list-iterator.iter.count ≡ 0;
      runs : front ≡ take v l.table.runs;
      few : v ≤ l.table.len;
      keys : l.keys ≡ take (start_of order t v) l.initial.keys ++ (keys_laid rest ++ drop (all_augmented order t) l.initial.keys);
      rows : l.rows ≡ take (start_of order t v + v) l.initial.rows ++ (rows_laid rest ++ drop (all_augmented order t + length t) l.initial.rows);
    }
