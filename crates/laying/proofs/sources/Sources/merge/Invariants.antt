use Rattle.std.proofs.Common.{◌≡◌}
use lib.Seq.{paste}
use Rattle.cascade.specs.Rows.{row_at, rows_of}
use Rattle.cascade.specs.Trees.{keys_of, augmented}
use Rattle.layout.specs.KeyTrees.{key_tree}
use Rattle.laying.proofs.sources.Sources.merge.Given as goal

abbrev pub invariant-loop-p : goal.invariant-loop-p
invariant-loop-p g l =
    let xs = augmented g.S.Key.KeyOrder.order (key_tree (g.S.Shelf.meaning l.self.shelf.now)) l.self.list in
    record {
      keys : l.keys ≡ paste l.initial.keys 0 (keys_of xs) l.p;
      rows : l.rows ≡ paste l.initial.rows 0 (rows_of xs) l.p;
      row : l.row ≡ row_at l.p xs;
    }
