-- Lists that lie in key and row memory as build lays them down, with their table.
use Rattle.std.specs.Prelude.{◌≡◌, ◌+◌, List, length, take}
use Rattle.std.specs.declared.cmp.Ordering.{Ordering}
use Rattle.cascade.specs.declared.row.Row.{Row}
use Rattle.cascade.specs.Trees.{KeyTree, augmented_lists, all_augmented}
use Rattle.register.specs.Memory.{keys_laid, rows_laid}
use Rattle.register.specs.Shape.{Shaped}
use Rattle.plan.specs.Table.{Tabled}
use Rattle.plan.specs.declared.table.ListTable.{ListTable}

pub record Laid {K : Type 0} (order : K → K → Ordering) (t : KeyTree K) (table : ListTable) (keys : List K) (rows : List Row) : Type 0 where
  pub shaped : Shaped t
  pub tabled : Tabled t (augmented_lists order t) table
  pub key_front : take (all_augmented order t) keys ≡ keys_laid (augmented_lists order t)
  pub row_front : take (all_augmented order t + length t) rows ≡ rows_laid (augmented_lists order t)
