-- Lists and their augmented lists that lie in memory, as build lays them down, with their table.
use Rattle.std.specs.Prelude.{◌≡◌, ◌+◌, ◌≤◌, List, length, take, sum_by}
use Rattle.std.specs.Coded.{Coded, Coded-set, coded_list, le_prop, codes}
use Rattle.cascade.specs.declared.row.Row.{Row}
use Rattle.cascade.specs.Trees.{KeyTree, Tagged, all_keys}
use Rattle.register.specs.Memory.{keys_laid, rows_laid}
use Rattle.register.specs.Shape.{Shaped}
use Rattle.plan.specs.Table.{Tabled}
use Rattle.plan.specs.declared.table.ListTable.{ListTable}

-- what every walk needs: the lists in key and row memory
module _ {K : Type 0} (t : KeyTree K) (gs : List (List (Tagged K))) (table : ListTable) (keys : List K) (rows : List Row) where
  pub record ListsInMemory : Type 0 where
    pub shaped : Shaped t
    pub tabled : Tabled t gs table
    pub keyed : take (sum_by length gs) keys ≡ keys_laid gs
    pub rowed : take (sum_by length gs + length t) rows ≡ rows_laid gs

  -- any two proofs of it are the same, as a ghost field asks
  pub lists_in_memory_once : Coded K → IsProp ListsInMemory
  lists_in_memory_once code = Prim.hlevel (codes, Coded-set (coded_list code))

-- what an index keeps: its lists, and payload memory for their entries
module _ {K P : Type 0} (t : KeyTree K) (gs : List (List (Tagged K))) (table : ListTable) (keys : List K) (rows : List Row) (payloads : List P) where
  pub record InMemory : Type 0 where
    pub shaped : Shaped t
    pub tabled : Tabled t gs table
    pub keyed : take (sum_by length gs) keys ≡ keys_laid gs
    pub rowed : take (sum_by length gs + length t) rows ≡ rows_laid gs
    -- payload memory has a place for each entry
    pub loaded : all_keys t ≤ length payloads

  -- any two proofs of it are the same, as a ghost field asks
  pub in_memory_once : Coded K → IsProp InMemory
  in_memory_once code = Prim.hlevel (codes, le_prop, Coded-set (coded_list code))
