-- What the facts of an index say of its machine. Assumes nothing.
use Rattle.std.proofs.Common.{◌≡◌, ◌+◌, List, length, take, sum_by, Ordering, sym, ap, ◌∙◌, subst}
use Rattle.orders.specs.declared.KeyOrder.{Ghosts}
use Rattle.cascade.proofs.Spacing.{space}
use Rattle.cascade.specs.Trees.{KeyTree, Tagged, all_keys, all_augmented, augmented_lists}
use Rattle.layout.specs.KeyTrees.{key_tree}
use Rattle.plan.specs.Laid.{Laid}
use Rattle.plan.specs.Table.{runs_of}
use Rattle.register.specs.Memory.{keys_laid, rows_laid}
use Rattle.register.specs.Shape.{Shaped}
use Rattle.index.specs.Held.{machine_of}
use Rattle.index.specs.Machine.{Sound}
use Rattle.index.specs.declared.Index.{Index}
use Rattle.index.proofs.Dressing.{tree-dressed, payloads-dressed}
use Rattle.index.proofs.Facts.{runs-out, rows_out}

module _ {K P : Type 0} {g : Ghosts K} (i : Index K P g) where
  pub shape_of : Shaped i.layout.tree
  shape_of = record { lists = i.few; smaller = i.smaller; shallow = i.shallow; narrow = i.narrow; entries = i.small }

  pub tree_of : key_tree (machine_of i).register ≡ i.layout.tree
  tree_of = tree-dressed i.layout.tree i.memory.payloads.now i.loaded

  module _ (order : K → K → Ordering) (known : i.layout.augmented ≡ augmented_lists order i.layout.tree) where
    pub laid_of : Laid order i.layout.tree i.table i.memory.keys.now i.memory.rows.now
    laid_of =
        let t = i.layout.tree in
        record {
          shaped = shape_of;
          tabled = record { lists = i.lists; runs = subst (λ (gs : List (List (Tagged K))). take i.table.len i.table.runs ≡ runs_of t gs) known (runs-out i.runs) };
          key_front = subst (λ (gs : List (List (Tagged K))). take (sum_by length gs) i.memory.keys.now ≡ keys_laid gs) known i.keyed;
          row_front = subst (λ (gs : List (List (Tagged K))). take (sum_by length gs + length t) i.memory.rows.now ≡ rows_laid gs) known (rows_out i.rowed);
        }

    pub sound-of : Sound order (machine_of i)
    sound-of =
        let t = i.layout.tree in
        let ps = i.memory.payloads.now in
        let l = laid_of in
        let e = sym tree_of in
        record {
          shaped = subst Shaped e shape_of;
          keys_used = subst (λ (u : KeyTree K). take (all_augmented order u) i.memory.keys.now ≡ keys_laid (augmented_lists order u)) e l.key_front;
          rows_used = subst (λ (u : KeyTree K). take (all_augmented order u + length u) i.memory.rows.now ≡ rows_laid (augmented_lists order u)) e l.row_front;
          payloads_used = ap (λ (u : KeyTree K). take (all_keys u) ps) tree_of ∙ sym (payloads-dressed t ps);
          space = space K order (key_tree (machine_of i).register);
        }
