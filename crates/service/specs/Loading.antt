-- What loading a file into memory of its own answers.
use Rattle.std.specs.Prelude.{◌≡◌, ℕ, List, map, Ok, Err, Result}
use Rattle.orders.specs.declared.entry.Entry.{Entry}
use Rattle.shelves.specs.declared.rows.ListRow.{ListRow}
use Rattle.terms.specs.declared.key.Term.{Term}
use Rattle.terms.specs.declared.marks.Marks.{Marks}
use Rattle.treefiles.specs.Format.{TermList, all_entries, written, IsTree}
use Rattle.treefiles.specs.Loading.{checked, list_row, entry_read}
use Rattle.treefiles.specs.Reader.{read}
use Rattle.service.specs.Trees.{lists_of, entries_of}
use Rattle.service.specs.declared.refusal.Refusal.{Refusal}
use Rattle.service.specs.declared.refusal.Refusal.TheVariants.{Fault as ByFault, NoMemory}
use Rattle.service.specs.declared.tree.Tree.{Tree}

-- the file is that of a tree, and the lists and entries are this tree's
pub record FileOf (tree : List TermList) (file : List ℕ) (lists : List ListRow) (entries : List (Entry Term Marks)) : Type 0 where
  pub whole : file ≡ written tree
  pub is_tree : IsTree tree
  pub rows : lists ≡ map list_row tree
  pub terms : map entry_read entries ≡ all_entries tree

-- granted only for the file of a tree; a fault is that of a load into ample memory; whether there is memory enough is left open
abbrev pub TreeLoads : List ℕ → Result Tree Refusal → Type 0
TreeLoads file (Ok t) = (tree : List TermList) × FileOf tree file (lists_of t) (entries_of t)
TreeLoads file (Err (ByFault f)) = checked (read file) ≡ Err f
TreeLoads file (Err NoMemory) = Unit {0}
