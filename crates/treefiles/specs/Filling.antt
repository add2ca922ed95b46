-- What filling memory from a checked file asks and does.
use Rattle.std.specs.Prelude.{◌≡◌, ℕ, ◌+◌, ◌-◌, ◌^◌, ◌<◌, ◌≤◌, List, length, get_or, Ok, Err, Result, slice_index_or, slice_set}
use Rattle.faults.specs.Refusals.{fault}
use Rattle.faults.specs.declared.Fault.{Fault}
use Rattle.faults.specs.declared.Reason.TheVariants.{LoadMemoryShort}
use Rattle.orders.specs.declared.entry.Entry.{Entry}
use Rattle.shelves.specs.declared.rows.ListRow.{ListRow}
use Rattle.terms.specs.declared.key.Term.{Term}
use Rattle.terms.specs.declared.marks.Marks.{Marks}
use Rattle.treefiles.specs.Format.{TermList, all_entries}
use Rattle.treefiles.specs.Reader.{read}
use Rattle.treefiles.specs.declared.item.Item.{Item}
use Rattle.treefiles.specs.declared.item.Item.TheVariants.{List as ListItem, Entry as EntryItem, Closing as ClosingItem}
use Rattle.treefiles.specs.declared.load.Memory.{Memory}
use Rattle.treefiles.specs.declared.load.Memory.TheVariants.{Lists, Entries}
use Rattle.treefiles.specs.declared.loaded.Loaded.{Loaded}

-- the file holds a tree, for which there is room
pub record Room (file : List ℕ) (lists entries : ℕ) : Type 0 where
  pub tree : List TermList
  pub holds : read file ≡ Ok tree
  pub list_room : length tree ≤ lists
  pub entry_room : length (all_entries tree) ≤ entries

abbrev pub row : (parent count : ℕ) → ListRow
row parent count = record { parent = parent; count = count }

-- a row with one entry more
abbrev pub one_more : ListRow → ListRow
one_more r = row r.parent (r.count + 1)

-- there is a place for the item, which is counted in `upto`
abbrev pub CanStore : Item → Loaded → List ListRow → List (Entry Term Marks) → Type 0
CanStore (ListItem p) upto lists entries = (1 ≤ upto.lists) × (upto.lists ≤ length lists)
CanStore (EntryItem e) upto lists entries =
    (1 ≤ upto.lists) × (upto.lists ≤ length lists) × (1 ≤ upto.entries) × (upto.entries ≤ length entries)
    × ((get_or lists (upto.lists - 1) (row 0 0)).count + 1 < 2 ^ 64)
CanStore ClosingItem upto lists entries = Unit {0}

-- a list opens a row, an entry is counted in the latest row and has a place of its own
abbrev pub Stores : Item → Loaded → (lists lists' : List ListRow) (entries entries' : List (Entry Term Marks)) → Type 0
Stores (ListItem p) upto lists lists' entries entries' = (lists' ≡ slice_set lists (upto.lists - 1) (row p 0)) × (entries' ≡ entries)
Stores (EntryItem e) upto lists lists' entries entries' =
    (lists' ≡ slice_set lists (upto.lists - 1) (one_more (slice_index_or lists (upto.lists - 1) (row 0 0)))) × (entries' ≡ slice_set entries (upto.entries - 1) e)
Stores ClosingItem upto lists lists' entries entries' = (lists' ≡ lists) × (entries' ≡ entries)

-- the number by which a refusal names a memory
abbrev pub place_of : Memory → ℕ
place_of Lists = 1
place_of Entries = 2

-- there are places enough, or the refusal names the memory and how many are needed
abbrev pub Asks : Memory → (needed places : ℕ) → Result Unit Fault → Type 0
Asks m needed places (Ok u) = needed ≤ places
Asks m needed places (Err f) = (places < needed) × (f ≡ fault LoadMemoryShort (place_of m) needed)
