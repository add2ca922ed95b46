-- What the parts of a loader do.
use Rattle.std.specs.Prelude.{◌≡◌, ℕ, ◌+◌, true, false, cond, List, length, drop, Some, None, Ok, Err, Option, Result}
use Rattle.std.specs.Option.{option_map}
use Rattle.faults.specs.Refusals.{fault}
use Rattle.faults.specs.declared.Fault.{Fault}
use Rattle.faults.specs.declared.Reason.TheVariants.{FieldLength, FileOpening}
use Rattle.treefiles.specs.Format.{opening}
use Rattle.treefiles.specs.Loading.{entry_read}
use Rattle.treefiles.specs.Reader.{Item, a_list, an_entry, the_end, Tag, suits, content, said, tag_of, next_item, stage_after, entries_in, size_of, begins}
use Rattle.treefiles.specs.declared.field.Field.{Field}
use Rattle.treefiles.specs.declared.item.Item.{Item as CodeItem}
use Rattle.treefiles.specs.declared.item.Item.TheVariants.{List as ListItem, Entry as EntryItem, Closing as ClosingItem}
use Rattle.treefiles.specs.declared.loaded.Loaded.{Loaded}
use Rattle.treefiles.specs.declared.loader.Loader.{Loader}
use Rattle.treefiles.specs.declared.stage.Stage.{Stage}
use Rattle.treefiles.specs.declared.stage.Stage.TheVariants.{Opening}

abbrev pub field_read : Field → ℕ × List ℕ
field_read f = (f.tag, f.body.now)

abbrev pub item_read : CodeItem → Item
item_read (ListItem p) = a_list p
item_read (EntryItem e) = an_entry (entry_read e)
item_read ClosingItem = the_end

abbrev pub items_read : Result CodeItem Fault → Result Item Fault
items_read (Ok i) = Ok (item_read i)
items_read (Err f) = Err f

-- what a body says of an allowed tag
abbrev pub sized : Stage → (count at : ℕ) → Tag → List ℕ → Result Item Fault
sized stage count at tag body = cond (suits tag (length body)) (content stage count at tag body) (Err (fault FieldLength at 0))

abbrev pub lists_in : Item → ℕ
lists_in (a_list p) = 1
lists_in (an_entry e) = 0
lists_in the_end = 0

-- the loader has moved over an item
pub record Moved (before after : Loader) (i : Item) : Type 0 where
  pub file : after.file ≡ before.file
  pub at : after.at ≡ before.at + size_of i
  pub stage : after.stage ≡ stage_after i
  pub lists : after.loaded.lists ≡ before.loaded.lists + lists_in i
  pub entries : after.loaded.entries ≡ before.loaded.entries + entries_in i

-- what comes of a field: what it says, and the loader then moves over it; a refusal leaves the loader as it was
abbrev pub Takes : (before after : Loader) → Result Item Fault → Type 0
Takes before after (Ok i) = Moved before after i
Takes before after (Err f) = after ≡ before

abbrev pub TakesField : (before after : Loader) (tag : ℕ) (body : List ℕ) → Result CodeItem Fault → Type 0
TakesField before after tag body r =
    (items_read r ≡ said before.stage before.loaded.entries before.at (tag_of tag) body) × Takes before after (items_read r)

abbrev pub next_read : Result (Option CodeItem) Fault → Result (Option Item) Fault
next_read (Ok o) = Ok (option_map item_read o)
next_read (Err f) = Err f

abbrev pub Moves : (before after : Loader) → Result (Option Item) Fault → Type 0
Moves before after (Ok None) = after ≡ before
Moves before after (Ok (Some i)) = Moved before after i
Moves before after (Err f) = after ≡ before

-- the next item of the file
abbrev pub Reads : (before after : Loader) → Result (Option CodeItem) Fault → Type 0
Reads before after r =
    (next_read r ≡ next_item before.stage before.loaded.entries before.at (drop before.at before.file.now)) × Moves before after (next_read r)

-- a loader behind the opening
pub record Begun (file : List ℕ) (l : Loader) : Type 0 where
  pub of : l.file.now ≡ file
  pub at : l.at ≡ 5
  pub stage : l.stage ≡ Opening
  pub lists : l.loaded.lists ≡ 0
  pub entries : l.loaded.entries ≡ 0

abbrev pub counts_of : Loader → Loaded
counts_of l = l.loaded

-- the answer for a file that opens right, and for another
abbrev pub Opens : List ℕ → Result Unit Fault → Type 0
Opens file (Ok u) = begins opening file ≡ true
Opens file (Err f) = (begins opening file ≡ false) × (f ≡ fault FileOpening 0 0)
