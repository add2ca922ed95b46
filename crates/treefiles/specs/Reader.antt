-- The tree file format, by reading: the questions that are asked of a file, field by field, and which refusal
-- the first "no" is.
use Rattle.std.specs.Prelude.{ℕ, zero, suc, ◌+◌, ◌*◌, Bool, true, false, cond, List, [], ◌∷◌, ◌++◌, length, take, drop, Some, None, Ok, Err, Option, Result, ◌==◌, nat_le, slice_index}
use Rattle.faults.specs.Refusals.{fault, with_second}
use Rattle.faults.specs.declared.Fault.{Fault}
use Rattle.faults.specs.declared.Reason.TheVariants.{FileOpening, FieldIncomplete, FieldNotAllowed, FieldLength, FieldNumber}
use Rattle.terms.specs.Keys.{key_fault}
use Rattle.treefiles.specs.Format.{TermEntry, TermList, list_tag, entry_tag, closing_tag, opening}
use Rattle.treefiles.specs.declared.stage.Stage.{Stage}
use Rattle.treefiles.specs.declared.stage.Stage.TheVariants.{Opening, List as ListRead, Entry as EntryRead, Closing}

-- what a field says: a list with its parent, an entry of the latest list, or the end of the file
pub data Item : Type 0 where
  a_list : ℕ → Item
  an_entry : TermEntry → Item
  the_end : Item

pub data Tag : Type 0 where
  lists : Tag
  entries : Tag
  closes : Tag
  other : Tag

abbrev pub tag_of : ℕ → Tag
tag_of t = cond (t == list_tag) lists (cond (t == entry_tag) entries (cond (t == closing_tag) closes other))

-- a number in four bytes, the high byte first
abbrev pub number : List ℕ → ℕ
number bytes = slice_index bytes 0 * 16777216 + slice_index bytes 1 * 65536 + slice_index bytes 2 * 256 + slice_index bytes 3

-- the tag and the body of the field that the bytes begin with, nothing where they do not hold it whole
abbrev pub first_field : List ℕ → Option (ℕ × List ℕ)
first_field [] = None
first_field (t ∷ []) = None
first_field (t ∷ (h ∷ [])) = None
first_field (t ∷ (h ∷ (l ∷ rest))) = cond (nat_le (h * 256 + l) (length rest)) (Some (t, take (h * 256 + l) rest)) None

-- may the tag come after what was read last
abbrev pub allowed : Stage → Tag → Bool
allowed Opening lists = true
allowed Opening entries = false
allowed Opening closes = false
allowed Opening other = false
allowed ListRead lists = true
allowed ListRead entries = true
allowed ListRead closes = true
allowed ListRead other = false
allowed EntryRead lists = true
allowed EntryRead entries = true
allowed EntryRead closes = true
allowed EntryRead other = false
allowed Closing t = false

-- does the length of the body suit the tag: 1 for a list, 5 to 36 for an entry, 4 for the closing field
abbrev pub suits : Tag → ℕ → Bool
suits lists n = n == 1
suits entries n = cond (nat_le 5 n) (nat_le n 36) false
suits closes n = n == 4
suits other n = false

-- is the parent of the first list 0
abbrev pub root_right : Stage → ℕ → Bool
root_right Opening parent = parent == 0
root_right ListRead parent = true
root_right EntryRead parent = true
root_right Closing parent = true

-- is the term a key; a key fault names the field's offset second
abbrev pub keyed : ℕ → TermEntry → Option Fault → Result Item Fault
keyed at e None = Ok (an_entry e)
keyed at e (Some f) = Err (with_second f at)

-- the entry in the body of a field
abbrev pub entry_in : List ℕ → TermEntry
entry_in body = record { marks = number body; text = drop 4 body }

-- what the body says, where its length suits the tag; `count` entries were read before it
abbrev pub content : Stage → (count at : ℕ) → Tag → List ℕ → Result Item Fault
content stage count at lists body = cond (root_right stage (slice_index body 0)) (Ok (a_list (slice_index body 0))) (Err (fault FieldNumber at 0))
content stage count at entries body = keyed at (entry_in body) (key_fault (drop 4 body))
content stage count at closes body = cond (number body == count) (Ok the_end) (Err (fault FieldNumber at 0))
content stage count at other body = Err (fault FieldNotAllowed at 0)

-- what a field at the offset `at` says, or its refusal
abbrev pub said : Stage → (count at : ℕ) → Tag → List ℕ → Result Item Fault
said stage count at tag body =
    cond (allowed stage tag)
    (cond (suits tag (length body)) (content stage count at tag body) (Err (fault FieldLength at 0)))
    (Err (fault FieldNotAllowed at 0))

abbrev pub stage_after : Item → Stage
stage_after (a_list p) = ListRead
stage_after (an_entry e) = EntryRead
stage_after the_end = Closing

abbrev pub entries_in : Item → ℕ
entries_in (a_list p) = 0
entries_in (an_entry e) = 1
entries_in the_end = 0

-- how many bytes its field has
abbrev pub size_of : Item → ℕ
size_of (a_list p) = 4
size_of (an_entry e) = 7 + length e.text
size_of the_end = 7

-- the file has ended: its closing field was read, and no byte is left
abbrev pub ended : Stage → List ℕ → Bool
ended Opening bytes = false
ended ListRead bytes = false
ended EntryRead bytes = false
ended Closing [] = true
ended Closing (b ∷ bs) = false

abbrev pub some_item : Result Item Fault → Result (Option Item) Fault
some_item (Ok i) = Ok (Some i)
some_item (Err f) = Err f

abbrev pub said_of : Stage → (count at : ℕ) → Option (ℕ × List ℕ) → Result (Option Item) Fault
said_of stage count at None = Err (fault FieldIncomplete at 0)
said_of stage count at (Some f) = some_item (said stage count at (tag_of f.0) f.1)

-- the next field of the bytes, which begin at the offset `at`: what it says, nothing at the end, or the refusal
abbrev pub next_item : Stage → (count at : ℕ) → List ℕ → Result (Option Item) Fault
next_item stage count at bytes = cond (ended stage bytes) (Ok None) (said_of stage count at (first_field bytes))

abbrev pub after : List Item → Result (List Item) Fault → Result (List Item) Fault
after front (Ok is) = Ok (front ++ is)
after front (Err f) = Err f

-- on from an item, unless the bytes have ended or are refused
abbrev pub follow : (Item → Result (List Item) Fault) → Result (Option Item) Fault → Result (List Item) Fault
follow rest (Err f) = Err f
follow rest (Ok None) = Ok []
follow rest (Ok (Some i)) = after (i ∷ []) (rest i)

-- what the fields of the bytes say, one after the other; `fields` bounds their number
abbrev pub items : (fields : ℕ) → Stage → (count at : ℕ) → List ℕ → Result (List Item) Fault
items zero stage count at bytes = Err (fault FieldIncomplete at 0)
items (suc k) stage count at bytes =
    follow (λ i. items k (stage_after i) (count + entries_in i) (at + size_of i) (drop (size_of i) bytes)) (next_item stage count at bytes)

-- the entries before the next list, and the lists
abbrev pub gathered : List Item → List TermEntry × List TermList
gathered [] = ([], [])
gathered (a_list p ∷ is) = let rest = gathered is in ([], record { parent = p; entries = rest.0 } ∷ rest.1)
gathered (an_entry e ∷ is) = let rest = gathered is in (e ∷ rest.0, rest.1)
gathered (the_end ∷ is) = gathered is

abbrev pub tree_of : List Item → List TermList
tree_of is = (gathered is).1

abbrev pub begins : List ℕ → List ℕ → Bool
begins [] bytes = true
begins (x ∷ xs) [] = false
begins (x ∷ xs) (b ∷ bytes) = cond (x == b) (begins xs bytes) false

abbrev pub tree_read : Result (List Item) Fault → Result (List TermList) Fault
tree_read (Ok is) = Ok (tree_of is)
tree_read (Err f) = Err f

-- the fields behind the opening; each has at least one byte, which bounds their number
abbrev pub file_items : List ℕ → Result (List Item) Fault
file_items file = cond (begins opening file) (items (suc (length file)) Opening 0 5 (drop 5 file)) (Err (fault FileOpening 0 0))

-- the tree that a file holds, or its refusal
abbrev pub read : List ℕ → Result (List TermList) Fault
read file = tree_read (file_items file)
