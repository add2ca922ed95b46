-- What loading a file answers, and what list and entry memory hold after it.
use Rattle.std.specs.Prelude.{◌≡◌, ℕ, ◌≤◌, true, false, cond, List, ◌++◌, map, length, take, drop, is_ok, Ok, Err, Result, nat_le}
use Rattle.faults.specs.Refusals.{fault, number_of}
use Rattle.faults.specs.declared.Fault.{Fault}
use Rattle.faults.specs.declared.Reason.TheVariants.{LoadMemoryShort}
use Rattle.orders.specs.declared.entry.Entry.{Entry}
use Rattle.shelves.specs.declared.rows.ListRow.{ListRow}
use Rattle.terms.specs.Keys.{text_of}
use Rattle.terms.specs.declared.key.Term.{Term}
use Rattle.terms.specs.declared.marks.Marks.{Marks}
use Rattle.treefiles.specs.Format.{TermEntry, TermList, all_entries, written, IsTree}
use Rattle.treefiles.specs.Reader.{read}
use Rattle.treefiles.specs.declared.loaded.Loaded.{Loaded}

-- how many lists and entries a tree fills
abbrev pub sizes : List TermList → Loaded
sizes tree = record { lists = length tree; entries = length (all_entries tree) }

-- has list memory, then entry memory, places enough
abbrev pub fitted : (lists entries : ℕ) → List TermList → Result Loaded Fault
fitted lists entries tree =
    cond (nat_le (length tree) lists)
    (cond (nat_le (length (all_entries tree)) entries) (Ok (sizes tree)) (Err (fault LoadMemoryShort 2 (length (all_entries tree)))))
    (Err (fault LoadMemoryShort 1 (length tree)))

-- the answer of a load into memories of so many places
abbrev pub answer : (lists entries : ℕ) → Result (List TermList) Fault → Result Loaded Fault
answer lists entries (Ok tree) = fitted lists entries tree
answer lists entries (Err f) = Err f

-- the answer of a load into ample memory
abbrev pub checked : Result (List TermList) Fault → Result Loaded Fault
checked (Ok tree) = Ok (sizes tree)
checked (Err f) = Err f

-- the number of its refusal, or 0
abbrev pub refusal : Result (List TermList) Fault → ℕ
refusal (Ok tree) = 0
refusal (Err f) = number_of f.reason

-- the rows of a list and of an entry
abbrev pub list_row : TermList → ListRow
list_row l = record { parent = l.parent; count = length l.entries }

abbrev pub entry_read : Entry Term Marks → TermEntry
entry_read e = record { marks = e.payload.bits; text = text_of e.key }

-- the memories hold the tree from their start, and behind it what they held before
pub record Holds (tree : List TermList) (lists lists' : List ListRow) (entries entries' : List (Entry Term Marks)) : Type 0 where
  pub rows : lists' ≡ map list_row tree ++ drop (length tree) lists
  pub terms : map entry_read (take (length (all_entries tree)) entries') ≡ all_entries tree
  pub behind : drop (length (all_entries tree)) entries' ≡ drop (length (all_entries tree)) entries

-- a file that loads: it is the file of a tree, for which there is room, and the memories then hold that tree
pub record Granted (file : List ℕ) (lists lists' : List ListRow) (entries entries' : List (Entry Term Marks)) (tree : List TermList) : Type 0 where
  pub whole : file ≡ written tree
  pub is_tree : IsTree tree
  pub list_room : length tree ≤ length lists
  pub entry_room : length (all_entries tree) ≤ length entries
  pub holds : Holds tree lists lists' entries entries'

-- what a load promises, for every file and every memory
pub record Loads (file : List ℕ) (lists lists' : List ListRow) (entries entries' : List (Entry Term Marks)) (r : Result Loaded Fault) : Type 0 where
  -- which numbers, or which refusal
  pub answers : r ≡ answer (length lists) (length entries) (read file)
  -- it is granted only for the file of a tree, which memory then holds,
  pub only : is_ok r ≡ true → (tree : List TermList) × Granted file lists lists' entries entries' tree
  -- and for each such file with room
  pub every : (tree : List TermList) → file ≡ written tree → IsTree tree → length tree ≤ length lists
      → length (all_entries tree) ≤ length entries → r ≡ Ok (sizes tree)
  -- a refusal leaves both memories as they were
  pub kept : is_ok r ≡ false → (lists' ≡ lists) × (entries' ≡ entries)
