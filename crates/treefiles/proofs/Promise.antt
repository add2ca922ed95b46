-- What a load promises, from what its parts did. Assumes nothing.
use Rattle.std.proofs.Common.{◌≡◌, ℕ, ◌<◌, ◌≤◌, List, length, Ok, Err, Result, sym, refl, ap, ◌∙◌, subst, arith}
use Rattle.std.proofs.lemmas.Bool.{le-leb, lt-leb}
use Rattle.faults.specs.Refusals.{fault}
use Rattle.faults.specs.declared.Fault.{Fault}
use Rattle.faults.specs.declared.Reason.TheVariants.{LoadMemoryShort}
use Rattle.orders.specs.declared.entry.Entry.{Entry}
use Rattle.shelves.specs.declared.rows.ListRow.{ListRow}
use Rattle.terms.specs.declared.key.Term.{Term}
use Rattle.terms.specs.declared.marks.Marks.{Marks}
use Rattle.treefiles.specs.Filling.{Room}
use Rattle.treefiles.specs.Format.{TermList, all_entries, written, IsTree}
use Rattle.treefiles.specs.Loading.{sizes, fitted, answer, checked, Holds, Loads}
use Rattle.treefiles.specs.Reader.{read}
use Rattle.treefiles.specs.declared.loaded.Loaded.{Loaded}
use Rattle.treefiles.proofs.Closing.{Bytes}
use Rattle.treefiles.proofs.Writing.{read-is-written, written-is-read}

-- the tree that a granted check has read
checked-tree : (r : Result (List TermList) Fault) (n : Loaded) → Ok n ≡ checked r → (tree : List TermList) × (r ≡ Ok tree) × (n ≡ sizes tree)
checked-tree (Ok tree) n e = (tree, refl, cc)
checked-tree (Err f) n e = absurd (cc)

checked-fault : (r : Result (List TermList) Fault) (f : Fault) → Err f ≡ checked r → r ≡ Err f
checked-fault (Ok tree) f e = absurd (cc)
checked-fault (Err g) f e = cc

module _ (lists entries : ℕ) (tree : List TermList) where
  fits : length tree ≤ lists → length (all_entries tree) ≤ entries → fitted lists entries tree ≡ Ok (sizes tree)
  fits a b = rw (le-leb (length tree) lists a, le-leb (length (all_entries tree)) entries b)

  few-lists : lists < length tree → fitted lists entries tree ≡ Err (fault LoadMemoryShort 1 (length tree))
  few-lists a = rw (lt-leb (length tree) lists a)

  few-entries : length tree ≤ lists → entries < length (all_entries tree) → fitted lists entries tree ≡ Err (fault LoadMemoryShort 2 (length (all_entries tree)))
  few-entries a b = rw (le-leb (length tree) lists a, lt-leb (length (all_entries tree)) entries b)

module _ (file : List ℕ) (lists : List ListRow) (entries : List (Entry Term Marks)) where
  abbrev answered : Result Loaded Fault
  answered = answer (length lists) (length entries) (read file)

  each : (r : Result Loaded Fault) → r ≡ answered → (tree : List TermList) → file ≡ written tree → IsTree tree
      → length tree ≤ length lists → length (all_entries tree) ≤ length entries → r ≡ Ok (sizes tree)
  each r e tree w t a b =
      e ∙ ap (answer (length lists) (length entries)) (ap read w ∙ written-is-read tree t) ∙ fits (length lists) (length entries) tree a b

  refused : (f : Fault) → Err f ≡ answered → (r : Result Loaded Fault) → r ≡ Err f → Loads file lists lists entries entries r
  refused f e r g = subst (Loads file lists lists entries entries) (sym g) (record {
    answers = e;
    only = λ o. absurd (cc);
    every = each (Err f) e;
    kept = λ _. (refl, refl);
  })

  -- the check refuses
  pub check-refuses : (f : Fault) → Err f ≡ checked (read file) → (r : Result Loaded Fault) → r ≡ Err f → Loads file lists lists entries entries r
  check-refuses f e = refused f (sym (ap (answer (length lists) (length entries)) (checked-fault (read file) f e)))

  module _ (n : Loaded) (e : Ok n ≡ checked (read file)) where
    abbrev found : (tree : List TermList) × (read file ≡ Ok tree) × (n ≡ sizes tree)
    found = checked-tree (read file) n e

    abbrev lists-found : n.lists ≡ length found.0
    lists-found = ap (λ (l : Loaded). l.lists) found.2

    abbrev entries-found : n.entries ≡ length (all_entries found.0)
    entries-found = ap (λ (l : Loaded). l.entries) found.2

    -- list memory is short
    pub lists-refuse : length lists < n.lists → (r : Result Loaded Fault) → r ≡ Err (fault LoadMemoryShort 1 n.lists) → Loads file lists lists entries entries r
    lists-refuse s =
        let k = lists-found in
        refused _ (ap (λ (m : ℕ). Err (fault LoadMemoryShort 1 m)) k ∙ sym (ap (answer (length lists) (length entries)) found.1 ∙ few-lists (length lists) (length entries) found.0 (omega arith)))

    -- entry memory is short
    pub entries-refuse : n.lists ≤ length lists → length entries < n.entries → (r : Result Loaded Fault) → r ≡ Err (fault LoadMemoryShort 2 n.entries) → Loads file lists lists entries entries r
    entries-refuse a s =
        let k = lists-found in
        let m = entries-found in
        refused _ (ap (λ (m : ℕ). Err (fault LoadMemoryShort 2 m)) m ∙ sym (ap (answer (length lists) (length entries)) found.1 ∙ few-entries (length lists) (length entries) found.0 (omega arith) (omega arith)))

    pub room-found : n.lists ≤ length lists → n.entries ≤ length entries → Room file (length lists) (length entries)
    room-found a b =
        let k = lists-found in
        let m = entries-found in
        record { tree = found.0; holds = found.1; list_room = omega arith; entry_room = omega arith }

    -- the memories are filled
    pub fills : Bytes file → (a : n.lists ≤ length lists) (b : n.entries ≤ length entries) → (lists' filled : List ListRow) (entries' filled_entries : List (Entry Term Marks))
        → lists' ≡ filled → entries' ≡ filled_entries → ((room : Room file (length lists) (length entries)) → Holds room.tree lists filled entries filled_entries) → Loads file lists lists' entries entries' (Ok n)
    unfolding room-found
    fills bytes a b lists' filled entries' filled_entries s t g =
        let room = room-found a b in
        let h : Holds room.tree lists lists' entries entries' = rw (s, t) (g room) in
        let w = read-is-written file room.tree bytes room.holds in
        let same : Ok n ≡ answered =
        ap (λ (l : Loaded). Ok l) found.2 ∙ sym (ap (answer (length lists) (length entries)) found.1 ∙ fits (length lists) (length entries) found.0 room.list_room room.entry_room) in
        record {
          answers = same;
          only = λ _. (room.tree, record { whole = w.0; is_tree = w.1; list_room = room.list_room; entry_room = room.entry_room; holds = h });
          every = each (Ok n) same;
          kept = λ o. absurd (cc);
        }
