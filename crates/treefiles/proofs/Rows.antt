-- List rows as the items come. Assumes nothing.
use Rattle.std.proofs.Common.{◌≡◌, ℕ, zero, suc, ◌+◌, ◌≤◌, List, [], ◌∷◌, ◌++◌, map, length, get_or, set, refl, ap, ap₂, arith, length-append}
use Rattle.shelves.specs.declared.rows.ListRow.{ListRow}
use Rattle.treefiles.specs.Filling.{row, one_more}
use Rattle.treefiles.specs.Format.{TermEntry, TermList, all_entries}
use Rattle.treefiles.specs.Loading.{list_row}
use Rattle.treefiles.specs.Reader.{Item, a_list, an_entry, the_end, gathered, tree_of}
use Rattle.treefiles.proofs.Gathering.{entries_among, entries-gathered}

abbrev pub rows_of : List Item → List ListRow
rows_of is = map list_row (tree_of is)

-- a list opens a row,
list-first : (is : List Item) (p : ℕ) → (gathered (is ++ (a_list p ∷ []))).0 ≡ (gathered is).0
list-first [] p = refl
list-first (a_list q ∷ is) p = refl
list-first (an_entry e ∷ is) p = ap (λ (es : List TermEntry). e ∷ es) (list-first is p)
list-first (the_end ∷ is) p = list-first is p

pub rows-list : (is : List Item) (p : ℕ) → rows_of (is ++ (a_list p ∷ [])) ≡ rows_of is ++ (row p 0 ∷ [])
rows-list [] p = refl
rows-list (a_list q ∷ is) p = ap₂ (λ (es : List TermEntry) (rs : List ListRow). row q (length es) ∷ rs) (list-first is p) (rows-list is p)
rows-list (an_entry e ∷ is) p = rows-list is p
rows-list (the_end ∷ is) p = rows-list is p

-- an entry is counted in the latest row,
entry-alone : (is : List Item) (e : TermEntry) → length (rows_of is) ≡ 0
    → (rows_of (is ++ (an_entry e ∷ [])) ≡ rows_of is) × (length (gathered (is ++ (an_entry e ∷ []))).0 ≡ length (gathered is).0 + 1)
entry-alone [] e h = (refl, refl)
entry-alone (a_list q ∷ is) e h = absurd (omega arith)
entry-alone (an_entry f ∷ is) e h = let ih = entry-alone is e h in let n = ih.1 in (ih.0, omega arith)
entry-alone (the_end ∷ is) e h = entry-alone is e h

entry-later : (is : List Item) (e : TermEntry) (k : ℕ) → length (rows_of is) ≡ suc k → (gathered (is ++ (an_entry e ∷ []))).0 ≡ (gathered is).0
entry-later [] e k h = absurd (omega arith)
entry-later (a_list q ∷ is) e k h = refl
entry-later (an_entry f ∷ is) e k h = ap (λ (es : List TermEntry). f ∷ es) (entry-later is e k h)
entry-later (the_end ∷ is) e k h = entry-later is e k h

pub rows-entry : (is : List Item) (e : TermEntry) (k : ℕ) → length (rows_of is) ≡ suc k
    → rows_of (is ++ (an_entry e ∷ [])) ≡ set (rows_of is) k (one_more (get_or (rows_of is) k (row 0 0)))
rows-entry [] e k h = absurd (omega arith)
rows-entry (a_list q ∷ is) e zero h = let a = entry-alone is e (omega arith) in ap₂ (λ (n : ℕ) (rs : List ListRow). row q n ∷ rs) a.1 a.0
rows-entry (a_list q ∷ is) e (suc k) h =
    let n : length (rows_of is) ≡ suc k = omega arith in
    ap₂ (λ (es : List TermEntry) (rs : List ListRow). row q (length es) ∷ rs) (entry-later is e k n) (rows-entry is e k n)
rows-entry (an_entry f ∷ is) e k h = rows-entry is e k h
rows-entry (the_end ∷ is) e k h = rows-entry is e k h

-- and the end of the file leaves the rows as they are
gathered-end : (is : List Item) → gathered (is ++ (the_end ∷ [])) ≡ gathered is
gathered-end [] = refl
gathered-end (a_list p ∷ is) = ap (λ (g : List TermEntry × List TermList). ([], record { parent = p; entries = g.0 } ∷ g.1)) (gathered-end is)
gathered-end (an_entry e ∷ is) = ap (λ (g : List TermEntry × List TermList). (e ∷ g.0, g.1)) (gathered-end is)
gathered-end (the_end ∷ is) = gathered-end is

pub rows-end : (is : List Item) → rows_of (is ++ (the_end ∷ [])) ≡ rows_of is
rows-end is = ap (λ (g : List TermEntry × List TermList). map list_row g.1) (gathered-end is)

-- a row counts no more entries than there are
few-in : (ls : List TermList) (k : ℕ) → (get_or (map list_row ls) k (row 0 0)).count ≤ length (all_entries ls)
few-in [] k = omega arith
few-in (l ∷ ls) zero = let n = length-append l.entries (all_entries ls) in omega arith
few-in (l ∷ ls) (suc k) = let n = length-append l.entries (all_entries ls) in let ih = few-in ls k in omega arith

pub few-counted : (is : List Item) (k : ℕ) → (get_or (rows_of is) k (row 0 0)).count ≤ length (entries_among is)
few-counted is k =
    let few = few-in (tree_of is) k in
    let all = ap length (entries-gathered is) in
    let n = length-append (gathered is).0 (all_entries (tree_of is)) in
    omega arith
