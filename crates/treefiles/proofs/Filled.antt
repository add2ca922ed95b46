-- Memory as it is filled, item by item. Assumes nothing.
use Rattle.std.proofs.Common.{◌≡◌, ℕ, suc, ◌-◌, ◌^◌, ◌<◌, ◌≤◌, Bool, true, false, cond, eqb, List, [], ◌∷◌, ◌++◌, map, length, get_or, take, drop, set, Some, Ok, Err, Option, Result, sym, refl, ap, ◌∙◌, subst, ap₂, append_assoc, append-nil, arith, length-append, length-drop, drop-cons}
use Rattle.std.proofs.lemmas.List.{length-map, map-append, set-append_left, set-append_right, get_or_append_left}
use lib.Seq.{take-append_seam, drop-append_seam}
use Rattle.faults.specs.declared.Fault.{Fault}
use Rattle.orders.specs.declared.entry.Entry.{Entry}
use Rattle.shelves.specs.declared.rows.ListRow.{ListRow}
use Rattle.terms.specs.declared.key.Term.{Term}
use Rattle.terms.specs.declared.marks.Marks.{Marks}
use Rattle.treefiles.specs.Filling.{Room, CanStore, Stores, row, one_more}
use Rattle.treefiles.specs.Format.{TermEntry, TermList, all_entries, opening}
use Rattle.treefiles.specs.Loading.{Holds, entry_read, list_row}
use Rattle.treefiles.specs.Reader.{Item, a_list, an_entry, the_end, begins, file_items, after, tree_of, tree_read, read}
use Rattle.treefiles.specs.Steps.{Moved, Begun, Reads, item_read, counts_of}
use Rattle.treefiles.specs.declared.item.Item.{Item as CodeItem}
use Rattle.treefiles.specs.declared.item.Item.TheVariants.{List as ListItem, Entry as EntryItem, Closing as ClosingItem}
use Rattle.treefiles.specs.declared.loaded.Loaded.{Loaded}
use Rattle.treefiles.specs.declared.loader.Loader.{Loader}
use Rattle.treefiles.proofs.Closing.{Closes, first}
use Rattle.treefiles.proofs.Gathering.{lists_among, entry_of, entries_among, lists-among-append, entries-among-append, lists-gathered, told}
use Rattle.treefiles.proofs.Rows.{rows_of, rows-list, rows-entry, rows-end, few-counted}
use Rattle.treefiles.proofs.Runs.{Run, begun, begun-done, goes_on, done-one-more, file-closed}

-- a write behind the front
at-end : {X : Type 0} (front xs : List X) (n : ℕ) (x : X) → length front ≡ n → n < length xs → set (front ++ drop n xs) n x ≡ (front ++ (x ∷ [])) ++ drop (suc n) xs
at-end {X = X} front xs n x e h =
    let none : n - n ≡ 0 = omega arith in
    set-append_right front (drop n xs) n n x e (omega arith)
    ∙ ap₂ (λ (k : ℕ) (ys : List X). front ++ set ys k x) none (drop-cons xs n x h)
    ∙ sym (append_assoc front (x ∷ []) (drop (suc n) xs))

-- the memories hold the items that were read, and behind them what they held before
pub record Fills (file : List ℕ) (l : Loader) (lists lists' : List ListRow) (entries entries' : List (Entry Term Marks)) : Type 0 where
  pub run : Run file l
  pub rows : lists' ≡ rows_of run.done ++ drop l.loaded.lists lists
  pub front : List (Entry Term Marks)
  pub terms : map entry_read front ≡ entries_among run.done
  pub held : entries' ≡ front ++ drop l.loaded.entries entries

-- the items of a file that holds a tree
pub tree-items : (file : List ℕ) (tree : List TermList) → read file ≡ Ok tree → (all : List Item) × (file_items file ≡ Ok all) × (tree_of all ≡ tree)
tree-items file tree e = go (file_items file) refl e
  where
    go : (r : Result (List Item) Fault) → file_items file ≡ r → tree_read r ≡ Ok tree → (all : List Item) × (file_items file ≡ Ok all) × (tree_of all ≡ tree)
    go (Ok all) h f = (all, h, cc)
    go (Err g) h f = absurd (cc)

-- what was read is the front of all items
rest-items : (done all : List Item) (r : Result (List Item) Fault) → Ok all ≡ after done r → (rest : List Item) × (all ≡ done ++ rest)
rest-items done all (Ok rest) e = (rest, cc)
rest-items done all (Err f) e = absurd (cc)

first-is-list : (done : List Item) (e : TermEntry) (rest : List Item) → Closes first (done ++ (an_entry e ∷ rest)) → 1 ≤ lists_among done
first-is-list [] e rest c = absurd c.0
first-is-list (a_list p ∷ done) e rest c = omega arith
first-is-list (an_entry f ∷ done) e rest c = absurd c.0
first-is-list (the_end ∷ done) e rest c = absurd c.0

module _ (file : List ℕ) (nl ne : ℕ) (room : Room file nl ne) where
  abbrev found : (all : List Item) × (file_items file ≡ Ok all) × (tree_of all ≡ room.tree)
  found = tree-items file room.tree room.holds

  abbrev all : List Item
  all = found.0

  closes-all : Closes first all
  closes-all = (file-closed file all found.1).1.closed

  module _ (l : Loader) (run : Run file l) where
    front-of-all : (rest : List Item) × (all ≡ run.done ++ rest)
    front-of-all = rest-items run.done all _ (sym found.1 ∙ run.same)

    pub few-lists : l.loaded.lists ≤ nl
    few-lists =
        let f = front-of-all in
        let a = ap lists_among f.1 ∙ lists-among-append run.done f.0 in
        let b = sym (lists-gathered all) ∙ ap length found.2 in
        let c = room.list_room in
        let d = run.lists in
        omega (arith, a, b)

    pub few-entries : l.loaded.entries ≤ ne
    few-entries =
        let f = front-of-all in
        let a = ap length (ap entries_among f.1 ∙ entries-among-append run.done f.0) ∙ length-append (entries_among run.done) (entries_among f.0) in
        let b = ap length (told all closes-all).terms ∙ ap (λ (t : List TermList). length (all_entries t)) found.2 in
        let c = room.entry_room in
        let d = run.entries in
        omega (arith, a, b)

  -- an entry comes only behind a list
  pub some-list : (l : Loader) (done : List Item) (e : TermEntry) (run : Run file l) → run.done ≡ done ++ (an_entry e ∷ []) → 1 ≤ lists_among done
  some-list l done e run h =
      let f = front-of-all l run in
      let same : all ≡ done ++ (an_entry e ∷ f.0) = f.1 ∙ ap (λ (is : List Item). is ++ f.0) h ∙ append_assoc done (an_entry e ∷ []) f.0 in
      first-is-list done e f.0 (subst (Closes first) same closes-all)

module _ (file : List ℕ) (l : Loader) (lists lists' : List ListRow) (entries entries' : List (Entry Term Marks)) (f : Fills file l lists lists' entries entries')
    (small : length file < 2 ^ 64) (room : Room file (length lists) (length entries)) (m : Loader) where
  abbrev rows : List ListRow
  rows = rows_of f.run.done

  rows-long : length rows ≡ l.loaded.lists
  rows-long = length-map (tree_of f.run.done) list_row ∙ lists-gathered f.run.done ∙ sym f.run.lists

  front-long : length f.front ≡ l.loaded.entries
  front-long = sym (length-map f.front entry_read) ∙ ap length f.terms ∙ sym f.run.entries

  -- the places are as many as before
  same-lists : l.loaded.lists ≤ length lists → length lists' ≡ length lists
  same-lists h =
      let r = rows-long in
      let a = ap length f.rows ∙ length-append rows (drop l.loaded.lists lists) in
      let d = length-drop l.loaded.lists lists in
      omega arith

  same-entries : l.loaded.entries ≤ length entries → length entries' ≡ length entries
  same-entries h =
      let r = front-long in
      let a = ap length f.held ∙ length-append f.front (drop l.loaded.entries entries) in
      let d = length-drop l.loaded.entries entries in
      omega arith

  lists-fit : Run file m → m.loaded.lists ≤ length lists
  lists-fit = few-lists file (length lists) (length entries) room m

  entries-fit : Run file m → m.loaded.entries ≤ length entries
  entries-fit = few-entries file (length lists) (length entries) room m

  more_terms : (done : List Item) (i : Item) → done ≡ f.run.done ++ (i ∷ []) → entries_among done ≡ entries_among f.run.done ++ entry_of i
  more_terms done i d =
      ap entries_among d ∙ entries-among-append f.run.done (i ∷ [])
      ∙ ap (λ (es : List TermEntry). entries_among f.run.done ++ es) (append-nil (entry_of i))

  can_store-at : (i : CodeItem) (next : Run file m) → next.done ≡ f.run.done ++ (item_read i ∷ []) → Moved l m (item_read i) → CanStore i (counts_of m) lists' entries'
  can_store-at (ListItem p) next d v =
      let a = v.lists in
      let fit = lists-fit next in
      let n = same-lists (omega arith) in
      (omega arith, omega arith)
  can_store-at (EntryItem e) next d v =
      let a = v.lists in
      let b = v.entries in
      let fit = lists-fit next in
      let fit_e = entries-fit next in
      let n = same-lists (omega arith) in
      let n_e = same-entries (omega arith) in
      let one = some-list file (length lists) (length entries) room m f.run.done (entry_read e) next d in
      let c = f.run.lists in
      let k = m.loaded.lists - 1 in
      let long = rows-long in
      let last : length rows ≡ suc k = omega arith in
      let few = few-counted f.run.done k in
      let count = ap (λ (r : ListRow). r.count) (ap (λ (rs : List ListRow). get_or rs k (row 0 0)) f.rows ∙ get_or_append_left rows (drop l.loaded.lists lists) (row 0 0) k (omega arith)) in
      let w = l.few in
      let within : l.at ≤ length file = subst (λ (g : List ℕ). l.at ≤ length g) f.run.of l.within in
      let t = f.run.entries in
      (omega arith, omega arith, omega arith, omega arith, omega arith)
  can_store-at ClosingItem next d v = tt

  stored-at : (i : CodeItem) (next : Run file m) → next.done ≡ f.run.done ++ (item_read i ∷ []) → Moved l m (item_read i)
      → (lists'' : List ListRow) (entries'' : List (Entry Term Marks)) → Stores i (counts_of m) lists' lists'' entries' entries'' → Fills file m lists lists'' entries entries''
  stored-at (ListItem p) next d v lists'' entries'' t =
      let a = v.lists in
      let b = v.entries in
      let fit = lists-fit next in
      let up : m.loaded.lists ≡ suc l.loaded.lists = omega arith in
      let at : m.loaded.lists - 1 ≡ l.loaded.lists = omega arith in
      let same : l.loaded.entries ≡ m.loaded.entries = omega arith in
      record {
        run = next;
        rows =
            t.0 ∙ ap₂ (λ (rs : List ListRow) (k : ℕ). set rs k (row p 0)) f.rows at
            ∙ at-end rows lists l.loaded.lists (row p 0) rows-long (omega arith)
            ∙ ap₂ (λ (rs : List ListRow) (k : ℕ). rs ++ drop k lists) (sym (ap rows_of d ∙ rows-list f.run.done p)) (sym up);
        front = f.front;
        terms = f.terms ∙ sym (more_terms next.done (a_list p) d ∙ append-nil _);
        held = t.1 ∙ f.held ∙ ap (λ (k : ℕ). f.front ++ drop k entries) same;
      }
  stored-at (EntryItem e) next d v lists'' entries'' t =
      let a = v.lists in
      let b = v.entries in
      let fit = entries-fit next in
      let one = some-list file (length lists) (length entries) room m f.run.done (entry_read e) next d in
      let c = f.run.lists in
      let long = rows-long in
      let k = m.loaded.lists - 1 in
      let same : l.loaded.lists ≡ m.loaded.lists = omega arith in
      let last : length rows ≡ suc k = omega arith in
      let up : m.loaded.entries ≡ suc l.loaded.entries = omega arith in
      let at : m.loaded.entries - 1 ≡ l.loaded.entries = omega arith in
      let behind = drop l.loaded.lists lists in
      record {
        run = next;
        rows =
            t.0 ∙ ap (λ (rs : List ListRow). set rs k (one_more (get_or rs k (row 0 0)))) f.rows
            ∙ set-append_left rows behind k (one_more (get_or (rows ++ behind) k (row 0 0))) (omega arith)
            ∙ ap (λ (r : ListRow). set rows k (one_more r) ++ behind) (get_or_append_left rows behind (row 0 0) k (omega arith))
            ∙ ap₂ (λ (rs : List ListRow) (n : ℕ). rs ++ drop n lists) (sym (ap rows_of d ∙ rows-entry f.run.done (entry_read e) k last)) same;
        front = f.front ++ (e ∷ []);
        terms = map-append entry_read f.front (e ∷ []) ∙ ap (λ (es : List TermEntry). es ++ (entry_read e ∷ [])) f.terms ∙ sym (more_terms next.done (an_entry (entry_read e)) d);
        held =
            t.1 ∙ ap₂ (λ (es : List (Entry Term Marks)) (n : ℕ). set es n e) f.held at
            ∙ at-end f.front entries l.loaded.entries e front-long (omega arith)
            ∙ ap (λ (n : ℕ). (f.front ++ (e ∷ [])) ++ drop n entries) (sym up);
      }
  stored-at ClosingItem next d v lists'' entries'' t =
      let a = v.lists in
      let b = v.entries in
      let same : l.loaded.lists ≡ m.loaded.lists = omega arith in
      let same_e : l.loaded.entries ≡ m.loaded.entries = omega arith in
      record {
        run = next;
        rows = t.0 ∙ f.rows ∙ ap₂ (λ (rs : List ListRow) (k : ℕ). rs ++ drop k lists) (sym (ap rows_of d ∙ rows-end f.run.done)) same;
        front = f.front;
        terms = f.terms ∙ sym (more_terms next.done the_end d ∙ append-nil _);
        held = t.1 ∙ f.held ∙ ap (λ (k : ℕ). f.front ++ drop k entries) same_e;
      }

  -- the same by what a call of `next` and the counts behind it say
  module _ (r : Result (Option CodeItem) Fault) (i : CodeItem) (e : r ≡ Ok (Some i)) (h : Reads l m r) (n : Loaded) (count : n ≡ counts_of m) where
    reads : Reads l m (Ok (Some i))
    reads = subst (Reads l m) e h

    pub can_store : CanStore i n lists' entries'
    can_store =
        subst (λ (c : Loaded). CanStore i c lists' entries') (sym count)
        (can_store-at i (goes_on file l f.run m _ i refl reads) (done-one-more file l f.run m i reads) reads.1)

    pub stored : (lists'' : List ListRow) (entries'' : List (Entry Term Marks)) → Stores i n lists' lists'' entries' entries'' → Fills file m lists lists'' entries entries''
    stored lists'' entries'' s =
        stored-at i (goes_on file l f.run m _ i refl reads) (done-one-more file l f.run m i reads) reads.1 lists'' entries''
        (subst (λ (c : Loaded). Stores i c lists' lists'' entries' entries'') count s)

begins-long : (xs bs : List ℕ) → begins xs bs ≡ true → length xs ≤ length bs
begins-long [] bs e = omega arith
begins-long (x ∷ xs) [] e = absurd (cc)
begins-long (x ∷ xs) (b ∷ bs) e = let ih = begins-long xs bs (go (eqb x b) e) in omega arith
  where
    go : (t : Bool) → cond t (begins xs bs) false ≡ true → begins xs bs ≡ true
    go true h = h
    go false h = absurd (cc)

module _ (file : List ℕ) (nl ne : ℕ) (room : Room file nl ne) where
  pub room-opens : begins opening file ≡ true
  room-opens = (file-closed file (all file nl ne room) (found file nl ne room).1).0

  pub room-long : 5 ≤ length file
  room-long = begins-long opening file room-opens

  pub not-refused : (f : Fault) → file_items file ≡ Err f → ⊥
  not-refused f e = let z = (found file nl ne room).1 in cc

pub none_yet : (file : List ℕ) (l : Loader) (lists : List ListRow) (entries : List (Entry Term Marks)) → begins opening file ≡ true → Begun file l → Fills file l lists lists entries entries
none_yet file l lists entries o b = record {
  run = begun file l o b;
  rows = ap₂ (λ (is : List Item) (k : ℕ). rows_of is ++ drop k lists) (sym nothing) (sym b.lists);
  front = [];
  terms = ap entries_among (sym nothing);
  held = ap (λ (k : ℕ). drop k entries) (sym b.entries);
}
  where
    nothing : (begun file l o b).done ≡ []
    nothing = begun-done file l o b

pub holds-all : (file : List ℕ) (l : Loader) (lists lists' : List ListRow) (entries entries' : List (Entry Term Marks)) → (f : Fills file l lists lists' entries entries')
    → file_items file ≡ Ok f.run.done → (tree : List TermList) → read file ≡ Ok tree → Holds tree lists lists' entries entries'
holds-all file l lists lists' entries entries' f e tree r =
    let done = f.run.done in
    let t : tree_of done ≡ tree = let z = ap tree_read e in cc in
    let terms-are : map entry_read f.front ≡ all_entries tree = f.terms ∙ (told done (file-closed file done e).1.closed).terms ∙ ap all_entries t in
    let nl : l.loaded.lists ≡ length tree = f.run.lists ∙ sym (lists-gathered done) ∙ ap length t in
    let long : length f.front ≡ length (all_entries tree) = sym (length-map f.front entry_read) ∙ ap length terms-are in
    let ne : l.loaded.entries ≡ length (all_entries tree) = f.run.entries ∙ ap length (sym f.terms ∙ terms-are) in
    let whole : entries' ≡ f.front ++ drop (length (all_entries tree)) entries = f.held ∙ ap (λ (k : ℕ). f.front ++ drop k entries) ne in
    record {
      rows = f.rows ∙ ap₂ (λ (rs : List ListRow) (k : ℕ). rs ++ drop k lists) (ap (map list_row) t) nl;
      terms = ap (map entry_read) (ap₂ take (sym long) whole ∙ take-append_seam f.front _) ∙ terms-are;
      behind = ap₂ drop (sym long) whole ∙ drop-append_seam f.front _;
    }
