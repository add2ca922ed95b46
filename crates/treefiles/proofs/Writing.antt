-- A file is read exactly where it is the file of a tree. Assumes nothing.
use Rattle.std.proofs.Common.{◌≡◌, ℕ, zero, suc, ◌+◌, ◌*◌, ◌/◌, ◌%◌, ◌≤◌, Bool, true, false, cond, eqb, List, [], ◌∷◌, ◌++◌, length, drop, Some, None, Ok, sym, refl, ap, ◌∙◌, subst, ap₂, append-nil, arith, length-append}
use Rattle.std.proofs.lemmas.List.Elements.{All-drop}
use lib.Seq.{take-append_seam, drop-append_seam}
use Rattle.std.proofs.lemmas.Bool.{eq-eqb, le-leb, eqb-true}
use Rattle.std.proofs.lemmas.Bool.Decides.{nat_tests}
use Rattle.terms.specs.Keys.{key_fault}
use Rattle.treefiles.specs.Format.{TermEntry, TermList, all_entries, field, closing_field, four_bytes, list_fields, written, opening, IsTree, Keyed}
use Rattle.treefiles.specs.Reader.{Item, a_list, an_entry, the_end, first_field, number, next_item, stage_after, entries_in, size_of, entries, entry_in, some_item, said_of, after, follow, items, gathered, tree_of, begins, tree_read, read}
use Rattle.treefiles.specs.declared.stage.Stage.{Stage}
use Rattle.treefiles.specs.declared.stage.Stage.TheVariants.{Opening, List as ListRead, Entry as EntryRead, Closing}
use Rattle.treefiles.proofs.Closing.{Phase, first, within, phase_of, phase_after, phase-after, Accepts, Closes, item_field, item_fields, IsByte, Bytes, number-four, rest_of}
use Rattle.treefiles.specs.Steps.{sized}
use Rattle.treefiles.proofs.Gathering.{told}
use Rattle.treefiles.proofs.Filled.{tree-items}
use Rattle.treefiles.proofs.Runs.{file-closed}

begins-front : (xs bs : List ℕ) → begins xs bs ≡ true → bs ≡ xs ++ drop (length xs) bs
begins-front [] bs e = refl
begins-front (x ∷ xs) [] e = absurd (cc)
begins-front (x ∷ xs) (b ∷ bs) e = go (begins-front xs bs) (eqb x b) refl e
  where
    go : (begins xs bs ≡ true → bs ≡ xs ++ drop (length xs) bs) → (t : Bool) → eqb x b ≡ t → cond t (begins xs bs) false ≡ true → b ∷ bs ≡ x ∷ (xs ++ drop (length xs) bs)
    go ih true f h = ap₂ (λ (y : ℕ) (ys : List ℕ). y ∷ ys) (sym (eqb-true x b f)) (ih h)
    go ih false f h = absurd (cc)

pub read-is-written : (file : List ℕ) (tree : List TermList) → Bytes file → read file ≡ Ok tree → (file ≡ written tree) × IsTree tree
read-is-written file tree b r =
    let f = tree-items file tree r in
    let w = file-closed file f.0 f.1 in
    let t = told f.0 w.1.closed in
    let fields = list_fields tree ++ closing_field (length (all_entries tree)) in
    let rest : drop 5 file ≡ fields = w.1.spelled (All-drop IsByte 5 file b) ∙ t.spelled ∙ ap (λ (u : List TermList). list_fields u ++ closing_field (length (all_entries u))) f.2 in
    (begins-front opening file w.0 ∙ ap (λ (l : List ℕ). opening ++ l) rest, subst IsTree f.2 t.is_tree)

-- a field is read back
first-of-field : (tag : ℕ) (body rest : List ℕ) → first_field (field tag body ++ rest) ≡ Some (tag, body)
first-of-field tag body rest =
    let n : length body / 256 * 256 + length body % 256 ≡ length body = omega arith in
    let l : length body ≤ length (body ++ rest) = let a = length-append body rest in omega arith in
    rw (n, le-leb (length body) (length (body ++ rest)) l) (ap (λ (b : List ℕ). Some (tag, b)) (take-append_seam body rest))

key-long : (text : List ℕ) → key_fault text ≡ None → (1 ≤ length text) × (length text ≤ 32)
key-long text e = (grind (arith, nat_tests), grind (arith, nat_tests))

entry-eta : (e : TermEntry) → record { marks = number (four_bytes e.marks ++ e.text); text = e.text } ≡ e
entry-eta e = ap (λ (n : ℕ). record { marks = n; text = e.text }) (number-four e.marks e.text)

entry-said : (at : ℕ) (body : List ℕ) → 5 ≤ length body → length body ≤ 36 → key_fault (drop 4 body) ≡ None → sized Opening 0 at entries body ≡ Ok (an_entry (entry_in body))
entry-said at body h l e = rw (le-leb 5 (length body) h, le-leb (length body) 36 l, e)

entry-back : (at : ℕ) (e : TermEntry) → key_fault e.text ≡ None → sized Opening 0 at entries (four_bytes e.marks ++ e.text) ≡ Ok (an_entry e)
entry-back at e k =
    let l = key-long e.text k in
    let body = four_bytes e.marks ++ e.text in
    let a : 5 ≤ length body = omega arith in
    let b : length body ≤ 36 = omega arith in
    entry-said at body a b k ∙ ap (λ (x : TermEntry). Ok (an_entry x)) (entry-eta e)

-- the field of an item that may come says it
item_back : (stage : Stage) (count at : ℕ) (i : Item) (rest : List ℕ) → Accepts (phase_of stage) i → next_item stage count at (item_field count i ++ rest) ≡ Ok (Some i)
item_back Opening count at (a_list p) rest a =
    ap (said_of Opening count at) (first-of-field 76 (p ∷ []) rest) ∙ rw (eq-eqb p 0 a)
item_back ListRead count at (a_list p) rest a = ap (said_of ListRead count at) (first-of-field 76 (p ∷ []) rest)
item_back EntryRead count at (a_list p) rest a = ap (said_of EntryRead count at) (first-of-field 76 (p ∷ []) rest)
item_back Closing count at i rest a = absurd a
item_back Opening count at (an_entry e) rest a = absurd a
item_back ListRead count at (an_entry e) rest a =
    ap (said_of ListRead count at) (first-of-field 69 (four_bytes e.marks ++ e.text) rest) ∙ ap some_item (entry-back at e a)
item_back EntryRead count at (an_entry e) rest a =
    ap (said_of EntryRead count at) (first-of-field 69 (four_bytes e.marks ++ e.text) rest) ∙ ap some_item (entry-back at e a)
item_back Opening count at the_end rest a = absurd a
item_back ListRead count at the_end rest a =
    ap (said_of ListRead count at) (first-of-field 90 (four_bytes count) rest) ∙ rw (eq-eqb _ count (number-four count []))
item_back EntryRead count at the_end rest a =
    ap (said_of EntryRead count at) (first-of-field 90 (four_bytes count) rest) ∙ rw (eq-eqb _ count (number-four count []))

drop-field : (count : ℕ) (i : Item) (rest : List ℕ) → drop (size_of i) (item_field count i ++ rest) ≡ rest
drop-field count (a_list p) rest = refl
drop-field count (an_entry e) rest =
    let n : 7 + length e.text ≡ suc (suc (suc (suc (suc (suc (suc (length e.text))))))) = omega arith in
    ap (λ (k : ℕ). drop k (item_field count (an_entry e) ++ rest)) n ∙ drop-append_seam e.text rest
drop-field count the_end rest = refl

closes-head : (stage : Stage) (i : Item) (is : List Item) → Closes (phase_of stage) (i ∷ is) → Accepts (phase_of stage) i × Closes (phase_after i) is
closes-head Opening i is c = c
closes-head ListRead i is c = c
closes-head EntryRead i is c = c
closes-head Closing i is c = c

-- items that close a file are read from their fields
items_back : (k : ℕ) (stage : Stage) (count at : ℕ) (is : List Item) → length is ≤ k → Closes (phase_of stage) is → items (suc k) stage count at (item_fields count is) ≡ Ok is
items_back k Opening count at [] l c = absurd c
items_back k ListRead count at [] l c = absurd c
items_back k EntryRead count at [] l c = absurd c
items_back k Closing count at [] l c = refl
items_back zero stage count at (i ∷ is) l c = absurd (omega arith)
items_back (suc k) stage count at (i ∷ is) l c =
    let rest = item_fields (count + entries_in i) is in
    let n = item_back stage count at i rest (closes-head stage i is c).0 in
    let d = drop-field count i rest in
    let ih = items_back k (stage_after i) (count + entries_in i) (at + size_of i) is (omega arith) (subst (λ (p : Phase). Closes p is) (sym (phase-after i)) (closes-head stage i is c).1) in
    ap (follow (rest_of (suc k) count at (item_field count i ++ rest))) n
    ∙ ap (λ (bs : List ℕ). after (i ∷ []) (items (suc k) (stage_after i) (count + entries_in i) (at + size_of i) bs)) d
    ∙ ap (after (i ∷ [])) ih

-- the items of a tree
abbrev entry_items : List TermEntry → List Item → List Item
entry_items [] rest = rest
entry_items (e ∷ es) rest = an_entry e ∷ entry_items es rest

abbrev tree_items : List TermList → List Item
tree_items [] = the_end ∷ []
tree_items (l ∷ ls) = a_list l.parent ∷ entry_items l.entries (tree_items ls)

entries-back : (es : List TermEntry) (rest : List Item) → gathered (entry_items es rest) ≡ (es ++ (gathered rest).0, (gathered rest).1)
entries-back [] rest = refl
entries-back (e ∷ es) rest = ap (λ (g : List TermEntry × List TermList). (e ∷ g.0, g.1)) (entries-back es rest)

tree-back : (ls : List TermList) → gathered (tree_items ls) ≡ ([], ls)
tree-back [] = refl
tree-back (l ∷ ls) =
    let ih = tree-back ls in
    let e : gathered (entry_items l.entries (tree_items ls)) ≡ (l.entries ++ [], ls) =
    entries-back l.entries (tree_items ls) ∙ ap (λ (g : List TermEntry × List TermList). (l.entries ++ g.0, g.1)) ih in
    ap (λ (g : List TermEntry × List TermList). ([], record { parent = l.parent; entries = g.0 } ∷ g.1)) e
    ∙ ap (λ (es : List TermEntry). ([], record { parent = l.parent; entries = es } ∷ ls)) (append-nil l.entries)

entries-close : (es more : List TermEntry) (rest : List Item) → Keyed (es ++ more) → (Keyed more → Closes within rest) → Closes within (entry_items es rest)
entries-close [] more rest k h = h k
entries-close (e ∷ es) more rest k h = (k.0, entries-close es more rest k.1 h)

lists-close : (ls : List TermList) → Keyed (all_entries ls) → Closes within (tree_items ls)
lists-close [] k = (tt, tt)
lists-close (l ∷ ls) k = (tt, entries-close l.entries (all_entries ls) (tree_items ls) k (lists-close ls))

tree-closes : (tree : List TermList) → IsTree tree → Closes first (tree_items tree)
tree-closes [] t = absurd t.root
tree-closes (l ∷ ls) t = (t.root, entries-close l.entries (all_entries ls) (tree_items ls) t.keys (lists-close ls))

some_bytes : (count : ℕ) (i : Item) (rest : List ℕ) → 1 + length rest ≤ length (item_field count i ++ rest)
some_bytes count (a_list p) rest = omega arith
some_bytes count (an_entry e) rest = let a = length-append e.text rest in omega arith
some_bytes count the_end rest = omega arith

fewer-items : (count : ℕ) (is : List Item) → length is ≤ length (item_fields count is)
fewer-items count [] = omega arith
fewer-items count (i ∷ is) =
    let ih = fewer-items (count + entries_in i) is in
    let s = some_bytes count i (item_fields (count + entries_in i) is) in
    omega arith

pub written-is-read : (tree : List TermList) → IsTree tree → read (written tree) ≡ Ok tree
written-is-read tree t =
    let is = tree_items tree in
    let c = tree-closes tree t in
    let back : tree_of is ≡ tree = ap (λ (g : List TermEntry × List TermList). g.1) (tree-back tree) in
    let spelled : item_fields 0 is ≡ list_fields tree ++ closing_field (length (all_entries tree)) =
    (told is c).spelled ∙ ap (λ (u : List TermList). list_fields u ++ closing_field (length (all_entries u))) back in
    let few = fewer-items 0 is in
    let long = ap length spelled in
    let n = length (written tree) in
    let enough : length is ≤ n = omega arith in
    ap tree_read (sym (ap (λ (bs : List ℕ). items (suc n) Opening 0 5 bs) spelled) ∙ items_back n Opening 0 5 is enough c)
    ∙ ap (λ (u : List TermList). Ok u) back
