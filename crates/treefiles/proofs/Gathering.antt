-- Items gathered into a tree, and a tree's items. Assumes nothing.
use Rattle.std.proofs.Common.{◌≡◌, ℕ, suc, ◌+◌, List, [], ◌∷◌, ◌++◌, length, sym, refl, ap, ◌∙◌, subst, append_assoc, append-nil, arith}
use Rattle.treefiles.specs.Format.{TermEntry, TermList, all_entries, list_field, entry_field, closing_field, entry_fields, list_fields, IsTree, Keyed}
use Rattle.treefiles.specs.Reader.{Item, a_list, an_entry, the_end, entries_in, gathered, tree_of}
use Rattle.treefiles.specs.Steps.{lists_in}
use Rattle.treefiles.proofs.Closing.{first, within, behind, Closes, item_fields}

abbrev pub lists_among : List Item → ℕ
lists_among [] = 0
lists_among (i ∷ is) = lists_in i + lists_among is

-- the entries among the items
abbrev pub entry_of : Item → List TermEntry
entry_of (a_list p) = []
entry_of (an_entry e) = e ∷ []
entry_of the_end = []

abbrev pub entries_among : List Item → List TermEntry
entries_among [] = []
entries_among (i ∷ is) = entry_of i ++ entries_among is

pub lists-among-append : (is js : List Item) → lists_among (is ++ js) ≡ lists_among is + lists_among js
lists-among-append [] js = omega arith
lists-among-append (i ∷ is) js = let ih = lists-among-append is js in omega arith

pub entries-among-append : (is js : List Item) → entries_among (is ++ js) ≡ entries_among is ++ entries_among js
entries-among-append [] js = refl
entries-among-append (i ∷ is) js =
    ap (λ (l : List TermEntry). entry_of i ++ l) (entries-among-append is js) ∙ sym (append_assoc (entry_of i) (entries_among is) (entries_among js))

pub length-entry-of : (i : Item) → length (entry_of i) ≡ entries_in i
length-entry-of (a_list p) = refl
length-entry-of (an_entry e) = refl
length-entry-of the_end = refl

pub lists-gathered : (is : List Item) → length (tree_of is) ≡ lists_among is
lists-gathered [] = refl
lists-gathered (a_list p ∷ is) = let ih = lists-gathered is in omega arith
lists-gathered (an_entry e ∷ is) = let ih = lists-gathered is in omega arith
lists-gathered (the_end ∷ is) = let ih = lists-gathered is in omega arith

pub entries-gathered : (is : List Item) → entries_among is ≡ (gathered is).0 ++ all_entries (gathered is).1
entries-gathered [] = refl
entries-gathered (a_list p ∷ is) = entries-gathered is
entries-gathered (an_entry e ∷ is) = ap (λ (l : List TermEntry). e ∷ l) (entries-gathered is)
entries-gathered (the_end ∷ is) = entries-gathered is

-- the fields within the lists of a file, the latest of which goes on with the entries es
abbrev rest-fields : ℕ → List TermEntry → List TermList → List ℕ
rest-fields count es ls = entry_fields es ++ (list_fields ls ++ closing_field (count + length (es ++ all_entries ls)))

record Inside (count : ℕ) (is : List Item) : Type 0 where
  spelled : item_fields count is ≡ rest-fields count (gathered is).0 (gathered is).1
  keyed : Keyed ((gathered is).0 ++ all_entries (gathered is).1)

behind-none : (is : List Item) → Closes behind is → is ≡ []
behind-none [] c = refl
behind-none (i ∷ is) c = absurd c.0

inside : (count : ℕ) (is : List Item) → Closes within is → Inside count is
inside count [] c = absurd c
inside count (a_list p ∷ is) c =
    let ih = inside (count + 0) is c.1 in
    let es = (gathered is).0 in
    let ls = (gathered is).1 in
    let n : count + 0 ≡ count = omega arith in
    let e : rest-fields (count + 0) es ls ≡ rest-fields count es ls = ap (λ (k : ℕ). rest-fields k es ls) n in
    record {
      spelled = ap (λ (l : List ℕ). list_field p ++ l) (ih.spelled ∙ e ∙ sym (append_assoc (entry_fields es) (list_fields ls) _)) ∙ sym (append_assoc (list_field p) (entry_fields es ++ list_fields ls) _);
      keyed = ih.keyed;
    }
inside count (an_entry e ∷ is) c =
    let ih = inside (count + 1) is c.1 in
    let es = (gathered is).0 in
    let ls = (gathered is).1 in
    let n : count + 1 + length (es ++ all_entries ls) ≡ count + suc (length (es ++ all_entries ls)) = omega arith in
    let f : rest-fields (count + 1) es ls ≡ entry_fields es ++ (list_fields ls ++ closing_field (count + suc (length (es ++ all_entries ls)))) =
    ap (λ (k : ℕ). entry_fields es ++ (list_fields ls ++ closing_field k)) n in
    record {
      spelled = ap (λ (l : List ℕ). entry_field e ++ l) (ih.spelled ∙ f) ∙ sym (append_assoc (entry_field e) (entry_fields es) _);
      keyed = (c.0, ih.keyed);
    }
inside count (the_end ∷ is) c =
    let none = behind-none is c.1 in
    let n : count ≡ count + 0 = omega arith in
    subst (λ (js : List Item). Inside count (the_end ∷ js)) (sym none) (record {
      spelled = append-nil (closing_field count) ∙ ap closing_field n;
      keyed = tt;
    })

-- what a whole file holds
pub record Told (is : List Item) : Type 0 where
  pub is_tree : IsTree (tree_of is)
  pub spelled : item_fields 0 is ≡ list_fields (tree_of is) ++ closing_field (length (all_entries (tree_of is)))
  pub terms : entries_among is ≡ all_entries (tree_of is)

pub told : (is : List Item) → Closes first is → Told is
told [] c = absurd c
told (a_list p ∷ is) c =
    let t = inside 0 is c.1 in
    let es = (gathered is).0 in
    let ls = (gathered is).1 in
    let n : 0 + length (es ++ all_entries ls) ≡ length (es ++ all_entries ls) = omega arith in
    record {
      is_tree = record { root = c.0; keys = t.keyed };
      spelled = ap (λ (l : List ℕ). list_field p ++ l) (t.spelled ∙ ap (λ (k : ℕ). entry_fields es ++ (list_fields ls ++ closing_field k)) n ∙ sym (append_assoc (entry_fields es) (list_fields ls) _)) ∙ sym (append_assoc (list_field p) (entry_fields es ++ list_fields ls) _);
      terms = entries-gathered is;
    }
told (an_entry e ∷ is) c = absurd c.0
told (the_end ∷ is) c = absurd c.0
