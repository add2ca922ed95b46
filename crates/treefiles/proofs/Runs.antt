-- A loader on its way through a file. Assumes nothing.
use Rattle.std.proofs.Common.{◌≡◌, ℕ, zero, suc, ◌+◌, ◌<◌, ◌≤◌, true, List, [], ◌∷◌, ◌++◌, length, drop, Some, None, Ok, Err, Option, Result, sym, refl, ap, ◌∙◌, subst, ap₂, append_assoc, append-nil, arith, length-append, drop-drop}
use Rattle.faults.specs.declared.Fault.{Fault}
use Rattle.treefiles.specs.Format.{opening}
use Rattle.treefiles.specs.Loading.{sizes}
use Rattle.treefiles.specs.Reader.{Item, a_list, an_entry, the_end, next_item, entries_in, size_of, after, follow, items, begins, file_items, tree_of}
use Rattle.treefiles.specs.Steps.{Moved, Begun, Reads, item_read, lists_in, counts_of}
use Rattle.treefiles.specs.declared.item.Item.{Item as CodeItem}
use Rattle.treefiles.specs.declared.loader.Loader.{Loader}
use Rattle.treefiles.specs.declared.stage.Stage.TheVariants.{Opening}
use Rattle.treefiles.proofs.Closing.{Whole, rest_of, read_whole, passed}
use Rattle.treefiles.proofs.Gathering.{lists_among, entry_of, entries_among, lists-among-append, entries-among-append, length-entry-of, lists-gathered, told}

-- the items that were read, and the bound on the fields to come: what is left of the file gives the whole
pub record Run (file : List ℕ) (l : Loader) : Type 0 where
  pub done : List Item
  pub fields : ℕ
  pub of : l.file.now ≡ file
  pub same : file_items file ≡ after done (items fields l.stage l.loaded.entries l.at (drop l.at file))
  pub enough : length file < fields + l.at
  pub lists : l.loaded.lists ≡ lists_among done
  pub entries : l.loaded.entries ≡ length (entries_among done)

after_none : (r : Result (List Item) Fault) → r ≡ after [] r
after_none (Ok is) = refl
after_none (Err f) = refl

after-after : (is js : List Item) (r : Result (List Item) Fault) → after is (after js r) ≡ after (is ++ js) r
after-after is js (Ok ks) = ap (λ (l : List Item). Ok l) (sym (append_assoc is js ks))
after-after is js (Err f) = refl

pub begun : (file : List ℕ) (l : Loader) → begins opening file ≡ true → Begun file l → Run file l
begun file l o b = record {
  done = [];
  fields = suc (length file);
  of = b.of;
  same = opened ∙ after_none _ ∙ ap (after []) (rw (b.stage, b.entries, b.at));
  enough = omega arith;
  lists = b.lists;
  entries = b.entries;
}
  where
    opened : file_items file ≡ items (suc (length file)) Opening 0 5 (drop 5 file)
    opened = rw o

pub begun-done : (file : List ℕ) (l : Loader) (o : begins opening file ≡ true) (b : Begun file l) → (begun file l o b).done ≡ []
unfolding begun
begun-done file l o b = refl

module _ (file : List ℕ) (l : Loader) (run : Run file l) where
  abbrev next_here : Result (Option Item) Fault
  next_here = next_item l.stage l.loaded.entries l.at (drop l.at file)

  -- the fields do not run out before the file
  some-fields : (n : ℕ) → length file < n + l.at → (k : ℕ) × (n ≡ suc k)
  some-fields zero h = let w : l.at ≤ length file = subst (λ (f : List ℕ). l.at ≤ length f) run.of l.within in absurd (omega arith)
  some-fields (suc k) h = (k, refl)

  unfolded : (k : ℕ) → run.fields ≡ suc k → file_items file ≡ after run.done (follow (rest_of k l.loaded.entries l.at (drop l.at file)) next_here)
  unfolded k e = run.same ∙ ap (λ (n : ℕ). after run.done (items n l.stage l.loaded.entries l.at (drop l.at file))) e

  pub moved : (m : Loader) (i : Item) → next_here ≡ Ok (Some i) → Moved l m i → Run file m
  moved m i n h =
      let s = some-fields run.fields run.enough in
      let k = s.0 in
      let g = run.enough in
      let e = s.1 in
      let size = positive i in
      let a = h.at in
      record {
        done = run.done ++ (i ∷ []);
        fields = k;
        of = ap (λ x. x.now) h.file ∙ run.of;
        same =
            unfolded k e
            ∙ ap (λ (r : Result (Option Item) Fault). after run.done (follow (rest_of k l.loaded.entries l.at (drop l.at file)) r)) n
            ∙ after-after run.done (i ∷ []) _
            ∙ ap (after (run.done ++ (i ∷ []))) (there k h);
        enough = omega arith;
        lists = h.lists ∙ ap (λ (x : ℕ). x + lists_in i) run.lists ∙ one_list;
        entries = h.entries ∙ ap (λ (x : ℕ). x + entries_in i) run.entries ∙ one_entry;
      }
    where
      positive : (j : Item) → 0 < size_of j
      positive (a_list p) = omega arith
      positive (an_entry e) = omega arith
      positive the_end = omega arith

      there : (k : ℕ) → Moved l m i → rest_of k l.loaded.entries l.at (drop l.at file) i ≡ items k m.stage m.loaded.entries m.at (drop m.at file)
      there k h = rw (h.stage, h.entries, h.at, drop-drop (size_of i) l.at file)

      one_list : lists_among run.done + lists_in i ≡ lists_among (run.done ++ (i ∷ []))
      one_list = let a = lists-among-append run.done (i ∷ []) in omega arith

      one_entry : length (entries_among run.done) + entries_in i ≡ length (entries_among (run.done ++ (i ∷ [])))
      one_entry =
          let a = entries-among-append run.done (i ∷ []) in
          let b = length-append (entries_among run.done) (entries_among (i ∷ [])) in
          let c = ap length (append-nil (entry_of i)) in
          let d = length-entry-of i in
          let f = ap length a in
          omega arith

  pub stopped : next_here ≡ Ok None → file_items file ≡ Ok run.done
  stopped n =
      let s = some-fields run.fields run.enough in
      unfolded s.0 s.1
      ∙ ap (λ (r : Result (Option Item) Fault). after run.done (follow (rest_of s.0 l.loaded.entries l.at (drop l.at file)) r)) n
      ∙ ap (λ (is : List Item). Ok is) (append-nil run.done)

  pub refused : (f : Fault) → next_here ≡ Err f → file_items file ≡ Err f
  refused f n =
      let s = some-fields run.fields run.enough in
      unfolded s.0 s.1
      ∙ ap (λ (r : Result (Option Item) Fault). after run.done (follow (rest_of s.0 l.loaded.entries l.at (drop l.at file)) r)) n

  -- the same by what a call of `next` says
  here : (x : Result (Option Item) Fault) → x ≡ next_item l.stage l.loaded.entries l.at (drop l.at l.file.now) → next_here ≡ x
  here x e = ap (λ (f : List ℕ). next_item l.stage l.loaded.entries l.at (drop l.at f)) (sym run.of) ∙ sym e

  pub goes_on : (m : Loader) (r : Result (Option CodeItem) Fault) (i : CodeItem) → r ≡ Ok (Some i) → Reads l m r → Run file m
  goes_on m r i e h =
      let g : Reads l m (Ok (Some i)) = subst (Reads l m) e h in
      moved m (item_read i) (here (Ok (Some (item_read i))) g.0) g.1

  pub done-one-more : (m : Loader) (i : CodeItem) (h : Reads l m (Ok (Some i))) → (goes_on m (Ok (Some i)) i refl h).done ≡ run.done ++ (item_read i ∷ [])
  unfolding goes_on moved
  done-one-more m i h = refl

  pub comes-to-end : (m : Loader) (r : Result (Option CodeItem) Fault) → r ≡ Ok None → Reads l m r → (file_items file ≡ Ok run.done) × (m ≡ l)
  comes-to-end m r e h = let g : Reads l m (Ok None) = subst (Reads l m) e h in (stopped (here (Ok None) g.0), g.1)

  pub breaks-off : (m : Loader) (r : Result (Option CodeItem) Fault) (f : Fault) → r ≡ Err f → Reads l m r → file_items file ≡ Err f
  breaks-off m r f e h = let g : Reads l m (Err f) = subst (Reads l m) e h in refused f (here (Err f) g.0)

-- items that are the whole of a file close it
pub file-closed : (file : List ℕ) (is : List Item) → file_items file ≡ Ok is → (begins opening file ≡ true) × Whole Opening 0 (drop 5 file) is
file-closed file is e =
    let p = passed (begins opening file) _ _ is e in
    (p.0, read_whole (suc (length file)) Opening 0 5 (drop 5 file) is p.1)

pub counted : (file : List ℕ) (l : Loader) (run : Run file l) → file_items file ≡ Ok run.done → counts_of l ≡ sizes (tree_of run.done)
counted file l run e =
    let t = told run.done (file-closed file run.done e).1.closed in
    ap₂ (λ (a b : ℕ). record { lists = a; entries = b }) (run.lists ∙ sym (lists-gathered run.done)) (run.entries ∙ ap length t.terms)
