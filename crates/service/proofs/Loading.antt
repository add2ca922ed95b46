-- What a load into memory as large as a check tells promises. Assumes nothing.
use Rattle.std.proofs.Common.{◌≡◌, ℕ, ◌≤◌, List, ◌++◌, map, length, Ok, Err, Result, sym, refl, ap, ◌∙◌, append-nil, arith}
use Rattle.std.proofs.lemmas.List.{take_all, drop_all}
use Rattle.std.proofs.lemmas.Bool.{le-leb}
use Rattle.faults.specs.declared.Fault.{Fault}
use Rattle.orders.specs.declared.entry.Entry.{Entry}
use Rattle.shelves.specs.declared.rows.ListRow.{ListRow}
use Rattle.terms.specs.declared.key.Term.{Term}
use Rattle.terms.specs.declared.marks.Marks.{Marks}
use Rattle.treefiles.specs.Format.{TermList, all_entries}
use Rattle.treefiles.specs.Loading.{sizes, fitted, answer, checked, list_row, entry_read, Loads}
use Rattle.treefiles.specs.Reader.{read}
use Rattle.treefiles.specs.declared.loaded.Loaded.{Loaded}
use Rattle.service.specs.Loading.{FileOf}

-- a tree fits into memory of its own size
fits : (tree : List TermList) (lists entries : ℕ) → length tree ≤ lists → length (all_entries tree) ≤ entries → fitted lists entries tree ≡ Ok (sizes tree)
fits tree lists entries a b = rw (le-leb (length tree) lists a, le-leb (length (all_entries tree)) entries b)

-- so that a load answers what a check answers
answers : (r : Result (List TermList) Fault) (needed : Loaded) → Ok needed ≡ checked r → (lists entries : ℕ) → lists ≡ needed.lists → entries ≡ needed.entries
    → answer lists entries r ≡ Ok needed
answers (Ok tree) needed e lists entries a b =
    let s : needed ≡ sizes tree = cc in
    let n = ap (λ (l : Loaded). l.lists) s in
    let m = ap (λ (l : Loaded). l.entries) s in
    fits tree lists entries (omega arith) (omega arith) ∙ ap (λ (l : Loaded). Ok l) (sym s)
answers (Err f) needed e lists entries a b = cc

module _ (file : List ℕ) (needed : Loaded) (says : Ok needed ≡ checked (read file)) (lists lists' : List ListRow) (entries entries' : List (Entry Term Marks)) (list_room : length lists ≡ needed.lists) (entry_room : length entries ≡ needed.entries) where
  pub not-refused : (f : Fault) → Loads file lists lists' entries entries' (Err f) → ⊥
  not-refused f loads =
      let e = loads.answers ∙ answers (read file) needed says (length lists) (length entries) list_room entry_room in
      cc

  -- the tree fills the memory
  pub loaded : length entries' ≡ length entries → (n : Loaded) → Loads file lists lists' entries entries' (Ok n) → (ls : List ListRow) → ls ≡ lists' → (es : List (Entry Term Marks)) → es ≡ entries'
      → (tree : List TermList) × FileOf tree file ls es
  loaded kept n loads ls l' es e' =
      let g = loads.only refl in
      let tree = g.0 in
      let held = g.1.holds in
      let e = loads.answers ∙ answers (read file) needed says (length lists) (length entries) list_room entry_room in
      let e₂ = loads.every tree g.1.whole g.1.is_tree g.1.list_room g.1.entry_room in
      let s : needed ≡ sizes tree = cc in
      let a = ap (λ (l : Loaded). l.lists) s in
      let b = ap (λ (l : Loaded). l.entries) s in (
        tree,
        record {
          whole = g.1.whole;
          is_tree = g.1.is_tree;
          rows = l' ∙ held.rows ∙ ap (λ (xs : List ListRow). map list_row tree ++ xs) (drop_all (length tree) lists (omega arith)) ∙ append-nil (map list_row tree);
          terms = ap (map entry_read) (e' ∙ sym (take_all (length (all_entries tree)) entries' (omega arith))) ∙ held.terms;
        },
      )
