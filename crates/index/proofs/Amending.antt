-- Amending one entry. Assumes nothing.
use Rattle.std.proofs.Common.{◌≡◌, ℕ, ◌+◌, ◌^◌, ◌<◌, ◌≤◌, ltb, List, length, get_or, take, Some, None, Option, sym, ap, ◌∙◌, ap₂, arith}
use Rattle.std.proofs.lemmas.Bool.{lt-ltb, le-ltb}
use Rattle.faults.specs.Refusals.{fault}
use Rattle.faults.specs.declared.Fault.{Fault}
use Rattle.faults.specs.declared.Reason.TheVariants.{NoSuchList, NoSuchPlace}
use Rattle.orders.specs.declared.KeyOrder.{Ghosts}
use Rattle.cascade.specs.declared.row.Row.{Row}
use Rattle.cascade.specs.Trees.{KeyTree, keys_at, all_keys}
use Rattle.layout.specs.KeyTrees.{key_tree}
use Rattle.plan.proofs.Runs.{run-at, first-within}
use Rattle.plan.specs.Table.{run_at}
use Rattle.plan.specs.declared.table.ListRun.{ListRun}
use Rattle.register.specs.Questions.{ask, place_fault, list_fault}
use Rattle.register.specs.Register.{Register, changed_at}
use Rattle.index.specs.Held.{machine_of, dressed}
use Rattle.index.specs.Machine.{granted, amended_at, after_amend}
use Rattle.index.specs.declared.Index.{Index}
use Rattle.index.proofs.Dressing.{dressed-changed}
use Rattle.index.proofs.Facts.{runs-out}
use Rattle.index.proofs.Sounding.{tree_of}

-- the row of no list
abbrev pub none : ListRun
none = record { parent = 0; ordinal = 0; start = 0; length = 0; first = 0; count = 0 }

module _ {K P : Type 0} {g : Ghosts K} (i : Index K P g) (list : ℕ) where
  abbrev t : KeyTree K
  t = i.layout.tree

  pub run-here : list < i.table.len → get_or i.table.runs list none ≡ run_at t i.layout.augmented list
  run-here h = let n = i.lists in run-at t i.layout.augmented i.table (record { lists = i.lists; runs = runs-out i.runs }) list none (omega arith)

  pub no-list : i.table.len ≤ list → list_fault (key_tree (machine_of i).register) list ≡ Some (fault NoSuchList list 0)
  no-list h =
      let n = i.lists in
      let l : length t ≤ list = omega arith in
      ap (λ (u : KeyTree K). list_fault u list) (tree_of i) ∙ rw (le-ltb list (length t) l)

  pub some-list : list < i.table.len → list_fault (key_tree (machine_of i).register) list ≡ None
  some-list h =
      let n = i.lists in
      let l : list < length t = omega arith in
      ap (λ (u : KeyTree K). list_fault u list) (tree_of i) ∙ rw (lt-ltb list (length t) l)

  module _ (place : ℕ) where
    pub no-list-place : i.table.len ≤ list → place_fault (key_tree (machine_of i).register) list place ≡ Some (fault NoSuchList list 0)
    no-list-place h = rw (no-list h)

    pub no_place : list < i.table.len → (get_or i.table.runs list none).count ≤ place → place_fault (key_tree (machine_of i).register) list place ≡ Some (fault NoSuchPlace list place)
    no_place h c =
        let r = ap (λ (x : ListRun). x.count) (run-here h) in
        let l : length (keys_at t list) ≤ place = omega (arith, r) in
        rw (some-list h) (ap (λ (u : KeyTree K). ask (ltb place (length (keys_at u list))) (fault NoSuchPlace list place)) (tree_of i) ∙ rw (le-ltb place (length (keys_at t list)) l))

    module _ (h : list < i.table.len) (c : place < (get_or i.table.runs list none).count) where
      pub within : place < length (keys_at t list)
      within = let r = ap (λ (x : ListRun). x.count) (run-here h) in omega (arith, r)

      pub some-place : place_fault (key_tree (machine_of i).register) list place ≡ None
      some-place =
          rw (some-list h) (ap (λ (u : KeyTree K). ask (ltb place (length (keys_at u list))) (fault NoSuchPlace list place)) (tree_of i) ∙ rw (lt-ltb place (length (keys_at t list)) within))

      pub at_first : (get_or i.table.runs list none).first ≡ all_keys (take list t)
      at_first = ap (λ (x : ListRun). x.first) (run-here h)

      pub in_memory : (get_or i.table.runs list none).first + place < length i.memory.payloads.now
      in_memory =
          let n = i.lists in
          let a = at_first in
          let w = within in
          let f = first-within t list (omega arith) in
          let l = i.loaded in
          omega (arith, a, w, f, l)

      pub small-place : (get_or i.table.runs list none).first + place < 2 ^ 64
      small-place =
          let n = i.lists in
          let a = at_first in
          let w = within in
          let f = first-within t list (omega arith) in
          let l = i.small in
          omega (arith, a, w, f, l)

      -- the machine behind an amendment of payload memory
      pub amends : (joined : P → P → P) (by : P) (keys : List K) (rows : List Row) (payloads : List P) → keys ≡ i.memory.keys.now → rows ≡ i.memory.rows.now → payloads ≡ changed_at (λ x. joined x by) ((get_or i.table.runs list none).first + place) i.memory.payloads.now
          → record { register = dressed t payloads; keys = keys; rows = rows; payloads = payloads } ≡ after_amend joined (machine_of i) list place by
      amends joined by keys rows payloads same_keys same_rows e =
          let ps = i.memory.payloads.now in
          let n = i.lists in
          let at : (get_or i.table.runs list none).first + place ≡ all_keys (take list t) + place = ap (λ (k : ℕ). k + place) at_first in
          let here : payloads ≡ changed_at (λ x. joined x by) (all_keys (take list t) + place) ps = e ∙ ap (λ (k : ℕ). changed_at (λ x. joined x by) k ps) at in
          let reg : dressed t payloads ≡ (amended_at joined (machine_of i) list place by).register = ap (dressed t) here ∙ dressed-changed joined by t list place ps (omega arith) within in
          let mem : payloads ≡ (amended_at joined (machine_of i) list place by).payloads =
          here ∙ ap (λ (u : KeyTree K). changed_at (λ x. joined x by) (all_keys (take list u) + place) ps) (sym (tree_of i)) in
          ap₂ (λ (ks : List K) (rs : List Row). record { register = dressed t payloads; keys = ks; rows = rs; payloads = payloads }) same_keys same_rows
          ∙ ap₂ (λ (r : Register K P) (qs : List P). record { register = r; keys = i.memory.keys.now; rows = i.memory.rows.now; payloads = qs }) reg mem
          ∙ sym (ap (λ (o : Option Fault). granted o (machine_of i) (amended_at joined (machine_of i) list place by)) some-place)

  -- a refused amendment
  pub unamended : (place : ℕ) (f : Fault) → place_fault (key_tree (machine_of i).register) list place ≡ Some f → (joined : P → P → P) (by : P) → machine_of i ≡ after_amend joined (machine_of i) list place by
  unamended place f e joined by = sym (ap (λ (o : Option Fault). granted o (machine_of i) (amended_at joined (machine_of i) list place by)) e)
