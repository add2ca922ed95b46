-- Lists that are measured: one question after the other, each asked of columns.
use Rattle.std.proofs.Common.{◌≡◌, ℕ, zero, suc, ◌<◌, ◌≤◌, List, length, take, Some, None, Err, Option, Result, sym, refl, ap, ◌∙◌, subst, arith}
use Rattle.std.proofs.lemmas.List.{length-take-le, get_or-take}
use Rattle.faults.specs.declared.Fault.{Fault}
use Rattle.faults.specs.declared.Reason.TheVariants.{TooDeep}
use Rattle.cascade.specs.Trees.{KeyTree, parent_of, ordinal, depth_of}
use Rattle.register.specs.Limits.{most_lists, most_edges}
use Rattle.register.specs.Questions.{or_else, count_fault, parent_fault, depth_fault, child_fault, entry_fault}
use Rattle.plan.specs.Columns.{no_run, nth_run, parent_in, Holds, Smaller, Depths, count_asked, parents_asked, most_asked, entries_asked, run_read, run_counted, shape_fault}
use Rattle.plan.specs.Lists.{Read, Reads, before, children_asked, Renumbered, Counted, Numbers, Measures}
use Rattle.plan.specs.declared.lists.Lists.{Lists}
use Rattle.plan.specs.declared.table.ListRun.{ListRun}
use Rattle.plan.proofs.Asking.{Grants, Refuses, granted-none, refused-some, or-stop, or-next}
use Rattle.plan.proofs.Granting.{counted, smaller}
use Rattle.plan.proofs.Linking.{parents-asked, children-asked, entries-asked, smaller-column, depths-are, ordinals-hold}

-- a refusal that is handed on
pub refused : {K : Type 0} (t : KeyTree K) (r : Result Lists Fault) (f : Fault) → r ≡ Err f → shape_fault t ≡ Some f → Measures t r
refused t r f p e = subst (Measures t) (sym p) e

pub refused-read : {K : Type 0} (t : KeyTree K) (r : Result Lists Fault) (f : Fault) → r ≡ Err f → or_else (count_fault t) (parent_fault t) ≡ Some f → Reads t r
refused-read t r f p e = subst (Reads t) (sym p) e

-- the lists that are read
module _ {K : Type 0} (t : KeyTree K) (n : ℕ) (len : n ≡ length t) where
  count-linked : count_fault t ≡ count_asked n
  count-linked = ap count_asked (sym len)

  pub no-count : (f : Fault) → Refuses (count_asked n) f → or_else (count_fault t) (parent_fault t) ≡ Some f
  no-count f e = or-stop (count_fault t) (parent_fault t) f (count-linked ∙ refused-some (count_asked n) f e)

  module _ (yes-count : Grants (count_asked n)) where
    pub count_none : count_fault t ≡ None
    count_none = count-linked ∙ granted-none (count_asked n) yes-count

    pub within : (1 ≤ n) × (n ≤ most_lists)
    within = let c = counted t count_none in (omega arith, omega arith)

    module _ (runs : List ListRun) (size : length runs ≡ most_lists) (each : (v : ℕ) → v < most_lists → nth_run runs v ≡ run_read t v) where
      reads : Holds (length t) (parent_of t) (parent_in runs)
      reads v h = let w = within in ap (λ (r : ListRun). r.parent) (each v (omega arith))

      reads-taken : Holds (length t) (parent_of t) (parent_in (take n runs))
      reads-taken v h = ap (λ (r : ListRun). r.parent) (get_or-take n runs v no_run (omega arith)) ∙ reads v h

      parents-linked : parent_fault t ≡ parents_asked (length (take n runs)) (parent_in (take n runs))
      parents-linked =
          let w = within in
          parents-asked t (parent_in (take n runs)) reads-taken
          ∙ ap (λ k. parents_asked k (parent_in (take n runs))) (sym (length-take-le n runs (omega arith) ∙ len))

      pub no-parents : (f : Fault) → Refuses (parents_asked (length (take n runs)) (parent_in (take n runs))) f → or_else (count_fault t) (parent_fault t) ≡ Some f
      no-parents f e =
          or-next (count_fault t) (parent_fault t) (Some f) count_none
          (parents-linked ∙ refused-some (parents_asked (length (take n runs)) (parent_in (take n runs))) f e)

      module _ (yes-parents : Grants (parents_asked (length (take n runs)) (parent_in (take n runs)))) where
        pub parents_none : parent_fault t ≡ None
        parents_none = parents-linked ∙ granted-none (parents_asked (length (take n runs)) (parent_in (take n runs))) yes-parents

        pub smaller-here : Smaller n (parent_in runs)
        smaller-here v z h = smaller-column t (parent_in runs) reads (smaller t parents_none) v z (omega arith)

        pub read-each : (v : ℕ) → v < length t → nth_run runs v ≡ run_read t v
        read-each v h = let w = within in each v (omega arith)

-- the questions to lists that are read
module _ {K : Type 0} (t : KeyTree K) (ls : Lists) (granted : (count_fault t ≡ None) × (parent_fault t ≡ None) × Read t ls) where
  reads-here : Holds (length t) (parent_of t) (parent_in ls.runs)
  reads-here v h = ap (λ (r : ListRun). r.parent) (granted.2.each v h)

  pub deep : Depths ls.len (parent_in ls.runs) (depth_of t)
  deep =
      let d = depths-are t (parent_in ls.runs) reads-here (smaller t granted.1) in
      let e = granted.2.lists in
      record { root = d.root; below = λ v z h. d.below v z (omega arith) }

  later : {x : Option Fault} → or_else (depth_fault t) (or_else (child_fault t) (entry_fault t)) ≡ x → shape_fault t ≡ x
  later {x} e =
      or-next (count_fault t) (or_else (parent_fault t) (or_else (depth_fault t) (or_else (child_fault t) (entry_fault t)))) x granted.0
      (or-next (parent_fault t) (or_else (depth_fault t) (or_else (child_fault t) (entry_fault t))) x granted.1 e)

  depths-linked : depth_fault t ≡ most_asked TooDeep most_edges ls.len (depth_of t)
  depths-linked = ap (λ k. most_asked TooDeep most_edges k (depth_of t)) (sym granted.2.lists)

  pub no-depths : (f : Fault) → Refuses (most_asked TooDeep most_edges ls.len (depth_of t)) f → shape_fault t ≡ Some f
  no-depths f e = later (or-stop (depth_fault t) (or_else (child_fault t) (entry_fault t)) f (depths-linked ∙ refused-some (most_asked TooDeep most_edges ls.len (depth_of t)) f e))

  module _ (yes-depths : Grants (most_asked TooDeep most_edges ls.len (depth_of t))) where
    depths_none : depth_fault t ≡ None
    depths_none = depths-linked ∙ granted-none (most_asked TooDeep most_edges ls.len (depth_of t)) yes-depths

    ordinals-here : Holds (length t) (ordinal t) (before ls)
    ordinals-here = ordinals-hold t (parent_in ls.runs) reads-here (before ls) (λ v h. refl)

    children-linked : child_fault t ≡ children_asked ls.len (before ls)
    children-linked = children-asked t (before ls) ordinals-here ∙ ap (λ k. children_asked k (before ls)) (sym granted.2.lists)

    pub no-children : (f : Fault) → children_asked ls.len (before ls) ≡ Some f → shape_fault t ≡ Some f
    no-children f e = later (or-next (depth_fault t) (or_else (child_fault t) (entry_fault t)) (Some f) depths_none (or-stop (child_fault t) (entry_fault t) f (children-linked ∙ e)))

    module _ (new : Lists) (made : (children_asked ls.len (before ls) ≡ None) × Renumbered ls new) where
      known : (v : ℕ) → v < length t → nth_run new.runs v ≡ record (run_read t v) { ordinal = ordinal t v }
      known zero h = made.1.root ∙ granted.2.each 0 h
      known (suc u) h =
          let e = granted.2.lists in
          let r = granted.2.each (suc u) h in
          let o = ordinals-here (suc u) h in
          let m = made.1.each (suc u) (omega arith) (omega arith) in
          cc

      -- the lists with their entries
      module _ (full : Lists) (filled : Counted t new full) where
        known-full : (v : ℕ) → v < length t → nth_run full.runs v ≡ run_counted t (record (run_read t v) { ordinal = ordinal t v }) v
        known-full v h =
            let c = counted t granted.0 in
            filled.each v (omega arith) ∙ ap (λ r. run_counted t r v) (known v h)

        len-here : full.len ≡ length t
        len-here = filled.len ∙ made.1.len ∙ granted.2.lists

        numbers : Numbers t full
        numbers = record {
          lists = len-here;
          size = filled.size;
          parents = λ v h. ap (λ (r : ListRun). r.parent) (known-full v h);
          ordinals = λ v h. ap (λ (r : ListRun). r.ordinal) (known-full v h);
          lengths = λ v h. ap (λ (r : ListRun). r.length) (known-full v h);
          counts = λ v h. ap (λ (r : ListRun). r.count) (known-full v h);
        }

        entries-linked : entry_fault t ≡ entries_asked full.len full.runs
        entries-linked =
            let c = (counted t granted.0).1 in
            let z = filled.size in
            entries-asked t full.runs (omega arith) numbers.counts ∙ ap (λ k. entries_asked k full.runs) (sym len-here)

        rest : {x : Option Fault} → entry_fault t ≡ x → shape_fault t ≡ x
        rest {x} e =
            later
            (or-next (depth_fault t) (or_else (child_fault t) (entry_fault t)) x depths_none
            (or-next (child_fault t) (entry_fault t) x (children-linked ∙ made.0) e))

        pub no-entries : (f : Fault) → Refuses (entries_asked full.len full.runs) f → shape_fault t ≡ Some f
        no-entries f e = rest (entries-linked ∙ refused-some (entries_asked full.len full.runs) f e)

        pub measured : Grants (entries_asked full.len full.runs) → (shape_fault t ≡ None) × Numbers t full
        measured e = (rest (entries-linked ∙ granted-none (entries_asked full.len full.runs) e), numbers)
