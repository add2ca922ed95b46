-- When lists are the sieve's: as a test, as a fact, and as their table says. Assumes nothing.
use Rattle.std.proofs.Common.{◌≡◌, ℕ, zero, suc, ◌+◌, ◌<◌, ◌≤◌, Bool, true, eqb, List, length, get_or, Decides, sym, refl, ap, ◌∙◌, inl, inr, arith}
use Rattle.std.specs.List.{range_with_len}
use Rattle.std.proofs.lemmas.Bool.{and_parts, and_from, eqb-true, eq-eqb, cases_eq}
use Rattle.std.proofs.lemmas.Bool.Decides.{same_from_decides}
use Rattle.shelves.specs.Slots.{sieve_lists, sieve_parent}
use Rattle.cascade.specs.SlotTree.{SieveShaped}
use Rattle.cascade.specs.Trees.{KeyTree, Tagged, parent_of}
use Rattle.plan.proofs.Runs.{run-at}
use Rattle.plan.specs.Columns.{no_run}
use Rattle.plan.specs.Table.{Tabled}
use Rattle.plan.specs.declared.table.ListRun.{ListRun}
use Rattle.plan.specs.declared.table.ListTable.{ListTable}
use Rattle.register.specs.Questions.{holds_of_all, sieve_shaped}
use Rattle.index.specs.Sieve.{SieveTable}

-- a test that holds of numbers in a row holds of each
module _ (f : ℕ → Bool) where
  each_holds : (a n : ℕ) → holds_of_all f (range_with_len a n) ≡ true → (v : ℕ) → a ≤ v → v < a + n → f v ≡ true
  each_holds a zero e v l m = absurd (omega arith)
  each_holds a (suc n) e v l m =
      let p = and_parts (f a) (holds_of_all f (range_with_len (a + 1) n)) e in
      elim (cases_eq v a) [
        | inl s ↦ ap f s ∙ p.0
        | inr s ↦ each_holds (a + 1) n p.1 v (omega arith) (omega arith)
      ]

  holds-each : (a n : ℕ) → ((v : ℕ) → a ≤ v → v < a + n → f v ≡ true) → holds_of_all f (range_with_len a n) ≡ true
  holds-each a zero h = refl
  holds-each a (suc n) h =
      and_from (f a) (holds_of_all f (range_with_len (a + 1) n)) (h a (omega arith) (omega arith)) (holds-each (a + 1) n (λ v l m. h v (omega arith) (omega arith)))

-- a list of the sieve is one of as many lists
pub there : (n v : ℕ) → n ≡ sieve_lists → v < sieve_lists → v < n
there n v e l = omega arith

module _ {K : Type 0} (t : KeyTree K) where
  -- whether list v has the sieve's parent
  abbrev fits : ℕ → Bool
  fits v = eqb (parent_of t v) (sieve_parent v)

  -- the test says whether the lists are the sieve's
  pub decides-shaped : Decides (sieve_shaped t) (SieveShaped t)
  decides-shaped = (
    λ e.
        let p = and_parts (eqb (length t) sieve_lists) (holds_of_all fits (range_with_len 1 126)) e in
        record {
          lists = eqb-true (length t) sieve_lists p.0;
          parents = λ v z l. eqb-true (parent_of t v) (sieve_parent v) (each_holds fits 1 126 p.1 v z l);
        },
    λ s.
        and_from (eqb (length t) sieve_lists) (holds_of_all fits (range_with_len 1 126)) (eq-eqb (length t) sieve_lists s.lists)
        (holds-each fits 1 126 (λ v z l. eq-eqb (parent_of t v) (sieve_parent v) (s.parents v z l))),
  )

  -- and so does their table
  module _ (gs : List (List (Tagged K))) (table : ListTable) (tabled : Tabled t gs table) where
    parent-at : (v : ℕ) → v < length t → (get_or table.runs v no_run).parent ≡ parent_of t v
    parent-at v l = ap (λ (r : ListRun). r.parent) (run-at t gs table tabled v no_run l)

    pub shaped-table : SieveTable table → SieveShaped t
    shaped-table s =
        let n : length t ≡ sieve_lists = sym tabled.lists ∙ s.lists in
        record { lists = n; parents = λ v z l. sym (parent-at v (there (length t) v n l)) ∙ s.parents v z l }

    pub table-shaped : SieveShaped t → SieveTable table
    table-shaped s = record { lists = tabled.lists ∙ s.lists; parents = λ v z l. parent-at v (there (length t) v s.lists l) ∙ s.parents v z l }

    -- what the table says is what the test says
    pub table-says : (r : Bool) → Decides r (SieveTable table) → r ≡ sieve_shaped t
    table-says r d = same_from_decides r (sieve_shaped t) (λ e. shaped-table (d.0 e), λ s. d.1 (table-shaped s)) decides-shaped
