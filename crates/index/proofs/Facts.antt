-- The facts that an index's type carries, put together and read. Assumes nothing.
use Rattle.std.proofs.Common.{◌≡◌, ℕ, ◌+◌, ◌<◌, ◌≤◌, List, [], length, take, sum_by, sym, refl, ap, subst, arith}
use mathlib.Core.Logic.{∥∥₁_elim}
use base.Stored.{Coded-set, coded_list}
use Rattle.cascade.specs.contracts.row.Row.{the_row as row-row}
use Rattle.cascade.specs.declared.row.Row.{Row}
use Rattle.cascade.specs.Trees.{KeyTree, Tagged, parent_of, ordinal, depth_of, all_keys}
use Rattle.plan.specs.Table.{Tabled, runs_of}
use Rattle.plan.specs.contracts.table.ListRun.{the_row as run_row}
use Rattle.plan.specs.declared.table.ListRun.{ListRun}
use Rattle.plan.specs.declared.table.ListTable.{ListTable}
use Rattle.register.specs.Memory.{keys_laid, rows_laid}
use Rattle.register.specs.Shape.{Shaped}

module _ {K P : Type 0} (t : KeyTree K) (gs : List (List (Tagged K))) (table : ListTable) (keys : List K) (rows : List Row) (payloads : List P) where
  -- the facts of the index's ghost fields
  abbrev pub Facts : Type 0
  Facts = record {
    few : length t ≤ 128;
    smaller : (v : ℕ) → 0 < v → v < length t → parent_of t v < v;
    shallow : (v : ℕ) → v < length t → depth_of t v ≤ 8;
    narrow : (v : ℕ) → v < length t → ordinal t v < 4;
    small : all_keys t ≤ 40000;
    lists : table.len ≡ length t;
    runs : ∥ take table.len table.runs ≡ runs_of t gs ∥₁;
    keyed : take (sum_by length gs) keys ≡ keys_laid gs;
    rowed : ∥ take (sum_by length gs + length t) rows ≡ rows_laid gs ∥₁;
    loaded : all_keys t ≤ length payloads;
  }

  pub facts-of : Shaped t → Tabled t gs table → take (sum_by length gs) keys ≡ keys_laid gs → take (sum_by length gs + length t) rows ≡ rows_laid gs → all_keys t ≤ length payloads → Facts
  facts-of s b k r p = record {
    few = s.lists;
    smaller = s.smaller;
    shallow = s.shallow;
    narrow = s.narrow;
    small = s.entries;
    lists = b.lists;
    runs = ∣ b.runs ∣₁;
    keyed = k;
    rowed = ∣ r ∣₁;
    loaded = p;
  }

pub shaped-none : (K : Type 0) → Shaped {K = K} []
shaped-none K = record {
  lists = omega arith;
  smaller = λ v z h. absurd (omega arith);
  shallow = λ v h. absurd (omega arith);
  narrow = λ v h. absurd (omega arith);
  entries = omega arith;
}

pub facts-none : {K P : Type 0} (t : KeyTree K) (gs : List (List (Tagged K))) (table : ListTable) (keys : List K) (rows : List Row) (payloads : List P)
    → t ≡ [] → gs ≡ [] → table.len ≡ 0 → Facts t gs table keys rows payloads
facts-none {K} {P} t gs table keys rows payloads e f n =
    subst (λ (u : KeyTree K). Facts u gs table keys rows payloads) (sym e)
    (subst (λ (hs : List (List (Tagged K))). Facts {K = K} {P = P} [] hs table keys rows payloads) (sym f)
    (facts-of {K = K} {P = P} [] [] table keys rows payloads (shaped-none K) (record { lists = n; runs = ap (λ (k : ℕ). take k table.runs) n }) refl refl (omega arith)))

-- facts under a truncation are equations again
pub runs-out : {xs ys : List ListRun} → ∥ xs ≡ ys ∥₁ → xs ≡ ys
runs-out h = ∥∥₁_elim h (Coded-set (coded_list run_row.coded) _ _) (λ e. e)

pub rows_out : {xs ys : List Row} → ∥ xs ≡ ys ∥₁ → xs ≡ ys
rows_out h = ∥∥₁_elim h (Coded-set (coded_list row-row.coded) _ _) (λ e. e)
