-- Lists while they are measured.
use Rattle.std.specs.Prelude.{◌≡◌, ℕ, ◌<◌, length, Some, None, Ok, Err, Option, Result, nat_lt}
use Rattle.std.specs.List.{range_with_len}
use Rattle.faults.specs.Refusals.{fault}
use Rattle.faults.specs.declared.Fault.{Fault}
use Rattle.faults.specs.declared.Reason.TheVariants.{TooManyChildren}
use Rattle.cascade.specs.Trees.{KeyTree, parent_of, keys_at, ordinal}
use Rattle.register.specs.Limits.{most_lists, most_children}
use Rattle.register.specs.Questions.{ask, or_else, ask_each, count_fault, parent_fault}
use Rattle.plan.specs.Columns.{nth_run, parent_in, ordinal_in, length_in, count_in, Holds, children_before, run_read, run_counted, shape_fault}
use Rattle.plan.specs.declared.lists.Lists.{Lists}

-- the lists as they are read
pub record Read {K : Type 0} (t : KeyTree K) (ls : Lists) : Type 0 where
  pub lists : ls.len ≡ length t
  pub size : length ls.runs ≡ most_lists
  pub each : (v : ℕ) → v < length t → nth_run ls.runs v ≡ run_read t v

-- what is read: the lists, where there are 1 to 128 with smaller parents; otherwise the refusal
abbrev pub Reads : {K : Type 0} → KeyTree K → Result Lists Fault → Type 0
Reads t (Ok lists) = (count_fault t ≡ None) × (parent_fault t ≡ None) × Read t lists
Reads t (Err f) = or_else (count_fault t) (parent_fault t) ≡ Some f

-- is each list at most its parent's fourth child
abbrev pub children_asked : (n : ℕ) → (ordinals : ℕ → ℕ) → Option Fault
children_asked n ordinals = ask_each (λ v. ask (nat_lt (ordinals v) most_children) (fault TooManyChildren v 0)) (range_with_len 0 n)

-- the lists with their numbers among siblings, where none is too large; otherwise the refusal
module _ (old : Lists) where
  abbrev pub before : ℕ → ℕ
  before v = children_before (parent_in old.runs) v (parent_in old.runs v)

  pub record Renumbered (new : Lists) : Type 0 where
    pub len : new.len ≡ old.len
    pub size : length new.runs ≡ most_lists
    pub root : nth_run new.runs 0 ≡ nth_run old.runs 0
    pub each : (v : ℕ) → 0 < v → v < old.len → nth_run new.runs v ≡ record (nth_run old.runs v) { ordinal = before v }

  abbrev pub Numbered : Result Lists Fault → Type 0
  Numbered (Ok new) = (children_asked old.len before ≡ None) × Renumbered new
  Numbered (Err f) = children_asked old.len before ≡ Some f

-- the lists with how many entries they have
pub record Counted {K : Type 0} (t : KeyTree K) (old new : Lists) : Type 0 where
  pub len : new.len ≡ old.len
  pub size : length new.runs ≡ most_lists
  pub each : (v : ℕ) → v < most_lists → nth_run new.runs v ≡ run_counted t (nth_run old.runs v) v

-- lists have their numbers
pub record Numbers {K : Type 0} (t : KeyTree K) (ls : Lists) : Type 0 where
  pub lists : ls.len ≡ length t
  pub size : length ls.runs ≡ most_lists
  pub parents : Holds (length t) (parent_of t) (parent_in ls.runs)
  pub ordinals : Holds (length t) (ordinal t) (ordinal_in ls.runs)
  pub lengths : Holds (length t) (λ v. length (keys_at t v)) (length_in ls.runs)
  pub counts : Holds (length t) (λ v. length (keys_at t v)) (count_in ls.runs)

-- what is measured of lists: their numbers, where none of these questions gets a "no"; otherwise the refusal
abbrev pub Measures : {K : Type 0} → KeyTree K → Result Lists Fault → Type 0
Measures t (Ok lists) = (shape_fault t ≡ None) × Numbers t lists
Measures t (Err f) = shape_fault t ≡ Some f
