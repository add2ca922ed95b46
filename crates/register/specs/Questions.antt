-- The questions before a call. The first "no" is the refusal.
use Rattle.std.specs.Prelude.{ℕ, suc, ◌+◌, ◌-◌, Bool, true, false, cond, ◌&&◌, List, [], ◌∷◌, length, take, Some, None, Ok, Err, Option, Result, ◌==◌, nat_eq, nat_le, nat_lt}
use Rattle.std.specs.declared.cmp.Ordering.{Ordering}
use Rattle.std.specs.List.{range_with_len}
use Rattle.std.specs.Option.{option_map}
use Rattle.std.specs.Ordering.{is_le, is_lt}
use Rattle.faults.specs.Refusals.{fault}
use Rattle.faults.specs.declared.Fault.{Fault}
use Rattle.faults.specs.declared.Reason.TheVariants.{ListCount, ParentNotSmaller, TooDeep, TooManyChildren, TooManyEntries, KeyOutOfOrder, IndexMemoryShort, NoSuchList, NoSuchPlace, NotSieved, SlotLimits, KeyLimits}
use Rattle.shelves.specs.Slots.{sieve_lists, slot_count, sieve_parent}
use Rattle.cascade.specs.Trees.{KeyTree, parent_of, keys_at, ordinal, depth_of, all_keys, all_augmented}
use Rattle.register.specs.Limits.{most_lists, most_edges, most_children, most_entries}

-- is it so? no: the fault
abbrev pub ask : Bool → Fault → Option Fault
ask true f = None
ask false f = Some f

abbrev pub or_else : Option Fault → Option Fault → Option Fault
or_else None g = g
or_else (Some f) g = Some f

-- a question for each number of a list, in its order
abbrev pub ask_each : (ℕ → Option Fault) → List ℕ → Option Fault
ask_each q [] = None
ask_each q (v ∷ vs) = or_else (q v) (ask_each q vs)

-- what is granted, unless a question gets a "no"
abbrev pub unless : {X : Type 0} → Option Fault → X → Result X Fault
unless None x = Ok x
unless (Some f) x = Err f

-- how many places each memory has
pub record Sizes : Type 0 where
  pub keys : ℕ
  pub rows : ℕ
  pub payloads : ℕ

module _ {K : Type 0} (order : K → K → Ordering) where
  -- the place of the first key that is below the one before it
  abbrev pub descent_after : K → List K → Option ℕ
  descent_after k [] = None
  descent_after k (x ∷ xs) = let later = option_map suc (descent_after x xs) in cond (is_lt (order x k)) (Some 0) later

  abbrev pub descent : List K → Option ℕ
  descent [] = None
  descent (k ∷ ks) = option_map suc (descent_after k ks)

  -- is every entry's key not below the one before it in its list
  abbrev pub order_fault : KeyTree K → Option Fault
  order_fault t = ask_each (λ v. option_map (λ p. fault KeyOutOfOrder v p) (descent (keys_at t v))) (range_with_len 0 (length t))

module _ {K : Type 0} (t : KeyTree K) where
  -- are there 1 to 128 lists
  abbrev pub count_fault : Option Fault
  count_fault = ask (nat_le 1 (length t) && nat_le (length t) most_lists) (fault ListCount (length t) 0)

  -- for each list from 1 up, is its parent smaller
  abbrev pub parent_fault : Option Fault
  parent_fault = ask_each (λ v. ask (nat_lt (parent_of t v) v) (fault ParentNotSmaller v (parent_of t v))) (range_with_len 1 (length t - 1))

  -- is each list at most 8 edges below the root
  abbrev pub depth_fault : Option Fault
  depth_fault = ask_each (λ v. ask (nat_le (depth_of t v) most_edges) (fault TooDeep v 0)) (range_with_len 0 (length t))

  -- is each list at most its parent's fourth child
  abbrev pub child_fault : Option Fault
  child_fault = ask_each (λ v. ask (nat_lt (ordinal t v) most_children) (fault TooManyChildren v 0)) (range_with_len 0 (length t))

  -- do the entries, list after list, stay within 40,000
  abbrev pub entry_fault : Option Fault
  entry_fault = ask_each (λ v. ask (nat_le (all_keys (take (suc v) t)) most_entries) (fault TooManyEntries v 0)) (range_with_len 0 (length t))

module _ {K : Type 0} (order : K → K → Ordering) (t : KeyTree K) where
  -- what is asked of the lists alone
  abbrev pub lists_fault : Option Fault
  lists_fault = or_else (count_fault t) (or_else (parent_fault t) (or_else (depth_fault t) (or_else (child_fault t) (or_else (entry_fault t) (order_fault order t)))))

  -- has key memory T places, then row memory T and one for each list, then payload memory N
  abbrev pub memory_fault : Sizes → Option Fault
  memory_fault sizes =
      let T = all_augmented order t in
      or_else (ask (nat_le T sizes.keys) (fault IndexMemoryShort 1 T))
      (or_else (ask (nat_le (T + length t) sizes.rows) (fault IndexMemoryShort 2 (T + length t)))
      (ask (nat_le (all_keys t) sizes.payloads) (fault IndexMemoryShort 3 (all_keys t))))

  -- the questions before a build
  abbrev pub build_fault : Sizes → Option Fault
  build_fault sizes = or_else lists_fault (memory_fault sizes)

-- does the list exist
abbrev pub list_fault : {K : Type 0} → KeyTree K → ℕ → Option Fault
list_fault t v = ask (nat_lt v (length t)) (fault NoSuchList v 0)

-- does the list exist, then does the place
abbrev pub place_fault : {K : Type 0} → KeyTree K → (v p : ℕ) → Option Fault
place_fault t v p = or_else (list_fault t v) (ask (nat_lt p (length (keys_at t v))) (fault NoSuchPlace v p))

-- does a test hold of each number
abbrev pub holds_of_all : (ℕ → Bool) → List ℕ → Bool
holds_of_all f [] = true
holds_of_all f (v ∷ vs) = let rest = holds_of_all f vs in f v && rest

module _ {K : Type 0} where
  -- are there 127 lists with the sieve's parents
  abbrev pub sieve_shaped : KeyTree K → Bool
  sieve_shaped t = length t == sieve_lists && holds_of_all (λ v. nat_eq (parent_of t v) (sieve_parent v)) (range_with_len 1 (sieve_lists - 1))

  -- the questions before a range over the slots a to b and the keys low to high: are the lists the sieve's, are the slots
  -- in order and at most 63, is low not above high
  abbrev pub range_fault : (K → K → Ordering) → KeyTree K → (a b : ℕ) (low high : K) → Option Fault
  range_fault order t a b low high =
      or_else (ask (sieve_shaped t) (fault NotSieved 0 0))
      (or_else (ask (nat_le a b && nat_lt b slot_count) (fault SlotLimits a b))
      (ask (is_le (order low high)) (fault KeyLimits 0 0)))
