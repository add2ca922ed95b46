-- Ranges of an index, from those of the walk over its memory. Assumes nothing.
use Rattle.std.proofs.Common.{◌≡◌, ℕ, ◌+◌, ◌-◌, ◌*◌, ◌<◌, ◌≤◌, Bool, true, false, ◌&&◌, ltb, leb, List, length, take, replicate, Some, None, Ok, Err, Decides, Option, Ordering, sym, refl, ap, ◌∙◌, subst, lit≤}
use Rattle.std.proofs.lemmas.List.{take_at}
use Rattle.std.specs.Ordering.{is_le}
use Rattle.faults.specs.Refusals.{fault}
use Rattle.faults.specs.declared.Fault.{Fault}
use Rattle.faults.specs.declared.Reason.TheVariants.{NotSieved, SlotLimits, KeyLimits}
use Rattle.orders.specs.declared.KeyOrder.{Ghosts}
use Rattle.orders.specs.Laws.{LawfulOrder}
use Rattle.shelves.specs.Slots.{slot_count}
use Rattle.cascade.proofs.Ranging.{range-within}
use Rattle.cascade.specs.SlotTree.{SieveShaped}
use Rattle.cascade.specs.Trees.{KeyTree}
use Rattle.layout.specs.KeyTrees.{key_tree, all_in_order}
use Rattle.plan.proofs.Asking.{or-stop, or-next}
use Rattle.plan.specs.Table.{Tabled}
use Rattle.register.specs.Answers.{span, filled_up, range_read, Spans}
use Rattle.register.specs.Limits.{most_spans}
use Rattle.register.specs.Questions.{ask, unless, sieve_shaped, range_fault}
use Rattle.register.specs.Register.{ranged, range_answer}
use Rattle.register.specs.declared.answers.Range.{Range}
use Rattle.register.specs.declared.answers.Span.{Span}
use Rattle.walking.specs.Ranged.{ranged_at, ranged_spans}
use Rattle.index.specs.Counts.{root_digits, RangeCounts}
use Rattle.index.specs.Held.{machine_of}
use Rattle.index.specs.Rectangles.{HoldRectangle}
use Rattle.index.specs.Sieve.{SieveTable}
use Rattle.index.specs.declared.Index.{Index}
use Rattle.index.proofs.Facts.{runs-out}
use Rattle.index.proofs.Ranging.{ranges}
use Rattle.index.proofs.Rectangles.{hold-rectangle}
use Rattle.index.proofs.Sieving.{shaped-table, table-says}
use Rattle.index.proofs.Sounding.{tree_of}

-- the questions before a range: the first "no" is the refusal
module _ {K : Type 0} (order : K → K → Ordering) (u : KeyTree K) (a b : ℕ) (low high : K) where
  not-sieved : sieve_shaped u ≡ false → range_fault order u a b low high ≡ Some (fault NotSieved 0 0)
  not-sieved e = or-stop _ _ (fault NotSieved 0 0) (ap (λ (x : Bool). ask x (fault NotSieved 0 0)) e)

  module _ (sieve : sieve_shaped u ≡ true) where
    is-sieved : ask (sieve_shaped u) (fault NotSieved 0 0) ≡ None
    is-sieved = ap (λ (x : Bool). ask x (fault NotSieved 0 0)) sieve

    not-slots : (leb a b && ltb b slot_count) ≡ false → range_fault order u a b low high ≡ Some (fault SlotLimits a b)
    not-slots e = or-next _ _ _ is-sieved (or-stop _ _ (fault SlotLimits a b) (ap (λ (x : Bool). ask x (fault SlotLimits a b)) e))

    -- what is left is whether low is not above high
    keys-left : (leb a b && ltb b slot_count) ≡ true → range_fault order u a b low high ≡ ask (is_le (order low high)) (fault KeyLimits 0 0)
    keys-left e = or-next _ _ _ is-sieved (or-next _ _ _ (ap (λ (x : Bool). ask x (fault SlotLimits a b)) e) refl)

-- the rows in use of a record
used-rows : (ss : List Span) → take (length ss) (filled_up most_spans (span 0 0 0) ss) ≡ ss
used-rows ss = take_at ss (replicate (most_spans - length ss) (span 0 0 0)) (length ss) refl

module _ {K P : Type 0} {g : Ghosts K} (order : K → K → Ordering) (i : Index K P g) (says : Bool) (told : Decides says (SieveTable i.table)) (a b : ℕ) (low high : K) where
  abbrev t : KeyTree K
  t = i.layout.tree

  tabled : Tabled t i.layout.augmented i.table
  tabled = record { lists = i.lists; runs = runs-out i.runs }

  -- what the table says of the register's lists
  test-is : says ≡ sieve_shaped (key_tree (machine_of i).register)
  test-is = table-says t i.layout.augmented i.table tabled says told ∙ sym (ap sieve_shaped (tree_of i))

  module _ (neutral : P) (joined : P → P → P) where
    refused : (f : Fault) → range_fault order (key_tree (machine_of i).register) a b low high ≡ Some f → Err f ≡ range_answer order neutral joined (machine_of i).register a b low high
    refused f e = sym (ap (λ (o : Option Fault). unless o (ranged order neutral joined (machine_of i).register a b low high)) e)

    pub no-sieve : says ≡ false → Err (fault NotSieved 0 0) ≡ range_answer order neutral joined (machine_of i).register a b low high
    no-sieve e = refused (fault NotSieved 0 0) (not-sieved order (key_tree (machine_of i).register) a b low high (sym test-is ∙ e))

    pub no-slots : says ≡ true → (leb a b && ltb b slot_count) ≡ false → Err (fault SlotLimits a b) ≡ range_answer order neutral joined (machine_of i).register a b low high
    no-slots e off = refused (fault SlotLimits a b) (not-slots order (key_tree (machine_of i).register) a b low high (sym test-is ∙ e) off)

    pub no_keys : says ≡ true → (leb a b && ltb b slot_count) ≡ true → is_le (order low high) ≡ false → Err (fault KeyLimits 0 0) ≡ range_answer order neutral joined (machine_of i).register a b low high
    no_keys e on down =
        refused (fault KeyLimits 0 0)
        (keys-left order (key_tree (machine_of i).register) a b low high (sym test-is ∙ e) on
        ∙ ap (λ (o : Bool). ask o (fault KeyLimits 0 0)) down)

  module _ (yes : says ≡ true) where
    pub shape : SieveShaped t
    shape = shaped-table t i.layout.augmented i.table tabled (told.0 yes)

    module _ (on : (leb a b && ltb b slot_count) ≡ true) (up : a ≤ b) (top : b < slot_count) (upward : is_le (order low high) ≡ true) (laws : LawfulOrder order) (neutral : P) (joined : P → P → P) (r : Range P) (is : r ≡ ranged_at order neutral joined t i.memory.payloads.now a b low high) where
      granted : range_fault order (key_tree (machine_of i).register) a b low high ≡ None
      granted =
          keys-left order (key_tree (machine_of i).register) a b low high (sym test-is ∙ yes) on
          ∙ ap (λ (x : Bool). ask x (fault KeyLimits 0 0)) upward

      pub range-answer : Ok (range_read r) ≡ range_answer order neutral joined (machine_of i).register a b low high
      range-answer =
          ap (λ (s : Spans P). Ok s) (ap range_read is ∙ ranges order laws t shape i.memory.payloads.now i.loaded a b low high upward neutral joined)
          ∙ sym (ap (λ (o : Option Fault). unless o (ranged order neutral joined (machine_of i).register a b low high)) granted)

      pub range-counts : RangeCounts order (key_tree (machine_of i).register) a b low high r.comparisons
      range-counts =
          let e = ap (λ (x : Range P). x.comparisons) is in
          subst (λ (u : KeyTree K). RangeCounts order u a b low high r.comparisons) (sym (tree_of i)) (record {
            counted = e;
            bounded = subst (λ (n : ℕ). n ≤ 2 * root_digits order t + 120) (sym e) (range-within K 120 (lit≤ tt) order laws t a b up top low high);
          })

      pub range-points : all_in_order order t ≡ true → HoldRectangle order (machine_of i).register a b low high (take r.used r.spans)
      range-points rising =
          let back = sym (tree_of i) in
          let e : take r.used r.spans ≡ ranged_spans order t a b low high =
          ap (λ (x : Range P). take x.used x.spans) is ∙ used-rows (ranged_spans order t a b low high) in
          let here : take r.used r.spans ≡ ranged_spans order (key_tree (machine_of i).register) a b low high =
          e ∙ ap (λ (u : KeyTree K). ranged_spans order u a b low high) back in
          subst (λ (ss : List Span). HoldRectangle order (machine_of i).register a b low high ss) (sym here)
          (hold-rectangle order laws (machine_of i).register (subst SieveShaped back shape) (subst (λ (u : KeyTree K). all_in_order order u ≡ true) back rising) a b up top low high)
