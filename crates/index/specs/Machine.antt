-- The plain register with the three memories that the index is kept in, and what each call does to them.
use Rattle.std.specs.Prelude.{◌≡◌, ℕ, ◌+◌, ◌*◌, ◌≤◌, List, [], ◌++◌, length, take, drop, Some, None, Option}
use Rattle.std.specs.declared.cmp.Ordering.{Ordering}
use Rattle.faults.specs.declared.Fault.{Fault}
use Rattle.shelves.specs.Meaning.{Branch}
use Rattle.cascade.specs.declared.row.Row.{Row}
use Rattle.cascade.specs.Trees.{augmented_lists, all_augmented, all_keys}
use Rattle.layout.specs.KeyTrees.{key_tree}
use Rattle.register.specs.Memory.{keys_laid, rows_laid, payloads_laid}
use Rattle.register.specs.Questions.{Sizes, build_fault, place_fault}
use Rattle.register.specs.Register.{Register, amended, changed_at}
use Rattle.register.specs.Shape.{Shaped}

-- what is kept, and the whole memories, also behind the part in use
pub record Machine (K P : Type 0) : Type 0 where
  pub register : Register K P
  pub keys : List K
  pub rows : List Row
  pub payloads : List P

-- what is new, unless the call is refused
abbrev pub granted : {X : Type 0} → Option Fault → X → X → X
granted None old new = new
granted (Some f) old new = old

module _ {K P : Type 0} where
  abbrev pub sizes_of : Machine K P → Sizes
  sizes_of m = record { keys = length m.keys; rows = length m.rows; payloads = length m.payloads }

  -- no lists over given memories
  abbrev pub blank : List K → List Row → List P → Machine K P
  blank ks rs ps = record { register = []; keys = ks; rows = rs; payloads = ps }

  -- back to no lists; the memories stay
  abbrev pub cleared : Machine K P → Machine K P
  cleared m = blank m.keys m.rows m.payloads

  -- one payload joined to; no other place of a memory changes
  abbrev pub amended_at : (P → P → P) → Machine K P → (v p : ℕ) → P → Machine K P
  amended_at joined m v p by = record {
    register = amended joined m.register v p by;
    keys = m.keys;
    rows = m.rows;
    payloads = changed_at (λ x. joined x by) (all_keys (take v (key_tree m.register)) + p) m.payloads;
  }

  abbrev pub after_amend : (P → P → P) → Machine K P → (v p : ℕ) → P → Machine K P
  after_amend joined m v p by = granted (place_fault (key_tree m.register) v p) m (amended_at joined m v p by)

module _ {K P : Type 0} (order : K → K → Ordering) where
  -- lists laid down from the starts of the memories; what lies behind stays
  abbrev pub built : Machine K P → List (Branch K P) → Machine K P
  built m bs =
      let t = key_tree bs in
      let gs = augmented_lists order t in
      record {
        register = bs;
        keys = keys_laid gs ++ drop (all_augmented order t) m.keys;
        rows = rows_laid gs ++ drop (all_augmented order t + length t) m.rows;
        payloads = payloads_laid bs ++ drop (all_keys t) m.payloads;
      }

  abbrev pub after_build : Machine K P → List (Branch K P) → Machine K P
  after_build m bs = granted (build_fault order (key_tree bs) (sizes_of m)) m (built m bs)

  -- what holds of every index: the shape of its lists, the memory in use, which is what build lays down for them, and its bound
  pub record Sound (m : Machine K P) : Type 0 where
    pub shaped : Shaped (key_tree m.register)
    pub keys_used : take (all_augmented order (key_tree m.register)) m.keys ≡ keys_laid (augmented_lists order (key_tree m.register))
    pub rows_used : take (all_augmented order (key_tree m.register) + length (key_tree m.register)) m.rows ≡ rows_laid (augmented_lists order (key_tree m.register))
    pub payloads_used : take (all_keys (key_tree m.register)) m.payloads ≡ payloads_laid m.register
    pub space : 3 * all_augmented order (key_tree m.register) ≤ 4 * all_keys (key_tree m.register)
