-- Key trees: the lists of a shelf without their payloads, and lists in order.
use Rattle.std.specs.Prelude.{Bool, true, ◌&&◌, List, [], ◌∷◌, map}
use Rattle.std.specs.declared.cmp.Ordering.{Ordering}
use Rattle.orders.specs.Places.{in_order}
use Rattle.shelves.specs.Meaning.{Branch, keys_of}
use Rattle.cascade.specs.Trees.{KeyTree}

-- the parent and the keys of each list
abbrev pub key_tree : {K P : Type 0} → List (Branch K P) → KeyTree K
key_tree bs = map (λ b. (b.parent, keys_of b.entries)) bs

-- whether every list is in order
abbrev pub all_in_order : {K : Type 0} → (K → K → Ordering) → KeyTree K → Bool
all_in_order order [] = true
all_in_order order (b ∷ bs) = in_order order b.1 && all_in_order order bs
