-- The machine that an index stands for.
use Rattle.std.specs.Prelude.{List, [], ◌∷◌, length, drop}
use Rattle.orders.specs.declared.KeyOrder.{Ghosts}
use Rattle.orders.specs.declared.entry.Entry.{Entry}
use Rattle.shelves.specs.Meaning.{Branch}
use Rattle.cascade.specs.Trees.{KeyTree}
use Rattle.index.specs.Machine.{Machine}
use Rattle.index.specs.declared.Index.{Index}

module _ {K P : Type 0} where
  -- keys with the payloads at their places
  abbrev pub paired : List K → List P → List (Entry K P)
  paired [] ps = []
  paired (k ∷ ks) [] = []
  paired (k ∷ ks) (p ∷ ps) = record { key = k; payload = p } ∷ paired ks ps

  -- lists of keys with payloads, list after list
  abbrev pub dressed : KeyTree K → List P → List (Branch K P)
  dressed [] ps = []
  dressed (b ∷ t) ps = record { parent = b.0; entries = paired b.1 ps } ∷ dressed t (drop (length b.1) ps)

  abbrev pub machine_of : {g : Ghosts K} → Index K P g → Machine K P
  machine_of i = record {
    register = dressed i.layout.tree i.memory.payloads.now;
    keys = i.memory.keys.now;
    rows = i.memory.rows.now;
    payloads = i.memory.payloads.now;
  }
