-- What a shelf means: lists, each with the number of its parent and its entries, and the answers to the four questions.
use Rattle.std.specs.Prelude.{ℕ, List, [], map, length, Some, None, Option}
use Rattle.std.specs.List.{slice_get}
use Rattle.std.specs.Option.{option_map}
use Rattle.orders.specs.declared.entry.Entry.{Entry}

-- a list of a shelf; the parent number of list 0, the root, is ignored
pub record Branch (K P : Type 0) : Type 0 where
  pub parent : ℕ
  pub entries : List (Entry K P)

module _ {K P : Type 0} where
  abbrev pub entries_of : Option (Branch K P) → List (Entry K P)
  entries_of None = []
  entries_of (Some b) = b.entries

  -- the parent of list v, nothing where there is no list v
  abbrev pub parent_at : List (Branch K P) → ℕ → Option ℕ
  parent_at bs v = option_map (λ b. b.parent) (slice_get bs v)

  -- the number of entries of list v, 0 where there is no list v
  abbrev pub count_at : List (Branch K P) → ℕ → ℕ
  count_at bs v = length (entries_of (slice_get bs v))

  -- the entry at place p of list v, nothing where there is no list v or no place p
  abbrev pub entry_at : List (Branch K P) → ℕ → ℕ → Option (Entry K P)
  entry_at bs v p = slice_get (entries_of (slice_get bs v)) p

  -- the lists as a tree of keys: parents and keys, without payloads
  abbrev pub keys_of : List (Entry K P) → List K
  keys_of es = map (λ e. e.key) es

  abbrev pub payloads_of : List (Entry K P) → List P
  payloads_of es = map (λ e. e.payload) es
