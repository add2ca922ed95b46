-- The lists that tables mean.
use Rattle.std.specs.Prelude.{ℕ, List, [], ◌∷◌, map, take, drop, filter}
use Rattle.std.specs.List.{range_with_len}
use Rattle.orders.specs.declared.entry.Entry.{Entry}
use Rattle.shelves.specs.Meaning.{Branch}
use Rattle.shelves.specs.Slots.{sieve_lists, sieve_parent, covers}
use Rattle.shelves.specs.declared.rows.ListRow.{ListRow}
use Rattle.shelves.specs.declared.rows.Point.{Point}

module _ {K P : Type 0} where
  -- a list table and an entry table: each list takes the entries after those of the list before it,
  -- as many as it claims and the table still has
  abbrev pub stored : List ListRow → List (Entry K P) → List (Branch K P)
  stored [] es = []
  stored (r ∷ rs) es = record { parent = r.parent; entries = take r.count es } ∷ stored rs (drop r.count es)

  abbrev pub entry_of : Point K P → Entry K P
  entry_of p = record { key = p.key; payload = p.payload }

  -- the points in the slots that list v covers, in point order
  abbrev pub sifted : List (Point K P) → ℕ → List (Entry K P)
  sifted ps v = map entry_of (filter (λ p. covers v p.slot) ps)

  -- a point table: the 127 lists of the sieve
  unfoldable pub sieved : List (Point K P) → List (Branch K P)
  sieved ps = map (λ v. record { parent = sieve_parent v; entries = sifted ps v }) (range_with_len 0 sieve_lists)
