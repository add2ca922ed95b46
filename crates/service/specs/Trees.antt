-- What a loaded tree holds.
use Rattle.std.specs.Prelude.{List, length, vec_items}
use Rattle.orders.specs.declared.entry.Entry.{Entry}
use Rattle.register.specs.Questions.{Sizes}
use Rattle.register.specs.Register.{Register}
use Rattle.shelves.specs.Tables.{stored}
use Rattle.shelves.specs.declared.rows.ListRow.{ListRow}
use Rattle.terms.specs.declared.key.Term.{Term}
use Rattle.terms.specs.declared.marks.Marks.{Marks}
use Rattle.service.specs.Rooms.{sizes_for}
use Rattle.service.specs.declared.tree.Tree.{Tree}

abbrev pub lists_of : Tree → List ListRow
lists_of t = vec_items t.lists

abbrev pub entries_of : Tree → List (Entry Term Marks)
entries_of t = vec_items t.entries

-- the plain register of its lists
abbrev pub register_of : Tree → Register Term Marks
register_of t = stored (lists_of t) (entries_of t)

-- the room for an index of it
abbrev pub room_of : Tree → Sizes
room_of t = sizes_for (length (lists_of t)) (length (entries_of t))
