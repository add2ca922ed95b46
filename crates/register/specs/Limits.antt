-- The limits of an index.
use Rattle.std.specs.Prelude.{ℕ}

abbrev pub most_lists : ℕ
most_lists = 128

abbrev pub most_edges : ℕ
most_edges = 8

-- lists on the longest path from the root
abbrev pub most_stops : ℕ
most_stops = 9

abbrev pub most_children : ℕ
most_children = 4

abbrev pub most_entries : ℕ
most_entries = 40000

abbrev pub most_spans : ℕ
most_spans = 10
