-- The lines that are still to come.
use Rattle.std.specs.Prelude.{ℕ, List}
use Rattle.jobs.specs.Sheets.{lines_of}
use Rattle.jobs.specs.declared.lines.Lines.{Lines}

abbrev pub left : Lines → List (List ℕ)
left lines = lines_of lines.rest.now
