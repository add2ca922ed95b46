use Rattle.std.proofs.Common.{sym, ◌∙◌, rules}
use Rattle.std.proofs.lemmas.List.{take_rest}
use Rattle.jobs.proofs.Splitting.{ends_at, ends_with}
use Rattle.jobs.proofs.lines.first_line.Goals as goal

pub returns-in-Some : goal.returns-in-Some
returns-in-Some c = rw take_rest (ends_at c.args.sheet.now c.in-Some.end (sym c.in-Some.is ∙ c.line_end.ensures))

pub returns-in-None : goal.returns-in-None
returns-in-None c = ends_with c.args.sheet.now (search rules) (sym c.in-None.is ∙ c.line_end.ensures)
