use Rattle.std.proofs.Common.{arith}
use Rattle.jobs.proofs.Splitting.{lines-of-sheet}
use Rattle.jobs.proofs.lines.lines_of_sheet.Goals as goal

pub returns : goal.returns
returns c = lines-of-sheet _ (omega arith)
