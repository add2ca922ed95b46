use Rattle.std.proofs.Common.{Some, None, ap, ◌∙◌}
use Rattle.std.specs.List.{slice_get}
use Rattle.shelves.proofs.Points.{asked_of}
use Rattle.shelves.proofs.sieved.SievedShelf.entry.Goals as goal

pub returns-in_err-of : goal.returns-in_err-of
returns-in_err-of g c =
    c.from_residual.ensures ∙ ap (λ es. slice_get es c.args.place) (asked_of c.args.self.now.points.now c.args.list None c.in_err-of.ensures)

pub returns : goal.returns
returns g c =
    c.entry_in.ensures ∙ ap (λ es. slice_get es c.args.place) (asked_of c.args.self.now.points.now c.args.list (Some c.in_ok-of.field-0) c.in_ok-of.ensures)
