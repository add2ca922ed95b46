use Rattle.std.proofs.Common.{refl, inr}
use Rattle.std.proofs.lemmas.Result.{err_from_is_err_and}
use Rattle.service.specs.Trees.{register_of}
use Rattle.service.proofs.Asking.{built}
use Rattle.service.proofs.tree.Tree.ask.Goals as goal

pub returns-in_err-question : goal.returns-in_err-question
returns-in_err-question g c =
    let p = err_from_is_err_and c.from_residual-in_err-question.result c.from_residual-in_err-question.ensures.1 in
    let q = built (register_of c.args.self.now) c.in_ok-index.index (c.in_ok-index.ensures.ample c.in_ok-room.ensures) in
    rw (p.1, p.2) (inr (q.0, (c.in_ok-index.index, q.1, (_, c.in_err-question.ensures, refl))))

pub returns : goal.returns
returns g c =
    let q = built (register_of c.args.self.now) c.in_ok-index.index (c.in_ok-index.ensures.ample c.in_ok-room.ensures) in
    (q.0, (c.in_ok-index.index, q.1, (_, c.in_ok-question.ensures, refl)))
