use Rattle.std.proofs.Common.{set, ap, ◌∙◌}
use Rattle.index.proofs.Dressing.{set-changed}
use Rattle.index.proofs.payloads.join_at.Goals as goal

pub returns : goal.returns
returns g c =
    let ps = c.args.payloads.now in
    let x = c.index-payloads-place.result in
    ap (set ps c.args.place) c.join.ensures
    ∙ set-changed (λ y. g.P.Payload.joined y c.args.by) c.args.place ps x c.requires c.index-payloads-place.is
