use Rattle.std.proofs.Common.{sym, ap, ◌∙◌, arith}
use Rattle.cascade.specs.SlotTree.{inside}
use Rattle.walking.proofs.Visiting.{visited-below, visited-else}
use Rattle.walking.proofs.bounds.SlotRange.visits.Goals as goal
use Rattle.walking.proofs.bounds.SlotRange.visits.Goals.{else-list-gt0-via-then-list-gt0+else-covers, else-list-gt0-via-else-list-gt0}

pub returns-then-covers : goal.returns-then-covers
returns-then-covers c =
    sym (visited-below c.args.self.first c.args.self.last c.args.list c.requires c.if-list-gt0.true (sym (c.covers.ensures ∙ ap (inside c.args.self.first c.args.self.last) c.parent_of.ensures) ∙ c.if-covers.true))

pub returns : goal.returns
returns c =
    c.meets.ensures
    ∙ sym (visited-else c.args.self.first c.args.self.last c.args.list c.requires
    (λ z. elim c.else-list-gt0.branch [
      | else-list-gt0-via-then-list-gt0+else-covers w ↦ sym (w.covers.ensures ∙ ap (inside c.args.self.first c.args.self.last) w.parent_of.ensures) ∙ w.if-covers.false
      | else-list-gt0-via-else-list-gt0 w ↦ absurd (let n = w.if-list-gt0.false in omega arith)
    ]))
