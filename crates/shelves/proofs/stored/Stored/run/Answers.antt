use Rattle.std.proofs.Common.{take, sym, ap, ◌∙◌, arith, rules}
use Rattle.std.proofs.lemmas.Grind.{common_steps}
use Rattle.std.proofs.lemmas.Option.{gets}
use Rattle.shelves.specs.Meaning.{entries_of}
use Rattle.shelves.proofs.Branches.{stored_at, stored_past, claims, part_cut}
use Rattle.shelves.proofs.stored.Stored.run.Goals as goal

pub returns-in_default : goal.returns-in_default
returns-in_default g c =
    sym (ap entries_of (stored_past c.args.self.now.lists.now c.args.self.now.entries.now c.args.list (search rules)))

pub returns : goal.returns
returns g c =
    let rows = c.args.self.now.lists.now in
    let es = c.args.self.now.entries.now in
    let v = c.args.list in
    let row = c.in-Some.row.now in
    part_cut es (claims (take v rows)) row.count c.claimed-from.result c.min.result (search rules) c.min.ensures
    ∙ sym (ap entries_of (stored_at rows es v row (grind (arith, common_steps, gets))))
