use Rattle.std.proofs.Common.{◌+◌, ◌*◌, ◌-◌, ◌∙◌, arith}
use Rattle.laying.proofs.Reading.{sample-copied}
use Rattle.laying.proofs.sources.sample.Goals as goal

pub returns : goal.returns
returns g c = c.copied.ensures ∙ sample-copied c.args.keys.now c.args.taken (4 * c.args.taken + 4 - 1) c.get.result (omega arith) c.get.ensures.lookup
