use Rattle.std.proofs.Common.{arith}
use Rattle.walking.proofs.Lying.{row_small, row-there, row_is}
use Rattle.walking.proofs.walk.Cascade.row.Goals as goal

pub overflow_add-result : goal.overflow_add-result
overflow_add-result g c = let s = row_small c.args.self.now c.args.list c.requires.there c.args.place c.requires.within in record { fits = omega arith }

pub overflow_add-result-2 : goal.overflow_add-result-2
overflow_add-result-2 g c = let s = row_small c.args.self.now c.args.list c.requires.there c.args.place c.requires.within in record { fits = omega arith }

pub offset_bounds-self-self : goal.offset_bounds-self-self
offset_bounds-self-self g c = let s = row_small c.args.self.now c.args.list c.requires.there c.args.place c.requires.within in record { fits = omega arith }

pub bounds-self-self : goal.bounds-self-self
bounds-self-self g c = row-there c.args.self.now c.args.list c.requires.there c.args.place c.requires.within

pub returns : goal.returns
returns g c = row_is c.args.self.now c.args.list c.requires.there c.args.place c.requires.within
