use Rattle.std.proofs.Common.{arith, rules}
use Rattle.walking.proofs.Lying.{run_small, keys-end, keys-are}
use Rattle.walking.proofs.walk.Cascade.keys_of.Goals as goal

pub overflow_add-result : goal.overflow_add-result
overflow_add-result g c = let s = run_small c.args.self.now c.args.list c.requires in record { fits = omega arith }

pub offset_bounds-self-run : goal.offset_bounds-self-run
offset_bounds-self-run g c = let s = keys-end c.args.self.now c.args.list c.requires in omega arith

pub slice_bounds-result-end : goal.slice_bounds-result-end
slice_bounds-result-end g c = let s = keys-end c.args.self.now c.args.list c.requires in search rules

pub returns : goal.returns
returns g c = keys-are c.args.self.now c.args.list c.requires
