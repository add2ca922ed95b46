use Rattle.std.proofs.Common.{◌≡◌, ◌+◌, ◌-◌, ◌≤◌, subst, arith}
use Rattle.register.specs.Limits.{most_entries}
use Rattle.plan.specs.Columns.{parent_in, length_in, Holds}
use Rattle.plan.proofs.Giving.{length_from, held, gave}
use Rattle.plan.proofs.lists.Lists.sampled.Goals as goal

pub loop-v-preserved : goal.loop-v-preserved
loop-v-preserved c =
    let s = c.args.self.now in
    let v = c.loop-v.v in
    let rs = c.loop-v.runs in
    let inv = c.loop-v.invariant in
    let few = s.few in
    let e : v ≡ v - 1 + 1 = omega arith in
    let w : held (v - 1 + 1) rs ≤ most_entries = subst (λ k. held k rs ≤ most_entries) e inv.3 in
    let h : Holds s.len (length_from (v - 1 + 1) s.len (parent_in s.runs) (length_in s.runs) (length_in rs)) (length_in rs) = subst (λ k. Holds s.len (length_from k s.len (parent_in s.runs) (length_in s.runs) (length_in rs)) (length_in rs)) e inv.2 in
    let g = gave s.len s.runs rs (v - 1) (omega arith) (omega arith) (omega arith) s.smaller inv.0 w inv.1 h in
    (g.0, g.1, g.2, g.3, omega arith)
