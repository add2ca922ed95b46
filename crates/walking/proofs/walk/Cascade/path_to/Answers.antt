use Rattle.std.proofs.Common.{◌-◌, set, replicate, sym, subst, arith}
use Rattle.walking.proofs.Climbing.{Climbed, climbed-none, climbed-room, climbed-more, climbed-all}
use Rattle.walking.proofs.Lying.{list-few, parent_is}
use Rattle.walking.proofs.walk.Cascade.path_to.Goals as goal

pub loop-list-init : goal.loop-list-init
loop-list-init g c =
    let shaped = c.args.self.now.laid.shaped in
    climbed-none c.args.self.now.tree.now shaped.smaller c.args.end c.requires (let s = shaped.shallow c.args.end c.requires in omega arith) (replicate 9 0) (omega arith)

pub bounds-self-list : goal.bounds-self-list
bounds-self-list g c = list-few c.args.self.now c.loop-list.list c.loop-list.invariant.there

pub overflow_sub-from-in-loop-list : goal.overflow_sub-from-in-loop-list
overflow_sub-from-in-loop-list g c =
    climbed-room c.args.self.now.tree.now c.args.self.now.laid.shaped.smaller c.args.end c.loop-list.list c.loop-list.from c.loop-list.lists
    c.loop-list.invariant c.loop-list-test.true

pub loop-list-smaller : goal.loop-list-smaller
loop-list-smaller g c =
    let room = climbed-room c.args.self.now.tree.now c.args.self.now.laid.shaped.smaller c.args.end c.loop-list.list c.loop-list.from c.loop-list.lists
    c.loop-list.invariant c.loop-list-test.true in
    omega arith

pub loop-list-preserved : goal.loop-list-preserved
loop-list-preserved g c =
    let t = c.args.self.now.tree.now in
    let from = c.loop-list.from in
    subst (λ v. Climbed t c.args.end v (from - 1) (set c.loop-list.lists (from - 1) v))
    (sym (parent_is c.args.self.now c.loop-list.list c.loop-list.invariant.there))
    (climbed-more t c.args.self.now.laid.shaped.smaller c.args.end c.loop-list.list from c.loop-list.lists c.loop-list.invariant c.loop-list-test.true)

pub returns : goal.returns
returns g c =
    climbed-all c.args.self.now.tree.now c.args.self.now.laid.shaped.smaller c.args.end c.loop-list.list c.loop-list.from c.loop-list.lists c.loop-list.invariant (omega arith)
