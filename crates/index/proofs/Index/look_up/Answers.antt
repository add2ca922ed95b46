use Rattle.std.proofs.Common.{◌<◌, length, Err, sym, ap, ◌∙◌, subst}
use Rattle.faults.specs.declared.Fault.{Fault}
use Rattle.walking.specs.Walked.{looked_up}
use Rattle.index.proofs.Walked.{there, no-lookup, look-answer, look-counts}
use Rattle.index.proofs.Index.look_up.Goals as goal

pub returns-then-list-self : goal.returns-then-list-self
returns-then-list-self g c = record {
  answer = ap (λ (f : Fault). Err f) c.new.ensures ∙ no-lookup g.K.KeyOrder.order c.args.self.now c.args.list c.args.side c.args.key.now c.if-list-self.true;
  counts = tt;
}

pub look_up-requires : goal.look_up-requires
look_up-requires g c = subst (λ u. c.args.list < length u) (sym c.cascade.ensures.tree) (there g.K.KeyOrder.order c.args.self.now c.args.list c.if-list-self.false)

pub returns : goal.returns
returns g c =
    let i = c.args.self.now in
    let o = g.K.KeyOrder.order in
    let laws = g.met.K.KeyOrder.lawful in
    let is = c.look_up.ensures ∙ ap (λ u. looked_up o u c.args.list c.args.side c.args.key.now) c.cascade.ensures.tree in
    record {
      answer = look-answer o i c.args.list c.if-list-self.false laws c.args.side c.args.key.now c.look_up.result is;
      counts = look-counts o i c.args.list c.if-list-self.false laws c.args.side c.args.key.now c.look_up.result is;
    }
