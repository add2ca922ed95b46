use Rattle.std.proofs.Common.{◌≡◌, ◌+◌, ◌≤◌, List, length, take, Err, sum_by, Option, sym, ap, ◌∙◌, subst, arith}
use Rattle.faults.specs.declared.Fault.{Fault}
use Rattle.cascade.specs.declared.row.Row.{Row}
use Rattle.cascade.specs.Trees.{all_keys}
use Rattle.register.specs.Questions.{unless}
use Rattle.register.specs.Memory.{rows_laid}
use Rattle.index.proofs.Amending.{no-list-place, no_place, some-place, in_memory, small-place, amends, unamended}
use Rattle.index.proofs.Dressing.{length-changed}
use Rattle.index.proofs.Index.amend.Goals as goal

pub returns-then-list-self : goal.returns-then-list-self
returns-then-list-self g c =
    let i = c.args.self.now in
    let e = no-list-place i c.args.list c.args.place c.if-list-self.true in
    record {
      answer = ap (λ (f : Fault). Err f) c.new.ensures ∙ sym (ap (λ (o : Option Fault). unless o tt) e);
      after = unamended i c.args.list c.args.place _ e g.P.Payload.joined c.args.by;
    }

pub returns-then-place-run : goal.returns-then-place-run
returns-then-place-run g c =
    let i = c.args.self.now in
    let e = no_place i c.args.list c.args.place c.if-list-self.false c.if-place-run.true in
    record {
      answer = ap (λ (f : Fault). Err f) c.new-then-place-run.ensures ∙ sym (ap (λ (o : Option Fault). unless o tt) e);
      after = unamended i c.args.list c.args.place _ e g.P.Payload.joined c.args.by;
    }

pub overflow_add-run : goal.overflow_add-run
overflow_add-run g c = record { fits = small-place c.args.self.now c.args.list c.args.place c.if-list-self.false c.if-place-run.false }

pub amend-requires : goal.amend-requires
amend-requires g c = in_memory c.args.self.now c.args.list c.args.place c.if-list-self.false c.if-place-run.false

pub invariant_of-self : goal.invariant_of-self
invariant_of-self g c =
    let i = c.args.self.now in
    let n = sum_by length i.layout.augmented in
    let k = c.amend.ensures.keys in
    let r = c.amend.ensures.rows in
    let p = ap length c.amend.ensures.payloads ∙ length-changed (λ x. g.P.Payload.joined x c.args.by) _ i.memory.payloads.now in
    let l = i.loaded in
    let loaded : all_keys i.layout.tree ≤ length c.amend.new.self.payloads.now = omega (arith, p, l) in
    let rowed = subst (λ (rs : List Row). ∥ take (n + length i.layout.tree) rs ≡ rows_laid i.layout.augmented ∥₁) (sym r) i.rowed in
    record {
      few = i.few;
      smaller = i.smaller;
      shallow = i.shallow;
      narrow = i.narrow;
      small = i.small;
      lists = i.lists;
      runs = i.runs;
      keyed = ap (take n) k ∙ i.keyed;
      rowed = rowed;
      loaded = loaded;
    }

pub returns : goal.returns
returns g c =
    let i = c.args.self.now in
    let m = c.amend.new.self in
    let e = some-place i c.args.list c.args.place c.if-list-self.false c.if-place-run.false in
    record {
      answer = sym (ap (λ (o : Option Fault). unless o tt) e);
      after = amends i c.args.list c.args.place c.if-list-self.false c.if-place-run.false g.P.Payload.joined c.args.by m.keys.now m.rows.now m.payloads.now c.amend.ensures.keys c.amend.ensures.rows c.amend.ensures.payloads;
    }
