use Rattle.std.proofs.Common.{◌≡◌, true, false, map, length, set, sym, ap, ◌∙◌, ap₂, arith}
use Rattle.cascade.specs.SlotTree.{chosen}
use Rattle.register.specs.Answers.{span, filled_up}
use Rattle.walking.specs.Reached.{no_span}
use Rattle.walking.specs.Surveyed.{placed_span}
use Rattle.walking.proofs.Choosing.{chosen_before, count_yes, count_no, chosen-room, spans-yes, spans-no}
use Rattle.walking.proofs.walk.Cascade.chosen_spans.Goals as goal
use Rattle.walking.proofs.walk.Cascade.chosen_spans.Goals.{then-chooses, else-chooses}

pub offset_bounds-spans-used : goal.offset_bounds-spans-used
offset_bounds-spans-used g c =
    let s = c.args.slots in
    let room = chosen-room s.first s.last c.loop-list.list c.loop-list.used s.forward s.few c.loop-list-test.true (sym c.chooses.ensures ∙ c.if-chooses.true) c.loop-list.invariant.count in
    record { fits = omega arith }

pub bounds-spans-used : goal.bounds-spans-used
bounds-spans-used g c =
    let s = c.args.slots in
    chosen-room s.first s.last c.loop-list.list c.loop-list.used s.forward s.few c.loop-list-test.true (sym c.chooses.ensures ∙ c.if-chooses.true) c.loop-list.invariant.count

pub overflow_add-used : goal.overflow_add-used
overflow_add-used g c =
    let s = c.args.slots in
    let room = chosen-room s.first s.last c.loop-list.list c.loop-list.used s.forward s.few c.loop-list-test.true (sym c.chooses.ensures ∙ c.if-chooses.true) c.loop-list.invariant.count in
    record { fits = omega arith }

pub loop-list-preserved : goal.loop-list-preserved
loop-list-preserved g c =
    let a = c.args.slots.first in
    let b = c.args.slots.last in
    let v = c.loop-list.list in
    let used = c.loop-list.used in
    let spans = c.loop-list.spans in
    let was = c.loop-list.invariant in
    let f = placed_span g.K.KeyOrder.order c.args.self.now.tree.now c.args.places.now in
    elim c.if-chooses.branch [
      | then-chooses w ↦
          let e : chosen a b v ≡ true = sym c.chooses.ensures ∙ w.if-chooses.true in
          let room = chosen-room a b v used c.args.slots.forward c.args.slots.few c.loop-list-test.true e was.count in
          record {
            count = w.used-is ∙ count_yes a b v used e was.count;
            filled = w.spans-is ∙ ap (λ s. set spans used s) (ap₂ (λ x y. span v x y) w.own_place.ensures w.own_place-then-chooses.ensures)
                ∙ spans-yes a b f v used spans e was.count room was.filled;
          }
      | else-chooses w ↦
          let e : chosen a b v ≡ false = sym c.chooses.ensures ∙ w.if-chooses.false in
          record {
            count = w.used-is ∙ count_no a b v used e was.count;
            filled = w.spans-is ∙ spans-no a b f v spans e was.filled;
          }
    ]

pub returns : goal.returns
returns g c =
    let a = c.args.slots.first in
    let b = c.args.slots.last in
    let e : c.loop-list.list ≡ 127 = let h = c.loop-list-test.false in let k = c.loop-list.auto.list-end in omega arith in
    record {
      spans = c.loop-list.invariant.filled ∙ ap (λ v. filled_up 10 no_span (map (placed_span g.K.KeyOrder.order c.args.self.now.tree.now c.args.places.now) (chosen_before a b v))) e;
      used = c.loop-list.invariant.count ∙ ap (λ v. length (chosen_before a b v)) e;
    }
