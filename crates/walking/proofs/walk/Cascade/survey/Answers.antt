use Rattle.std.proofs.Common.{◌≡◌, ◌+◌, ◌<◌, true, false, length, get_or, set, sum_by, filter, sym, ap, ◌∙◌, subst, ap₂, arith}
use Rattle.std.specs.List.{range_with_len}
use Rattle.std.proofs.lemmas.List.{length-set}
use Rattle.cascade.specs.SlotTree.{visited}
use Rattle.walking.proofs.Surveying.{Seen, sides_at, sides-few, both-few, seen-above, seen_skip, seen_more}
use Rattle.walking.proofs.walk.Cascade.survey.Goals as goal
use Rattle.walking.proofs.walk.Cascade.survey.Goals.{then-visits, else-visits}

pub arrive-first-requires-clause-from_parent : goal.arrive-first-requires-clause-from_parent
arrive-first-requires-clause-from_parent g c = λ below.
    ap (λ k. (get_or c.loop-list.places k (0, 0)).0) c.parent_of.ensures
    ∙ ap (λ p. p.0) (seen-above g.K.KeyOrder.order c.args.self.now.tree.now c.args.keys.now.low.now c.args.keys.now.high.now c.args.slots.first c.args.slots.last
    c.requires c.loop-list.list c.loop-list.comparisons c.loop-list.places c.loop-list-test.true c.loop-list.invariant.seen (sym c.visits.ensures ∙ c.if-visits.true) below)

pub arrive-after-requires-clause-from_parent : goal.arrive-after-requires-clause-from_parent
arrive-after-requires-clause-from_parent g c = λ below.
    ap (λ k. (get_or c.loop-list.places k (0, 0)).1) c.parent_of.ensures
    ∙ ap (λ p. p.1) (seen-above g.K.KeyOrder.order c.args.self.now.tree.now c.args.keys.now.low.now c.args.keys.now.high.now c.args.slots.first c.args.slots.last
    c.requires c.loop-list.list c.loop-list.comparisons c.loop-list.places c.loop-list-test.true c.loop-list.invariant.seen (sym c.visits.ensures ∙ c.if-visits.true) below)

pub overflow_add-comparisons : goal.overflow_add-comparisons
overflow_add-comparisons g c =
    let few = both-few g.K.KeyOrder.order c.args.self.now.tree.now c.args.keys.now.low.now c.args.keys.now.high.now g.met.K.KeyOrder.lawful c.args.self.now.laid.shaped c.requires c.loop-list.list
    c.arrive-first.result c.arrive-after.result c.arrive-first.ensures c.arrive-after.ensures in
    record { fits = omega arith }

pub overflow_add-comparisons-then-visits : goal.overflow_add-comparisons-then-visits
overflow_add-comparisons-then-visits g c =
    let few = both-few g.K.KeyOrder.order c.args.self.now.tree.now c.args.keys.now.low.now c.args.keys.now.high.now g.met.K.KeyOrder.lawful c.args.self.now.laid.shaped c.requires c.loop-list.list
    c.arrive-first.result c.arrive-after.result c.arrive-first.ensures c.arrive-after.ensures in
    let so_far = c.loop-list.invariant.seen.few in
    let l = c.loop-list-test.true in
    record { fits = omega arith }

pub loop-list-preserved : goal.loop-list-preserved
loop-list-preserved g c =
    let order = g.K.KeyOrder.order in
    let t = c.args.self.now.tree.now in
    let a = c.args.slots.first in
    let b = c.args.slots.last in
    let low = c.args.keys.now.low.now in
    let high = c.args.keys.now.high.now in
    let v = c.loop-list.list in
    let n = c.loop-list.comparisons in
    let places = c.loop-list.places in
    let was = c.loop-list.invariant in
    let room : v < length places = subst (λ m. v < m) (sym was.sized) c.loop-list-test.true in
    elim c.if-visits.branch [
      | then-visits w ↦
          let e : visited a b v ≡ true = sym c.visits.ensures ∙ w.if-visits.true in
          let first = w.arrive-first.result in
          let after = w.arrive-after.result in
          let both = ap₂ (λ x y. ((x.place, y.place), x.comparisons + y.comparisons)) w.arrive-first.ensures w.arrive-after.ensures in
          let few = sides-few order t low high g.met.K.KeyOrder.lawful c.args.self.now.laid.shaped c.requires v in
          record {
            sized = ap length w.places-is ∙ length-set places v (first.place, after.place) ∙ was.sized;
            seen = subst (λ xs. Seen order t low high a b (v + 1) c.if-visits.comparisons xs) (sym w.places-is)
                (subst (λ m. Seen order t low high a b (v + 1) m (set places v (first.place, after.place))) (sym w.comparisons-is)
                (seen_more order t low high a b v n places ((first.place, after.place), first.comparisons + after.comparisons) room e both few was.seen));
          }
      | else-visits w ↦
          let e : visited a b v ≡ false = sym c.visits.ensures ∙ w.if-visits.false in
          record {
            sized = ap length w.places-is ∙ was.sized;
            seen = subst (λ xs. Seen order t low high a b (v + 1) c.if-visits.comparisons xs) (sym w.places-is)
                (subst (λ m. Seen order t low high a b (v + 1) m places) (sym w.comparisons-is) (seen_skip order t low high a b v n places e was.seen));
          }
    ]

pub returns-clause-are : goal.returns-clause-are
returns-clause-are g c = λ v l seen.
    let h = c.loop-list-test.false in
    c.loop-list.invariant.seen.kept v (omega arith) seen

pub returns-clause-counted : goal.returns-clause-counted
returns-clause-counted g c =
    let e : c.loop-list.list ≡ 127 = let k = c.loop-list.auto.list-end in let h = c.loop-list-test.false in omega arith in
    c.loop-list.invariant.seen.count
    ∙ ap (λ n. sum_by (λ u. (sides_at g.K.KeyOrder.order c.args.self.now.tree.now c.args.keys.now.low.now c.args.keys.now.high.now u).1) (filter (visited c.args.slots.first c.args.slots.last) (range_with_len 0 n))) e
