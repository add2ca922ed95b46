use Rattle.std.proofs.Common.{◌≡◌, ◌+◌, ◌<◌, ◌≤◌, true, false, length, drop, sym, ap, ◌∙◌, arith}
use Rattle.std.specs.Option.{option_map}
use Rattle.std.specs.Ordering.{is_lt}
use Rattle.std.proofs.lemmas.List.{drop_all}
use Rattle.faults.specs.Refusals.{fault}
use Rattle.faults.specs.declared.Reason.TheVariants.{KeyOutOfOrder}
use Rattle.cascade.specs.Trees.{keys_at}
use Rattle.layout.specs.KeyTrees.{key_tree}
use Rattle.shelves.specs.Meaning.{count_at}
use Rattle.register.specs.Questions.{descent}
use Rattle.plan.proofs.Asking.{grant, refuse}
use Rattle.plan.proofs.Descents.{descent_from, from_first, from-lower, from_more}
use Rattle.plan.proofs.Reading.{count-read, entry_read, entry-there, no-entry}
use Rattle.plan.proofs.questions.ask_list_order.Goals as goal
use Rattle.plan.proofs.questions.ask_list_order.Goals.{in-Some-entry+else-is_below, in_default-entry}

pub returns-in_default : goal.returns-in_default
returns-in_default g c =
    let bs = g.S.Shelf.meaning c.args.shelf.now in
    let v = c.args.list in
    let o = g.S.Key.KeyOrder.order in
    grant (option_map (λ p. fault KeyOutOfOrder v p) (descent o (keys_at (key_tree bs) v)))
    (ap (λ ks. option_map (λ p. fault KeyOutOfOrder v p) (descent o ks)) (no-entry bs v (λ e h. c.in_default.not-Some e (c.entry.ensures ∙ h))))

pub loop-place-init : goal.loop-place-init
loop-place-init g c =
    let bs = g.S.Shelf.meaning c.args.shelf.now in
    let v = c.args.list in
    let o = g.S.Key.KeyOrder.order in
    let e = c.in-Some.first in
    from_first o e.key (drop 1 (keys_at (key_tree bs) v)) ∙ ap (descent o) (sym (entry_read bs v 0 e (sym c.entry.ensures ∙ c.in-Some.is)))

pub returns-then-is_below : goal.returns-then-is_below
returns-then-is_below g c =
    let bs = g.S.Shelf.meaning c.args.shelf.now in
    let v = c.args.list in
    let o = g.S.Key.KeyOrder.order in
    let ks = keys_at (key_tree bs) v in
    let n = c.loop-place.place in
    let e = c.in-Some-entry.entry in
    let lower : is_lt (o e.key c.loop-place.before) ≡ true = sym c.is_below.ensures ∙ c.if-is_below.true in
    let there = entry_read bs v n e (sym c.entry-in-loop-place.ensures ∙ c.in-Some-entry.is) in
    simp c.new.ensures
    (refuse (option_map (λ p. fault KeyOutOfOrder v p) (descent o ks)) (fault KeyOutOfOrder v n)
    (ap (option_map (λ p. fault KeyOutOfOrder v p)) (sym c.loop-place.invariant ∙ from-lower o n c.loop-place.before e.key ks there lower)))

pub loop-place-preserved : goal.loop-place-preserved
loop-place-preserved g c =
    let bs = g.S.Shelf.meaning c.args.shelf.now in
    let v = c.args.list in
    let o = g.S.Key.KeyOrder.order in
    let ks = keys_at (key_tree bs) v in
    let n = c.loop-place.place in
    let go : descent_from o (n + 1) c.match-entry-2.before (drop (n + 1) ks) ≡ descent o ks =
    elim c.match-entry-2.branch [
      | in-Some-entry+else-is_below w ↦
          let e = w.in-Some-entry.entry in
          let rises : is_lt (o e.key c.loop-place.before) ≡ false = sym w.is_below.ensures ∙ w.if-is_below.false in
          let there = entry_read bs v n e (sym c.entry-in-loop-place.ensures ∙ w.in-Some-entry.is) in
          ap (λ k. descent_from o (n + 1) k (drop (n + 1) ks)) w.before-is ∙ from_more o n c.loop-place.before e.key ks there rises ∙ c.loop-place.invariant
      | in_default-entry w ↦
          let l : n < count_at bs v = omega arith in
          absurd (entry-there bs v n l (λ e h. w.in_default-entry.not-Some e (c.entry-in-loop-place.ensures ∙ h)))
    ] in
    go

pub returns : goal.returns
returns g c =
    let bs = g.S.Shelf.meaning c.args.shelf.now in
    let v = c.args.list in
    let o = g.S.Key.KeyOrder.order in
    let ks = keys_at (key_tree bs) v in
    let n = c.loop-place.place in
    let r = count-read bs v in
    let l : length ks ≤ n = omega arith in
    grant (option_map (λ p. fault KeyOutOfOrder v p) (descent o ks))
    (ap (option_map (λ p. fault KeyOutOfOrder v p)) (sym c.loop-place.invariant ∙ ap (descent_from o n c.loop-place.before) (drop_all n ks l)))
