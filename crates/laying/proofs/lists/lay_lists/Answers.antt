use Rattle.std.proofs.Common.{rules, ◌≡◌, ℕ, suc, ◌+◌, ◌-◌, ◌≤◌, ◌++◌, length, map, take, drop, sum_by, sym, ap, ap₂, ◌∙◌, arith}
use lib.ListN.{length-map}
use lib.Seq.{paste}
use borrow.Rule.Slice.PartMut.{post_of, mid_len}
use Rattle.std.proofs.lemmas.List.{take_all, length-take-le}
use Rattle.std.proofs.lemmas.List.FromFn.{length-map-range_with_len}
use Rattle.std.proofs.lemmas.Slice.{put_mid-paste}
use Rattle.cascade.proofs.Augmenting.{length-augmented_from}
use Rattle.cascade.specs.Rows.{row_at, rows_of}
use Rattle.cascade.specs.Trees.{keys_of, all_keys, augmented, augmented_lists, all_augmented}
use Rattle.layout.specs.KeyTrees.{key_tree}
use Rattle.plan.specs.Table.{run_at}
use Rattle.register.specs.Memory.{keys_laid, rows_laid}
use Rattle.laying.proofs.Placing.{none-laid, one-laid, run-behind, paste-front}
use Rattle.laying.proofs.Sourcing.{start-all, start-more, back-to, runs-behind, ordinals, mergeable}
use Rattle.laying.specs.Laying.{start_of, LaidBehind}
use Rattle.laying.proofs.lists.lay_lists.Goals as goal

pub loop-list-init : goal.loop-list-init
loop-list-init g c =
    let order = g.S.Key.KeyOrder.order in
    let t = key_tree (g.S.Shelf.meaning c.args.shelf.now) in
    let gs = augmented_lists order t in
    let lists = c.requires.tabled.lists in
    let l = length-augmented_from order 0 t in
    let few = c.requires.shaped.lists in
    let front = c.into_iter-list-iterator.result.iter.iter.rest.now in
    let is : front ≡ take c.args.table.now.len c.args.table.now.runs =
    ap (λ s. s.iter.iter.rest.now) c.into_iter-list-iterator.ensures.into_iter_gives
    ∙ ap (λ s. s.iter.rest.now) c.rev-list-items.ensures.source
    ∙ ap (λ s. s.rest.now) c.enumerate.ensures.source
    ∙ c.iter.ensures.rest in
    let n : length front ≡ c.args.table.now.len =
    ap length is ∙ ap length c.requires.tabled.runs ∙ length-map-range_with_len (run_at t gs) 0 (length t) ∙ sym lists in
    let none : c.into_iter-list-iterator.result.iter.count ≡ 0 =
    ap (λ s. s.iter.count) c.into_iter-list-iterator.ensures.into_iter_gives ∙ ap (λ s. s.count) c.rev-list-items.ensures.source ∙ c.enumerate.ensures.count in
    let e : start_of order t (length front) ≡ all_augmented order t = ap (sum_by length) (take_all (length front) gs (omega arith)) in
    record {
      callable = (tt, tt, omega arith);
      finite = tt;
      from = none;
      runs = is ∙ ap (λ (m : ℕ). take m c.args.table.now.runs) (sym n);
      few = omega arith;
      keys = none-laid keys_of gs c.args.keys.now (length front) (start_of order t (length front)) (all_augmented order t) (omega arith) e;
      rows = none-laid rows_of gs c.args.rows.now (length front) (start_of order t (length front) + length front) (all_augmented order t + length t) (omega arith) (omega arith);
    }

pub overflow_add-end : goal.overflow_add-end
overflow_add-end g c =
    let from = c.loop-list.invariant.from in
    let own = back-to _ g.met.S.Key.KeyOrder.lawful _ _ _ _ _ c.requires _ _ _ c.in-Some.list c.loop-list.invariant.runs c.loop-list.invariant.few c.in-Some.ensures.steps.1.0
    (omega (arith, c.in-Some.ensures.steps.1.1)) in
    omega arith

pub split_at_mut-front-requires : goal.split_at_mut-front-requires
split_at_mut-front-requires g c =
    let from = c.loop-list.invariant.from in
    let own = back-to _ g.met.S.Key.KeyOrder.lawful _ _ _ _ _ c.requires _ _ _ c.in-Some.list c.loop-list.invariant.runs c.loop-list.invariant.few c.in-Some.ensures.steps.1.0
    (omega (arith, c.in-Some.ensures.steps.1.1)) in
    omega arith

pub children_of-requires : goal.children_of-requires
children_of-requires g c =
    let order = g.S.Key.KeyOrder.order in
    let t = key_tree (g.S.Shelf.meaning c.args.shelf.now) in
    let run = c.in-Some.run'.now in
    let v = c.in-Some.list in
    let from = c.loop-list.invariant.from in
    let own = back-to _ g.met.S.Key.KeyOrder.lawful _ _ _ _ _ c.requires _ _ _ v c.loop-list.invariant.runs c.loop-list.invariant.few c.in-Some.ensures.steps.1.0 (omega (arith, c.in-Some.ensures.steps.1.1)) in
    let laws = g.met.S.Key.KeyOrder.lawful in
    let lists = c.requires.tabled.lists in
    let same = c.loop-list.auto.keys in
    let size = c.split_at_mut-front.ensures.back_len in (
      omega arith,
      (
        ordinals order laws t c.args.table.now (length c.args.keys.now) (length c.args.rows.now) (all_keys t) c.requires,
        (
          omega arith,
          runs-behind order laws t c.args.table.now (length c.args.keys.now) (length c.args.rows.now) (all_keys t) c.requires v own.0 (run.start + run.length) own.5
              (length c.split_at_mut-front.result.1.now) (omega arith),
        ),
      ),
    )

pub overflow_add-run : goal.overflow_add-run
overflow_add-run g c =
    let from = c.loop-list.invariant.from in
    let own = back-to _ g.met.S.Key.KeyOrder.lawful _ _ _ _ _ c.requires _ _ _ c.in-Some.list c.loop-list.invariant.runs c.loop-list.invariant.few c.in-Some.ensures.steps.1.0
    (omega (arith, c.in-Some.ensures.steps.1.1)) in
    omega arith

pub overflow_add-end-in-loop-list : goal.overflow_add-end-in-loop-list
overflow_add-end-in-loop-list g c =
    let from = c.loop-list.invariant.from in
    let own = back-to _ g.met.S.Key.KeyOrder.lawful _ _ _ _ _ c.requires _ _ _ c.in-Some.list c.loop-list.invariant.runs c.loop-list.invariant.few c.in-Some.ensures.steps.1.0
    (omega (arith, c.in-Some.ensures.steps.1.1)) in
    omega arith

pub overflow_add-end-in-loop-list-2 : goal.overflow_add-end-in-loop-list-2
overflow_add-end-in-loop-list-2 g c =
    let from = c.loop-list.invariant.from in
    let own = back-to _ g.met.S.Key.KeyOrder.lawful _ _ _ _ _ c.requires _ _ _ c.in-Some.list c.loop-list.invariant.runs c.loop-list.invariant.few c.in-Some.ensures.steps.1.0
    (omega (arith, c.in-Some.ensures.steps.1.1)) in
    omega arith

pub offset_bounds-rows-run : goal.offset_bounds-rows-run
offset_bounds-rows-run g c =
    let from = c.loop-list.invariant.from in
    let own = back-to _ g.met.S.Key.KeyOrder.lawful _ _ _ _ _ c.requires _ _ _ c.in-Some.list c.loop-list.invariant.runs c.loop-list.invariant.few c.in-Some.ensures.steps.1.0
    (omega (arith, c.in-Some.ensures.steps.1.1)) in
    omega arith

pub slice_bounds-merge-end-in-loop-list : goal.slice_bounds-merge-end-in-loop-list
slice_bounds-merge-end-in-loop-list g c =
    let run = c.in-Some.run'.now in
    let v = c.in-Some.list in
    let from = c.loop-list.invariant.from in
    let own = back-to _ g.met.S.Key.KeyOrder.lawful _ _ _ _ _ c.requires _ _ _ v c.loop-list.invariant.runs c.loop-list.invariant.few c.in-Some.ensures.steps.1.0 (omega (arith, c.in-Some.ensures.steps.1.1)) in
    let room : run.start + run.length + v + 1 ≤ length c.loop-list.rows = omega (arith, c.loop-list.auto.rows) in
    search rules

pub merge-requires : goal.merge-requires
merge-requires g c =
    let order = g.S.Key.KeyOrder.order in
    let t = key_tree (g.S.Shelf.meaning c.args.shelf.now) in
    let rest = c.loop-list.list-iterator.iter.iter.rest.now in
    let run = c.in-Some.run'.now in
    let v = c.in-Some.list in
    let from = c.loop-list.invariant.from in
    let own = back-to _ g.met.S.Key.KeyOrder.lawful _ _ _ _ _ c.requires _ _ _ v c.loop-list.invariant.runs c.loop-list.invariant.few c.in-Some.ensures.steps.1.0 (omega (arith, c.in-Some.ensures.steps.1.1)) in
    let laws = g.met.S.Key.KeyOrder.lawful in
    let gs = augmented_lists order t in
    let lists = c.requires.tabled.lists in
    let l = length-augmented_from order 0 t in
    let same = c.loop-list.auto.keys in
    let long = c.split_at_mut-front.ensures.front_len in
    let part = mid_len run.start (length c.split_at_mut-front.result.0.now) c.split_at_mut-front.result.0.now (omega arith) in
    let all = start-all order t (v + 1) in
    let room = c.requires.key_room in
    let laid : LaidBehind order t v c.loop-list.keys =
    λ w m h.
    ap (λ ks. take (length (augmented order t w)) (drop (start_of order t w) ks)) c.loop-list.invariant.keys
    ∙ run-behind keys_of (λ xs. length-map xs (λ x. x.1)) gs (length rest) w (take (start_of order t (length rest)) c.args.keys.now) (drop (all_augmented order t) c.args.keys.now)
    (omega arith) (omega arith) (length-take-le (start_of order t (length rest)) c.args.keys.now (omega (arith, start-all order t (length rest)))) in (
      omega arith,
      (
        mergeable order laws t c.args.table.now (length c.args.keys.now) (length c.args.rows.now) (all_keys t) c.requires v own.0 (run.start + run.length) own.5
            c.loop-list.keys c.split_at_mut-front.result.1.now c.split_at_mut-front.ensures.back laid (map (λ k. k.now) c.children_of.result) c.children_of.ensures,
        (
          part ∙ omega arith,
          mid_len (run.start + v) (run.start + run.length + v + 1) c.loop-list.rows (omega (arith, c.loop-list.auto.rows)) ∙ omega arith,
        ),
      ),
    )

pub loop-list-preserved : goal.loop-list-preserved
loop-list-preserved g c =
    let order = g.S.Key.KeyOrder.order in
    let t = key_tree (g.S.Shelf.meaning c.args.shelf.now) in
    let rest = c.loop-list.list-iterator.iter.iter.rest.now in
    let front = c.next.new.self.iter.iter.rest.now in
    let run = c.in-Some.run'.now in
    let v = c.in-Some.list in
    let from = c.loop-list.invariant.from in
    let own = back-to _ g.met.S.Key.KeyOrder.lawful _ _ _ _ _ c.requires _ _ _ v c.loop-list.invariant.runs c.loop-list.invariant.few c.in-Some.ensures.steps.1.0 (omega (arith, c.in-Some.ensures.steps.1.1)) in
    let gs = augmented_lists order t in
    let xs = augmented order t v in
    let lists = c.requires.tabled.lists in
    let l = length-augmented_from order 0 t in
    let key_room = c.requires.key_room in
    let row_room = c.requires.row_room in
    let all = start-all order t (length rest) in
    let more : start_of order t (length rest) ≡ start_of order t v + length xs = ap (start_of order t) own.1 ∙ start-more order t v own.0 in
    let keys : length xs ≡ length (keys_of xs) = sym (length-map xs (λ x. x.1)) in
    let rows : length (rows_of xs) ≡ suc (length xs) = length-map-range_with_len (λ q. row_at q xs) 0 (suc (length xs)) in
    let part = c.split_at_mut-front.result.0.now in
    let behind = c.split_at_mut-front.result.1.now in
    let long = c.split_at_mut-front.ensures.front_len in
    let at : v ≡ length front = omega (arith, c.in-Some.ensures.steps.1.1) in
    let laid_keys =
    ap (λ ks. take run.start part ++ (ks ++ post_of run.start (length part - run.start) part) ++ behind) c.merge.ensures.keys
    ∙ paste-front part behind (keys_of xs) run.start run.length (omega arith) (omega arith)
    ∙ ap (λ ks. paste ks run.start (keys_of xs) run.length) (sym c.split_at_mut-front.ensures.value)
    ∙ ap₂ (λ (i n : ℕ). paste c.loop-list.keys i (keys_of xs) n) own.3 own.4
    ∙ one-laid keys_of gs c.args.keys.now c.loop-list.keys (drop (all_augmented order t) c.args.keys.now) v (length rest) (start_of order t v) (start_of order t (length rest)) (length xs)
    own.1 (omega arith) more keys (omega arith) c.loop-list.invariant.keys in
    let laid_rows =
    put_mid-paste (run.start + v) (run.start + run.length + v + 1 - (run.start + v)) c.loop-list.rows c.merge.new.rows (rows_of xs) (run.length + 1) c.merge.ensures.rows (omega arith) (omega arith)
    ∙ ap₂ (λ (i n : ℕ). paste c.loop-list.rows (i + v) (rows_of xs) (n + 1)) own.3 own.4
    ∙ one-laid rows_of gs c.args.rows.now c.loop-list.rows (drop (all_augmented order t + length t) c.args.rows.now) v (length rest) (start_of order t v + v) (start_of order t (length rest) + length rest) (length xs + 1)
    own.1 (omega arith) (omega arith) (omega arith) (omega arith) c.loop-list.invariant.rows in
    record {
      callable = (tt, tt, omega arith);
      finite = tt;
      from = c.in-Some.ensures.steps.0 ∙ from;
      runs = own.2;
      few = omega arith;
      keys = laid_keys ∙ ap (λ (n : ℕ). take (start_of order t n) c.args.keys.now ++ (keys_laid (drop n gs) ++ drop (all_augmented order t) c.args.keys.now)) at;
      rows = laid_rows ∙ ap (λ (n : ℕ). take (start_of order t n + n) c.args.rows.now ++ (rows_laid (drop n gs) ++ drop (all_augmented order t + length t) c.args.rows.now)) at;
    }

pub returns : goal.returns
returns g c =
    let order = g.S.Key.KeyOrder.order in
    let t = key_tree (g.S.Shelf.meaning c.args.shelf.now) in
    let gs = augmented_lists order t in
    let keys = c.args.keys.now in
    let rows = c.args.rows.now in
    let e : length c.loop-list.list-iterator.iter.iter.rest.now ≡ 0 = c.in-None.ensures.steps.1.0 in
    record {
      keys = c.loop-list.invariant.keys ∙ ap (λ (v : ℕ). take (start_of order t v) keys ++ (keys_laid (drop v gs) ++ drop (all_augmented order t) keys)) e;
      rows = c.loop-list.invariant.rows ∙ ap (λ (v : ℕ). take (start_of order t v + v) rows ++ (rows_laid (drop v gs) ++ drop (all_augmented order t + length t) rows)) e;
    }
