-- The sources of an augmented list, where the lists behind it lie in memory.
use Rattle.std.proofs.Common.{◌≡◌, ℕ, zero, suc, ◌+◌, ◌-◌, ◌<◌, ◌≤◌, ◌⊎◌, List, [], ◌∷◌, ◌++◌, length, get_or, take, drop, sum_by, Ordering, sym, refl, ap, ◌∙◌, inl, inr, arith, length-append}
use Rattle.std.proofs.lemmas.List.{drop-drop, take-take, take_at, drop_at, get_or-drop, get_or-take}
use Rattle.std.specs.List.{push}
use Rattle.std.proofs.lemmas.List.Sums.{sum_by_more, sum_by-take-le}
use Rattle.std.proofs.lemmas.Bool.{cases_lt}
use Rattle.orders.specs.Laws.{LawfulOrder}
use Rattle.cascade.specs.Lists.{samples}
use Rattle.cascade.specs.Theorems.{IsAugmented, part_of}
use Rattle.cascade.specs.Trees.{KeyTree, parent_of, keys_at, children_of, ordinal, keys_of, augmented_lists, augmented, all_augmented}
use Rattle.cascade.proofs.Augmenting.{length-augmented_from, child-at, child-back}
use Rattle.cascade.proofs.Spacing.{space}
use Rattle.cascade.proofs.Words.{defined}
use Rattle.plan.specs.Table.{run_at}
use Rattle.plan.specs.declared.table.ListRun.{ListRun}
use Rattle.plan.specs.declared.table.ListTable.{ListTable}
use Rattle.laying.proofs.Reading.{run-at}
use Rattle.laying.specs.Children.{no_run, run_of, keys_in, Ordinals, RunsBehind, ChildKeys}
use Rattle.laying.specs.Laying.{CanLay, start_of, LaidBehind}
use Rattle.laying.specs.Merging.{source_count, source_keys, Mergeable}

module _ {K : Type 0} (order : K → K → Ordering) (t : KeyTree K) where
  -- runs follow one another within all
  pub start-more : (v : ℕ) → v < length t → start_of order t (v + 1) ≡ start_of order t v + length (augmented order t v)
  start-more v h = let l = length-augmented_from order 0 t in sum_by_more length (augmented_lists order t) v [] (omega arith)

  pub start-all : (v : ℕ) → start_of order t v ≤ all_augmented order t
  start-all v = sum_by-take-le length (augmented_lists order t) v

  start-later : (v w : ℕ) → v ≤ w → start_of order t v ≤ start_of order t w
  start-later v w h =
      let e = ap (sum_by length) (take-take v w (augmented_lists order t) h) in
      let l = sum_by-take-le length (take w (augmented_lists order t)) v in
      omega arith

step_back : {X : Type 0} (rest front xs : List X) (x d : X) → rest ≡ take (length rest) xs → rest ≡ push front x
    → (length rest ≡ length front + 1) × (front ≡ take (length front) xs) × (x ≡ get_or xs (length front) d)
step_back rest front xs x d e p =
    let n = length front in
    let l : length rest ≡ n + 1 = ap length p ∙ length-append front (x ∷ []) in
    let all : take (n + 1) xs ≡ front ++ (x ∷ []) = ap (λ (m : ℕ). take m xs) (sym l) ∙ sym e ∙ p in (
      l,
      sym (take_at front (x ∷ []) n refl) ∙ ap (take n) (sym all) ∙ take-take n (n + 1) xs (omega arith),
      ap (λ zs. get_or zs 0 d) (sym (drop_at front (x ∷ []) n refl))
          ∙ get_or-drop n (front ++ (x ∷ [])) 0 d
          ∙ ap (λ zs. get_or zs (n + 0) d) (sym all)
          ∙ ap (λ (m : ℕ). get_or (take (n + 1) xs) m d) (omega arith)
          ∙ get_or-take (n + 1) xs n d (omega arith),
    )

module _ {K : Type 0} (order : K → K → Ordering) (laws : LawfulOrder order) (t : KeyTree K) (table : ListTable) (k r p : ℕ) (can : CanLay order t table k r p) where
  table-run : (v : ℕ) → v < length t → run_of table.runs v ≡ run_at t (augmented_lists order t) v
  table-run v h = run-at t (augmented_lists order t) table can.tabled v h

  pub ordinals : Ordinals table.runs table.len
  ordinals =
      let n = can.tabled.lists in
      let lists = can.shaped.lists in
      let parent : (v : ℕ) → v < table.len → (run_of table.runs v).parent ≡ parent_of t v = λ v h. ap (λ (x : ListRun). x.parent) (table-run v (omega arith)) in
      let place : (v : ℕ) → v < table.len → (run_of table.runs v).ordinal ≡ ordinal t v = λ v h. ap (λ (x : ListRun). x.ordinal) (table-run v (omega arith)) in
      record {
        few = omega arith;
        below = λ w z h. let o = place w h in let s = can.shaped.narrow w (omega arith) in omega arith;
        apart = λ u w z h y l e o.
            let parents : parent_of t u ≡ parent_of t w = sym (parent u h) ∙ e ∙ parent w l in
            let places : ordinal t u ≡ ordinal t w = sym (place u h) ∙ o ∙ place w l in
            sym (child-at t u z (omega arith)).0
            ∙ ap (λ (v : ℕ). get_or (children_of t v) (ordinal t u) 0) parents
            ∙ ap (λ (j : ℕ). get_or (children_of t (parent_of t w)) j 0) places
            ∙ (child-at t w y (omega arith)).0;
      }

  -- the step from the runs in front of a place back to those in front of list v: where the list lies, and that there is room for it
  pub back-to : (rest front : List ListRun) (run : ListRun) (v : ℕ) → rest ≡ take (length rest) table.runs → length rest ≤ table.len → rest ≡ push front run → v ≡ length front
      → (v < length t) × (length rest ≡ v + 1) × (front ≡ take (length front) table.runs) × (run.start ≡ start_of order t v) × (run.length ≡ length (augmented order t v))
      × (run.start + run.length ≡ start_of order t (v + 1)) × (run.start + run.length ≤ k) × (run.start + run.length + v + 1 ≤ r)
  back-to rest front run v e m p q =
      let s = step_back rest front table.runs run no_run e p in
      let n = can.tabled.lists in
      let l = s.0 in
      let h : v < length t = omega arith in
      let is : run ≡ run_at t (augmented_lists order t) v = s.2 ∙ ap (run_of table.runs) (sym q) ∙ table-run v h in
      let a = ap (λ (x : ListRun). x.start) is in
      let b = ap (λ (x : ListRun). x.length) is in
      let more = start-more order t v h in
      let all = start-all order t (v + 1) in
      let key_room = can.key_room in
      let row_room = can.row_room in
      (h, omega arith, s.1, a, b, omega arith, omega arith, omega arith)

  module _ (v : ℕ) (h : v < length t) (end : ℕ) (e : end ≡ start_of order t (v + 1)) where
    pub runs-behind : (size : ℕ) → k ≡ end + size → RunsBehind table.runs table.len v end size
    runs-behind size whole w z m q =
        let n = can.tabled.lists in
        let run = table-run w (omega arith) in
        let p : parent_of t w ≡ v = sym (ap (λ (x : ListRun). x.parent) run) ∙ q in
        let later = can.shaped.smaller w z (omega arith) in
        let a = ap (λ (x : ListRun). x.start) run in
        let b = ap (λ (x : ListRun). x.length) run in
        let s = start-later order t (v + 1) w (omega arith) in
        let more = start-more order t w (omega arith) in
        let all = start-all order t (w + 1) in
        let room = can.key_room in
        (omega arith, omega arith)

    module _ (keys behind : List K) (back : behind ≡ drop end keys) (laid : LaidBehind order t v keys) (cs : List (List K)) (so : ChildKeys table.runs table.len v end behind cs) where
      -- a child's keys, or none
      child : (j : ℕ) → ((length (children_of t v) ≤ j) × (get_or cs j [] ≡ []))
          ⊎ ((w : ℕ) × (v < w) × (w < length t) × (parent_of t w ≡ v) × (ordinal t w ≡ j) × (get_or cs j [] ≡ keys_of (augmented order t w)))
      child j =
          let n = can.tabled.lists in
          elim (cases_lt j (length (children_of t v))) [
            | inl l ↦
                let b = child-back t v j l in
                let w = b.0 in
                let s = can.shaped.smaller w b.1 b.2 in
                let q : parent_of t w ≡ v = b.3 in
                let run = table-run w b.2 in
                let o : (run_of table.runs w).ordinal ≡ j = ap (λ (x : ListRun). x.ordinal) run ∙ b.4 in
                let later = start-later order t (v + 1) w (omega arith) in
                inr (
                  w,
                  omega arith,
                  b.2,
                  b.3,
                  b.4,
                  sym (ap (λ i. get_or cs i []) o)
                      ∙ so.found w b.1 (omega arith) (ap (λ (x : ListRun). x.parent) run ∙ b.3)
                      ∙ ap (λ (x : ListRun). keys_in x end behind) run
                      ∙ ap (λ zs. take (length (augmented order t w)) (drop (start_of order t w - end) zs)) back
                      ∙ ap (take (length (augmented order t w))) (drop-drop (start_of order t w - end) end keys ∙ ap (λ (i : ℕ). drop i keys) (omega arith))
                      ∙ laid w (omega arith) b.2,
                )
            | inr l ↦
                inl (
                  l,
                  so.none j (λ w z m e o.
                      let run = table-run w (omega arith) in
                      let q : parent_of t w ≡ v = sym (ap (λ (x : ListRun). x.parent) run) ∙ e in
                      let i : ordinal t w ≡ j = sym (ap (λ (x : ListRun). x.ordinal) run) ∙ o in
                      let c = (child-at t w z (omega arith)).1 in
                      let len = ap (λ (u : ℕ). length (children_of t u)) q in
                      omega arith),
                )
          ]

      is : IsAugmented order t v (augmented order t v)
      is = (defined K order laws t can.shaped.smaller v h (can.ordered v h)).0

      pub mergeable : Mergeable order (augmented order t v) (keys_at t v) cs
      mergeable =
          let more = start-more order t v h in
          let all = start-all order t (v + 1) in
          let s = space K order t in
          let entries = can.shaped.entries in
          record {
            short = omega arith;
            sorted = is.ordered;
            sources = sources;
            others = others;
          }
        where
          sources : (s : ℕ) → s < source_count → source_keys (keys_at t v) cs s ≡ part_of s (augmented order t v)
          sources zero l = sym is.own
          sources (suc j) l =
              elim (child j) [
                | inl c ↦ ap samples c.1 ∙ sym (is.others j c.0)
                | inr c ↦
                    let w = c.0 in
                    ap samples c.5
                    ∙ sym (is.children w (omega arith) c.2 c.3)
                    ∙ ap (λ (i : ℕ). part_of (suc i) (augmented order t v)) c.4
              ]

          others : (s : ℕ) → source_count ≤ s → part_of s (augmented order t v) ≡ []
          others zero l = absurd (omega arith)
          others (suc j) l =
              elim (child j) [
                | inl c ↦ is.others j c.0
                | inr c ↦ let o = c.4 in let n = can.shaped.narrow c.0 c.2 in absurd (omega arith)
              ]
