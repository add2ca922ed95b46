-- Columns and the lists that they have the numbers of.
use Rattle.std.proofs.Common.{◌≡◌, ℕ, zero, suc, ◌+◌, ◌-◌, ◌/◌, ◌<◌, ◌≤◌, eqb, ltb, leb, List, [], length, get_or, take, sum_by, Ordering, sym, refl, ap, ◌∙◌, subst, arith}
use Rattle.std.proofs.lemmas.List.Sums.{sum_by_more}
use Rattle.std.proofs.lemmas.Bool.{eqb-true}
use Rattle.faults.specs.Refusals.{fault}
use Rattle.faults.specs.declared.Reason.TheVariants.{ParentNotSmaller, TooDeep, TooManyChildren, TooManyEntries}
use Rattle.cascade.specs.Trees.{KeyTree, ParentsSmaller, parent_of, keys_at, ordinal, depth_of, all_keys, augmented}
use Rattle.cascade.proofs.Augmenting.{ordinal-count, lengths}
use Rattle.cascade.proofs.Numbering.{count-among}
use Rattle.cascade.proofs.Walking.{depth-step}
use Rattle.register.specs.Limits.{most_edges, most_children, most_entries}
use Rattle.register.specs.Questions.{ask, parent_fault, depth_fault, child_fault, entry_fault}
use Rattle.plan.specs.Columns.{no_run, count_in, Holds, Smaller, Depths, children_before, length_by, parents_asked, most_asked, entries_asked}
use Rattle.plan.specs.Lists.{children_asked}
use Rattle.plan.specs.declared.table.ListRun.{ListRun}
use Rattle.plan.proofs.Asking.{each_same}
use Rattle.plan.proofs.Giving.{kept_same}

-- sums of the first of two lists
pub sums_same : {X Y : Type 0} (f : X → ℕ) (xs : List X) (d : X) (g : Y → ℕ) (ys : List Y) (e : Y) → length xs ≤ length ys → ((v : ℕ) → v < length xs → g (get_or ys v e) ≡ f (get_or xs v d))
    → (v : ℕ) → v ≤ length xs → sum_by g (take v ys) ≡ sum_by f (take v xs)
sums_same f xs d g ys e l h zero k = refl
sums_same f xs d g ys e l h (suc v) k =
    let ih = sums_same f xs d g ys e l h v (omega arith) in
    let a = sum_by_more g ys v e (omega arith) in
    let b = sum_by_more f xs v d (omega arith) in
    let c = h v (omega arith) in
    let s : v + 1 ≡ suc v = omega arith in
    subst (λ n. sum_by g (take n ys) ≡ sum_by f (take n xs)) s (omega arith)

module _ {K : Type 0} (t : KeyTree K) where
  pub parents-asked : (ps : ℕ → ℕ) → Holds (length t) (parent_of t) ps → parent_fault t ≡ parents_asked (length t) ps
  parents-asked ps reads =
      each_same (λ v. ask (ltb (parent_of t v) v) (fault ParentNotSmaller v (parent_of t v))) (λ v. ask (ltb (ps v) v) (fault ParentNotSmaller v (ps v))) 1 (length t - 1)
      (λ v l m. ap (λ p. ask (ltb p v) (fault ParentNotSmaller v p)) (sym (reads v (omega arith))))

  pub children-asked : (os : ℕ → ℕ) → Holds (length t) (ordinal t) os → child_fault t ≡ children_asked (length t) os
  children-asked os h =
      each_same (λ v. ask (ltb (ordinal t v) most_children) (fault TooManyChildren v 0)) (λ v. ask (ltb (os v) most_children) (fault TooManyChildren v 0)) 0 (length t)
      (λ v l m. ap (λ k. ask (ltb k most_children) (fault TooManyChildren v 0)) (sym (h v (omega arith))))

  pub depths-asked : (ds : ℕ → ℕ) → Holds (length t) (depth_of t) ds → depth_fault t ≡ most_asked TooDeep most_edges (length t) ds
  depths-asked ds h =
      each_same (λ v. ask (leb (depth_of t v) most_edges) (fault TooDeep v 0)) (λ v. ask (leb (ds v) most_edges) (fault TooDeep v 0)) 0 (length t)
      (λ v l m. ap (λ k. ask (leb k most_edges) (fault TooDeep v 0)) (sym (h v (omega arith))))

  pub entries-asked : (runs : List ListRun) → length t ≤ length runs → Holds (length t) (λ v. length (keys_at t v)) (count_in runs) → entry_fault t ≡ entries_asked (length t) runs
  entries-asked runs l h =
      each_same (λ v. ask (leb (all_keys (take (suc v) t)) most_entries) (fault TooManyEntries v 0)) (λ v. ask (leb (sum_by (λ (r : ListRun). r.count) (take (suc v) runs)) most_entries) (fault TooManyEntries v 0)) 0 (length t)
      (λ v a m. ap (λ k. ask (leb k most_entries) (fault TooManyEntries v 0)) (sym (sums_same (λ (b : ℕ × List K). length b.1) t (0, []) (λ (r : ListRun). r.count) runs no_run l h (suc v) (omega arith))))

  module _ (ps : ℕ → ℕ) (reads : Holds (length t) (parent_of t) ps) where
    pub smaller-column : ParentsSmaller t → Smaller (length t) ps
    smaller-column smaller v z h = let s = smaller v z h in let r = reads v h in omega arith

    pub depths-are : ParentsSmaller t → Depths (length t) ps (depth_of t)
    depths-are smaller = record {
      root = refl;
      below = λ v z h. let d = depth-step t smaller v z h in let r = ap (depth_of t) (reads v h) in omega arith;
    }

    -- no other column is one
    pub depths-hold : ParentsSmaller t → (ds : ℕ → ℕ) → Depths (length t) ps ds → Holds (length t) (depth_of t) ds
    depths-hold smaller ds deep v h = go v v (omega arith) h
      where
        go : (m u : ℕ) → u ≤ m → u < length t → ds u ≡ depth_of t u
        go m zero k l = deep.root
        go zero (suc u) k l = absurd (omega arith)
        go (suc m) (suc u) k l =
            let s = smaller (suc u) (omega arith) l in
            let ih = go m (parent_of t (suc u)) (omega arith) (omega arith) in
            let b = deep.below (suc u) (omega arith) l in
            let r : ds (ps (suc u)) ≡ ds (parent_of t (suc u)) = ap ds (reads (suc u) l) in
            let d = depth-step t smaller (suc u) (omega arith) l in
            omega arith

    pub ordinals-hold : (os : ℕ → ℕ) → Holds (length t) (λ v. children_before ps v (ps v)) os → Holds (length t) (ordinal t) os
    ordinals-hold os h zero l = h 0 l
    ordinals-hold os h (suc u) l =
        let v = suc u in
        h v l
        ∙ ap (children_before ps v) (reads v l)
        ∙ count-among (λ w. eqb (ps w) (parent_of t v)) (λ w. eqb (parent_of t w) (parent_of t v)) 1 (v - 1) (λ w a b. ap (λ p. eqb p (parent_of t v)) (reads w (omega arith)))
        ∙ sym (ordinal-count t v (omega arith) l)

    pub lengths-hold : (order : K → K → Ordering) → ParentsSmaller t → (cs ls : ℕ → ℕ) → Holds (length t) (λ v. length (keys_at t v)) cs
        → Holds (length t) (length_by (length t) ps cs ls) ls → Holds (length t) (λ v. length (augmented order t v)) ls
    lengths-hold order smaller cs ls counts long v h = go (length t) v (omega arith) h
      where
        go : (m u : ℕ) → length t ≤ m + u → u < length t → ls u ≡ length (augmented order t u)
        go zero u k l = absurd (omega arith)
        go (suc m) u k l =
            let s = kept_same (λ w. eqb (ps w) u) (λ w. eqb (parent_of t w) u) (λ w. ls w / 4) (λ w. length (augmented order t w) / 4) 1 (length t - 1)
            (λ w a b. ap (λ p. eqb p u) (reads w (omega arith)))
            (λ w a b e. let p = eqb-true (parent_of t w) u e in let q = smaller w (omega arith) (omega arith) in ap (λ n. n / 4) (go m w (omega arith) (omega arith))) in
            let c = counts u l in
            let e = lengths K order t smaller u l in
            let f = long u l in
            omega arith
