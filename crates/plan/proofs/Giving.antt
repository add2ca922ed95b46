-- Lists that give a fourth of what they hold to their parents, from the last to the first.
use Rattle.std.proofs.Common.{◌≡◌, ℕ, zero, suc, ◌+◌, ◌-◌, ◌/◌, ◌<◌, ◌≤◌, Bool, true, false, cond, eqb, List, ◌∷◌, length, get_or, take, set, sum_by, filter, sym, refl, ap, ◌∙◌, subst, inl, inr, arith}
use lib.Seq.{take-set-lt}
use Rattle.std.specs.List.{range_with_len}
use Rattle.std.proofs.lemmas.List.{length-set, length-take-le, get_or-take, get_or-set_same, get_or-set_other}
use Rattle.std.proofs.lemmas.List.Sums.{sum_by-cons, sum_by_more, sum_by-set, get_or-le-sum_by}
use Rattle.std.proofs.lemmas.Bool.{cases_eq, eq-eqb, ne_eqb}
use Rattle.register.specs.Limits.{most_lists, most_entries}
use Rattle.plan.specs.Columns.{no_run, nth_run, parent_in, length_in, Holds, Smaller}
use Rattle.plan.specs.declared.table.ListRun.{ListRun}

-- the same numbers pass, and those that do have the same values
pub kept_same : (f h : ℕ → Bool) (g k : ℕ → ℕ) (a n : ℕ) → ((w : ℕ) → a ≤ w → w < a + n → f w ≡ h w) → ((w : ℕ) → a ≤ w → w < a + n → h w ≡ true → g w ≡ k w)
    → sum_by g (filter f (range_with_len a n)) ≡ sum_by k (filter h (range_with_len a n))
kept_same f h g k a zero p q = refl
kept_same f h g k a (suc n) p q =
    let fs = filter f (range_with_len (a + 1) n) in
    let hs = filter h (range_with_len (a + 1) n) in
    let ih : sum_by g fs ≡ sum_by k hs = kept_same f h g k (a + 1) n (λ w l m. p w (omega arith) (omega arith)) (λ w l m. q w (omega arith) (omega arith)) in
    ap (λ b. sum_by g (cond b (a ∷ fs) fs)) (p a (omega arith) (omega arith))
    ∙ elim (h a) as (λ b. (b ≡ true → g a ≡ k a) → sum_by g (cond b (a ∷ fs) fs) ≡ sum_by k (cond b (a ∷ hs) hs)) [
      | true ↦ λ e. let s = sum_by-cons g a fs in let r = sum_by-cons k a hs in let w = e refl in omega arith
      | false ↦ λ e. ih
    ] (q a (omega arith) (omega arith))

-- own keys, and a fourth of each child from list i on
abbrev pub length_from : (i n : ℕ) (parents own lengths : ℕ → ℕ) → ℕ → ℕ
length_from i n parents own lengths v = own v + sum_by (λ w. lengths w / 4) (filter (λ w. eqb (parents w) v) (range_with_len i (n - i)))

abbrev pub held : (i : ℕ) → List ListRun → ℕ
held i runs = sum_by (λ r. r.length) (take i runs)

-- only the lengths are other
abbrev pub Alike : (n : ℕ) (old new : List ListRun) → Type 0
Alike n old new = (v : ℕ) → v < n → nth_run new v ≡ record (nth_run old v) { length = length_in new v }

-- list w gives a fourth to list p
abbrev pub given_to : (new : List ListRun) (w p : ℕ) → List ListRun
given_to new w p = set new p (record (nth_run new p) { length = length_in new p + length_in new w / 4 })

module _ (n : ℕ) (old : List ListRun) where
  pub none-gave : Holds n (length_from n n (parent_in old) (length_in old) (length_in old)) (length_in old)
  none-gave v h =
      let f : ℕ → Bool = λ w. eqb (parent_in old w) v in
      let e : n - n ≡ 0 = omega arith in
      let s : sum_by (λ w. length_in old w / 4) (filter f (range_with_len n (n - n))) ≡ 0 = ap (λ k. sum_by (λ w. length_in old w / 4) (filter f (range_with_len n k))) e in
      omega arith

  -- list w gives to its parent
  module _ (new : List ListRun) (w : ℕ) (some : 0 < w) (there : w < n) (room : n ≤ most_lists) (smaller : Smaller n (parent_in old)) (size : length new ≡ most_lists) (within : held (w + 1) new ≤ most_entries) where
    abbrev p : ℕ
    p = parent_in old w

    abbrev more : ℕ
    more = length_in new p + length_in new w / 4

    abbrev pub given : List ListRun
    given = given_to new w p

    both : held (w + 1) new ≡ held w new + length_in new w
    both = sum_by_more (λ (r : ListRun). r.length) new w no_run (omega arith)

    front : get_or (take w new) p no_run ≡ nth_run new p
    front = get_or-take w new p no_run (smaller w some there)

    front-size : length (take w new) ≡ w
    front-size = length-take-le w new (omega arith)

    pub given-fits : more ≤ most_entries
    given-fits =
        let l = smaller w some there in
        let z = front-size in
        let g = get_or-le-sum_by (λ (r : ListRun). r.length) (take w new) p no_run (omega arith) in
        let f = ap (λ (r : ListRun). r.length) front in
        let h = both in
        omega arith

    pub given-within : held w given ≤ most_entries
    given-within =
        let l = smaller w some there in
        let z = front-size in
        let x = record (nth_run new p) { length = more } in
        let e : held w given ≡ sum_by (λ (r : ListRun). r.length) (set (take w new) p x) = ap (sum_by (λ (r : ListRun). r.length)) (take-set-lt w new p x l) in
        let s = sum_by-set (λ (r : ListRun). r.length) (take w new) p x no_run (omega arith) in
        let f = ap (λ (r : ListRun). r.length) front in
        let h = both in
        omega arith

    here : nth_run given p ≡ record (nth_run new p) { length = more }
    here = let l = smaller w some there in get_or-set_same new p (record (nth_run new p) { length = more }) no_run (omega arith)

    apart : (v : ℕ) → (v ≡ p → ⊥) → nth_run given v ≡ nth_run new v
    apart v d = get_or-set_other new p v (record (nth_run new p) { length = more }) no_run d

    pub given-alike : Alike n old new → Alike n old given
    given-alike same v h =
        elim (cases_eq v p) [
          | inl e ↦ subst (λ u. nth_run given u ≡ record (nth_run old u) { length = length_in given u }) (sym e) (let l = smaller w some there in let s = same p (omega arith) in let k = here in cc)
          | inr d ↦ let a = apart v d in let s = same v h in cc
        ]

    pub given_holds : Holds n (length_from (w + 1) n (parent_in old) (length_in old) (length_in new)) (length_in new) → Holds n (length_from w n (parent_in old) (length_in old) (length_in given)) (length_in given)
    given_holds inv v h =
        let pw = smaller w some there in
        let f : ℕ → Bool = λ u. eqb (parent_in old u) v in
        let g : ℕ → ℕ = λ u. length_in new u / 4 in
        let rest = filter f (range_with_len (w + 1) (n - (w + 1))) in
        let same : sum_by (λ u. length_in given u / 4) (filter f (range_with_len w (n - w))) ≡ sum_by g (filter f (range_with_len w (n - w))) =
        kept_same f f (λ u. length_in given u / 4) g w (n - w) (λ u a b. refl) (λ u a b t. ap (λ (r : ListRun). r.length / 4) (apart u (omega arith))) in
        let len : n - w ≡ suc (n - (w + 1)) = omega arith in
        let split : sum_by g (filter f (range_with_len w (n - w))) ≡ sum_by g (cond (f w) (w ∷ rest) rest) = ap (λ k. sum_by g (filter f (range_with_len w k))) len in
        let i : length_in new v ≡ length_in old v + sum_by g rest = inv v h in
        elim (cases_eq v p) [
          | inl e ↦
              let one : sum_by g (cond (f w) (w ∷ rest) rest) ≡ sum_by g (w ∷ rest) = ap (λ b. sum_by g (cond b (w ∷ rest) rest)) (eq-eqb p v (sym e)) in
              let longer = sum_by-cons g w rest in
              let new-here : length_in given v ≡ length_in new p + length_in new w / 4 = ap (length_in given) e ∙ ap (λ (r : ListRun). r.length) here in
              let old-here : length_in new v ≡ length_in new p = ap (length_in new) e in
              omega arith
          | inr d ↦
              let none : sum_by g (cond (f w) (w ∷ rest) rest) ≡ sum_by g rest = ap (λ b. sum_by g (cond b (w ∷ rest) rest)) (ne_eqb p v (λ e. d (sym e))) in
              let still = ap (λ (r : ListRun). r.length) (apart v d) in
              omega arith
        ]

    pub given-size : length given ≡ most_lists
    given-size = length-set new p (record (nth_run new p) { length = more }) ∙ size

    abbrev pub Gave : ℕ → Type 0
    Gave q =
        (length (given_to new w q) ≡ most_lists)
        × Alike n old (given_to new w q)
        × Holds n (length_from w n (parent_in old) (length_in old) (length_in (given_to new w q))) (length_in (given_to new w q))
        × (held w (given_to new w q) ≤ most_entries)

    pub gave : Alike n old new → Holds n (length_from (w + 1) n (parent_in old) (length_in old) (length_in new)) (length_in new) → Gave (parent_in new w)
    gave same inv = subst Gave (sym (ap (λ (r : ListRun). r.parent) (same w there))) (given-size, given-alike same, given_holds inv, given-within)
