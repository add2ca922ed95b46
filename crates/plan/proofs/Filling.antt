-- Rows and columns that a loop fills: depths and ordinals.
use Rattle.std.proofs.Common.{◌≡◌, ℕ, zero, suc, ◌+◌, ◌-◌, ◌<◌, ◌≤◌, Bool, eqb, List, length, get_or, take, set, replicate, sum_by, sym, ap, ◌∙◌, inl, inr, arith, below_more}
use Rattle.std.specs.List.{range_with_len}
use Rattle.std.proofs.lemmas.List.{length-set, get_or-set_same, get_or-set_other, get_or-replicate, take-take}
use Rattle.std.proofs.lemmas.List.Sums.{sum_by_more, sum_by-take-le}
use Rattle.std.proofs.lemmas.Bool.{cases_eq, eq-eqb, ne_eqb}
use Rattle.orders.specs.Places.{bit, count}
use Rattle.cascade.proofs.Numbering.{count-split}
use Rattle.register.specs.Limits.{most_lists, most_edges}
use Rattle.plan.specs.Columns.{Holds, Depths, children_before}

-- what a column that is written down has for list v
abbrev pub cell : List ℕ → ℕ → ℕ
cell column v = get_or column v 0

module _ (xs : List ℕ) (i x : ℕ) where
  pub set_here : i < length xs → cell (set xs i x) i ≡ x
  set_here h = get_or-set_same xs i x 0 h

  pub set_apart : (k : ℕ) → (k ≡ i → ⊥) → cell (set xs i x) k ≡ cell xs k
  set_apart k ne = get_or-set_other xs i k x 0 ne

-- one list more
pub fill_more : {X : Type 0} (d : X) (f : ℕ → X) (xs : List X) (i : ℕ) (x : X) (n : ℕ) → i < n → x ≡ f i → length xs ≡ n → ((k : ℕ) → k < i → get_or xs k d ≡ f k)
    → (length (set xs i x) ≡ n) × ((k : ℕ) → k < i + 1 → get_or (set xs i x) k d ≡ f k)
fill_more d f xs i x n h e size inv =
    (length-set xs i x ∙ size, below_more (λ k. get_or (set xs i x) k d ≡ f k) i (λ k l. get_or-set_other xs i k x d (omega arith) ∙ inv k l) (get_or-set_same xs i x d (omega arith) ∙ e))

-- one number more is within the whole
pub sum-part : {X : Type 0} (f : X → ℕ) (xs : List X) (i n : ℕ) (d : X) → i < n → n ≤ length xs → sum_by f (take i xs) + f (get_or xs i d) ≤ sum_by f (take n xs)
sum-part f xs i n d h l =
    let m = sum_by_more f xs i d (omega arith) in
    let w = sum_by-take-le f (take n xs) (i + 1) in
    let e : sum_by f (take (i + 1) (take n xs)) ≡ sum_by f (take (i + 1) xs) = ap (sum_by f) (take-take (i + 1) n xs (omega arith)) in
    omega arith

-- the depth of list v, one more than that of its parent p
module _ (ps : ℕ → ℕ) (ds : List ℕ) (v n p : ℕ) (some : 0 < v) (there : v < n) (few : n ≤ most_lists) (size : length ds ≡ most_lists) (is : p ≡ ps v) where
  abbrev deeper : List ℕ
  deeper = set ds v (cell ds p + 1)

  pub depths-low : cell ds p + 1 ≤ most_edges → ((u : ℕ) → u < most_lists → cell ds u ≤ most_edges) → (u : ℕ) → u < most_lists → cell deeper u ≤ most_edges
  depths-low low inv u h =
      elim (cases_eq u v) [
        | inl e ↦ let s = set_here ds v (cell ds p + 1) (omega arith) in let w = ap (cell deeper) e in omega arith
        | inr d ↦ let s = set_apart ds v (cell ds p + 1) u d in let i = inv u h in omega arith
      ]

  pub depths-more : (depth : ℕ → ℕ) → Depths n ps depth → cell ds p ≡ depth p → ((u : ℕ) → u < v → cell ds u ≡ depth u) → (u : ℕ) → u < v + 1 → cell deeper u ≡ depth u
  depths-more depth d above inv =
      below_more (λ u. cell deeper u ≡ depth u) v
      (λ u h. set_apart ds v (cell ds p + 1) u (omega arith) ∙ inv u h)
      (let s = set_here ds v (cell ds p + 1) (omega arith) in let b = d.below v some there in let w = ap depth is in omega arith)

pub low-none : (u : ℕ) → u < most_lists → cell (replicate most_lists 0) u ≤ most_edges
low-none u h = let e : cell (replicate most_lists 0) u ≡ 0 = get_or-replicate most_lists u 0 0 h in omega arith

pub depths-none : (depth : ℕ → ℕ) → depth 0 ≡ 0 → (u : ℕ) → u < 1 → cell (replicate most_lists 0) u ≡ depth u
depths-none depth e zero h = sym e
depths-none depth e (suc u) h = absurd (omega arith)

module _ (ps : ℕ → ℕ) where
  children-more : (v q : ℕ) → 0 < v → children_before ps (v + 1) q ≡ children_before ps v q + bit (eqb (ps v) q)
  children-more v q z =
      let f : ℕ → Bool = λ u. eqb (ps u) q in
      let e : v + 1 - 1 ≡ v - 1 + 1 = omega arith in
      let a : 1 + (v - 1) ≡ v = omega arith in
      let s = count-split f 1 (v - 1) 1 in
      let b : count f (range_with_len (1 + (v - 1)) 1) ≡ bit (f v) + 0 = ap (λ u. bit (f u) + 0) a in
      let c : children_before ps (v + 1) q ≡ count f (range_with_len 1 (v - 1 + 1)) = ap (λ k. count f (range_with_len 1 k)) e in
      omega arith

  pub children-none : Holds most_lists (children_before ps 1) (cell (replicate most_lists 0))
  children-none u h = get_or-replicate most_lists u 0 0 h

  -- one child more
  pub children-counted : (cs : List ℕ) (v : ℕ) → length cs ≡ most_lists → 0 < v → Holds most_lists (children_before ps v) (cell cs)
      → Holds most_lists (children_before ps (v + 1)) (cell (set cs (ps v) (cell cs (ps v) + 1)))
  children-counted cs v l z inv u h =
      let p = ps v in
      let x = cell cs p + 1 in
      let m = children-more v u z in
      let i = inv u h in
      elim (cases_eq u p) [
        | inl e ↦
            let b : bit (eqb p u) ≡ 1 = ap bit (eq-eqb p u (sym e)) in
            let s : cell (set cs p x) u ≡ x = ap (cell (set cs p x)) e ∙ set_here cs p x (omega arith) in
            let w : cell cs u ≡ cell cs p = ap (cell cs) e in
            omega arith
        | inr d ↦
            let b : bit (eqb p u) ≡ 0 = ap bit (ne_eqb p u (λ e. d (sym e))) in
            let s = set_apart cs p x u d in
            omega arith
      ]
