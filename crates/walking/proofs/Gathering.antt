-- A lookup along the lists of a path: its stops and its comparisons, one list after the other.
use Rattle.std.proofs.Common.{◌≡◌, ℕ, zero, suc, ◌+◌, ◌*◌, ◌<◌, ◌≤◌, List, map, length, get_or, take, set, replicate, sum_by, Ordering, sym, refl, ap, ◌∙◌, ap₂, arith}
use mathlib.Core.List.{map-map}
use Rattle.std.proofs.lemmas.List.{length-map, length-take-le, map_more, take_all}
use Rattle.std.proofs.lemmas.List.Sums.{sum_by_more}
use Rattle.orders.specs.Laws.{LawfulOrder}
use Rattle.orders.specs.declared.side.Side.{Side}
use Rattle.cascade.specs.Trees.{KeyTree, path, augmented, ParentsSmaller}
use Rattle.cascade.specs.Walks.{passes, arrival, walked_place}
use Rattle.cascade.proofs.Bridges.{root-search}
use Rattle.cascade.proofs.Counts.{count-le-length}
use Rattle.cascade.proofs.Searching.{bit_length-least}
use Rattle.cascade.proofs.Walking.{arrives, step-most}
use Rattle.register.specs.Answers.{stop, filled_up}
use Rattle.register.specs.declared.answers.Lookup.{Lookup}
use Rattle.register.specs.declared.answers.Stop.{Stop}
use Rattle.walking.specs.Walked.{looked_up}
use Rattle.walking.proofs.Filling.{filled_more}

module _ {K : Type 0} (order : K → K → Ordering) (t : KeyTree K) (side : Side) (q : K) (lists : List ℕ) where
  -- what the first i lists give
  pub record Gathered (i n : ℕ) (filled : List Stop) : Type 0 where
    pub count : n ≡ sum_by (λ v. (arrival order t side q v).1) (take i lists)
    pub few : n ≤ 16 * i
    pub stops : filled ≡ filled_up 9 (stop 0 0) (map (λ v. stop v (walked_place order t side q v)) (take i lists))

  pub gathered_none : Gathered 0 0 (replicate 9 (stop 0 0))
  gathered_none = record { count = refl; few = omega arith; stops = refl }

  pub gathered-more : (i n m place : ℕ) (stops : List Stop) → i < length lists → i < 9 → Gathered i n stops
      → m ≡ (arrival order t side q (get_or lists i 0)).1 → m ≤ 16 → place ≡ walked_place order t side q (get_or lists i 0)
      → Gathered (i + 1) (n + m) (set stops i (stop (get_or lists i 0) place))
  gathered-more i n m place stops l h was e few p =
      let c = was.count in
      let f : ℕ → Stop = λ v. stop v (walked_place order t side q v) in
      let long : length (map f (take i lists)) ≡ i = length-map (take i lists) f ∙ length-take-le i lists (omega arith) in
      let s = was.few in
      record {
        count = ap₂ (λ a b. a + b) was.count e ∙ sym (sum_by_more (λ v. (arrival order t side q v).1) lists i 0 l);
        few = omega arith;
        stops = ap₂ (λ xs k. set xs i (stop (get_or lists i 0) k)) was.stops p
            ∙ filled_more 9 i (stop 0 0) (f (get_or lists i 0)) (map f (take i lists)) long h
            ∙ ap (filled_up 9 (stop 0 0)) (sym (map_more f lists i 0 l));
      }

  pub gathered-all : (end i n : ℕ) (stops : List Stop) → lists ≡ path t end → i ≡ length lists → Gathered i n stops
      → ◌≡◌ {A = Lookup} (record { stops = stops; used = length lists; comparisons = n }) (looked_up order t end side q)
  gathered-all end i n stops e l was =
      let f : ℕ → Stop = λ v. stop v (walked_place order t side q v) in
      let whole : take i lists ≡ path t end = take_all i lists (omega arith) ∙ e in
      let count : n ≡ sum_by (λ v. (arrival order t side q v).1) (path t end) = was.count ∙ ap (sum_by (λ v. (arrival order t side q v).1)) whole in
      let filled : stops ≡ filled_up 9 (stop 0 0) (map (λ s. stop s.0 s.1) (map (λ v. (v, walked_place order t side q v)) (path t end))) =
      was.stops ∙ ap (λ vs. filled_up 9 (stop 0 0) (map f vs)) whole
      ∙ ap (filled_up 9 (stop 0 0)) (sym (map-map (λ s. stop s.0 s.1) (λ v. (v, walked_place order t side q v)) (path t end))) in
      ap (λ xs. record { stops = xs; used = length lists; comparisons = n }) filled
      ∙ ap (λ u. record { stops = (looked_up order t end side q).stops; used = u; comparisons = n }) (ap length e)
      ∙ ap (λ m. record { stops = (looked_up order t end side q).stops; used = length (path t end); comparisons = m }) count

module _ {K : Type 0} (order : K → K → Ordering) (laws : LawfulOrder order) (t : KeyTree K) (smaller : ParentsSmaller t) (side : Side) (q : K) (v : ℕ) (l : v < length t) where
  -- an arrival is within its list
  pub arrival-within : (arrival order t side q v).0 ≤ length (augmented order t v)
  arrival-within = rw (arrives order laws t smaller side q v l) (count-le-length (passes order side q) (augmented order t v))

pub arrival-few : {K : Type 0} (order : K → K → Ordering) (laws : LawfulOrder order) (t : KeyTree K) (side : Side) (q : K)
    → length (augmented order t 0) ≤ 53333 → (v : ℕ) → (arrival order t side q v).1 ≤ 16
arrival-few {K} order laws t side q small zero =
    let b = bit_length-least (length (augmented order t 0)) 16 (omega arith) in
    let r = (root-search K order laws t 0 side q).1 in
    omega arith
arrival-few {K} order laws t side q small (suc v) = let s = step-most order t side q (suc v) (omega arith) in omega arith
