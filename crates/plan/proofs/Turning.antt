-- A walk over all lists but the root, each with its number.
use Rattle.std.proofs.Common.{◌≡◌, ℕ, ◌+◌, ◌<◌, ◌≤◌, List, length, get_or, take, drop, Some, Option, ap, sym, ◌∙◌, arith}
use Rattle.std.specs.Borrow.{Bor}
use Rattle.std.specs.List.{enumerate_from}
use Rattle.std.specs.Iterator.{Yields}
use Rattle.std.specs.Iterator.Adapters.{enumerate_source, enumerate_count, enumerate_steps, skip_source, skip_count, skip_steps}
use Rattle.std.specs.Slice.Iter.{iter_rest}
use Rattle.std.specs.declared.iter.Enumerate.{Enumerate}
use Rattle.std.specs.declared.iter.Skip.{Skip}
use Rattle.std.specs.declared.slice.Iter.{Iter}
use Rattle.std.proofs.lemmas.Fn.{fronts}
use Rattle.std.proofs.lemmas.Iterator.{YieldsList, YieldsList-from_slice}
use Rattle.std.proofs.lemmas.Iterator.Adapters.{YieldsList-from_skip}
use Rattle.std.proofs.lemmas.Iterator.Consumers.{YieldsList-from_enumerate, YieldsList-turn}
use Rattle.std.proofs.lemmas.List.FromFn.{length-enumerate_from, get_or-enumerate_from}
use Rattle.std.proofs.lemmas.List.{length-drop, get_or-drop, get_or_default, get_or-take, length-take-le}

module _ {A : Type 0} (s : Skip (Enumerate (Iter A))) (xs : List A) (rest : iter_rest (enumerate_source (skip_source s)) ≡ xs) (none : enumerate_count (skip_source s) ≡ 0) (one : skip_count s ≡ 1)
    (ys : List (ℕ × Bor A)) (t : Skip (Enumerate (Iter A))) (y : Yields (skip_steps (enumerate_steps fronts)) s ys t) where
  all : YieldsList {B = ℕ × A} (skip_steps (enumerate_steps fronts)) (λ p. (p.0, p.1.now)) s (drop 1 (enumerate_from 0 xs))
  all = YieldsList-from_skip 1 (YieldsList-from_enumerate (YieldsList-from_slice xs rest) none) one

  -- which list this turn has
  pub turn : (r : Option (ℕ × Bor A)) (u : Skip (Enumerate (Iter A))) (v : ℕ) (x : Bor A) (d : A) → r ≡ Some (v, x) → skip_steps (enumerate_steps fronts) t r u
      → (v ≡ length ys + 1) × (v < length xs) × (x.now ≡ get_or xs v d)
  turn r u v x d is step =
      let h = YieldsList-turn all ys t y r u (v, x) is step in
      let l = length-drop 1 (enumerate_from 0 xs) in
      let m = length-enumerate_from 0 xs in
      let there : 1 + length ys < length xs = omega arith in
      let p : ◌≡◌ {A = ℕ × A} (v, x.now) (0 + (1 + length ys), get_or xs (1 + length ys) x.now) =
      h.1 ∙ get_or-drop 1 (enumerate_from 0 xs) (length ys) (v, x.now) ∙ get_or-enumerate_from 0 xs (1 + length ys) (v, x.now) there in
      let n : v ≡ 0 + (1 + length ys) = ap (λ (q : ℕ × A). q.0) p in
      let z : v ≡ 1 + length ys = omega arith in (
        omega arith,
        omega arith,
        ap (λ (q : ℕ × A). q.1) p ∙ ap (λ i. get_or xs i x.now) (sym z) ∙ get_or_default xs v x.now d (omega arith),
      )

-- the same over the first n of xs
pub turn-taken : {A : Type 0} (s : Skip (Enumerate (Iter A))) (n : ℕ) (xs : List A) → n ≤ length xs → iter_rest (enumerate_source (skip_source s)) ≡ take n xs → enumerate_count (skip_source s) ≡ 0 → skip_count s ≡ 1
    → (ys : List (ℕ × Bor A)) (t : Skip (Enumerate (Iter A))) → Yields (skip_steps (enumerate_steps fronts)) s ys t
    → (r : Option (ℕ × Bor A)) (u : Skip (Enumerate (Iter A))) (v : ℕ) (x : Bor A) (d : A) → r ≡ Some (v, x) → skip_steps (enumerate_steps fronts) t r u
    → (v ≡ length ys + 1) × (v < n) × (x.now ≡ get_or xs v d)
turn-taken s n xs few rest none one ys t y r u v x d is step =
    let h = turn s (take n xs) rest none one ys t y r u v x d is step in
    let l = length-take-le n xs few in
    (h.0, omega arith, h.2 ∙ get_or-take n xs v d (omega arith))
