-- Searches of tagged keys are those of the keys alone.
use Rattle.std.proofs.Common.{◌≡◌, ℕ, zero, suc, ◌+◌, ◌*◌, ◌/◌, Bool, cond, ltb, List, [], ◌∷◌, map, length, drop, refl, ap, ◌∙◌}
use Rattle.std.proofs.lemmas.List.{length-map, drop-map}
use Rattle.cascade.specs.Lists.{test_at}
use Rattle.cascade.specs.Searches.{one_more, bisect, root_search, steps, edge_step}

bisect-same : (f g : ℕ → Bool) → ((i : ℕ) → f i ≡ g i) → (n lo hi : ℕ) → bisect f n lo hi ≡ bisect g n lo hi
bisect-same f g same zero lo hi = refl
bisect-same f g same (suc n) lo hi =
    let mid = (lo + hi) / 2 in
    ap (λ c. cond (ltb lo hi) (one_more (cond c (bisect f n (mid + 1) hi) (bisect f n lo mid))) (lo, 0)) (same mid)
    ∙ ap (λ r. cond (ltb lo hi) (one_more (cond (g mid) r (bisect f n lo mid))) (lo, 0)) (bisect-same f g same n (mid + 1) hi)
    ∙ ap (λ r. cond (ltb lo hi) (one_more (cond (g mid) (bisect g n (mid + 1) hi) r)) (lo, 0)) (bisect-same f g same n lo mid)

module _ {X Y : Type 0} (f : Y → Bool) (h : X → Y) where
  test-map : (xs : List X) (i : ℕ) → test_at f (map h xs) i ≡ test_at (λ x. f (h x)) xs i
  test-map [] i = refl
  test-map (x ∷ xs) zero = refl
  test-map (x ∷ xs) (suc i) = test-map xs i

  pub root-map : (xs : List X) → root_search f (map h xs) ≡ root_search (λ x. f (h x)) xs
  root-map xs =
      ap (λ n. bisect (test_at f (map h xs)) n 0 n) (length-map xs h)
      ∙ bisect-same (test_at f (map h xs)) (test_at (λ x. f (h x)) xs) (test-map xs) (length xs) 0 (length xs)

  steps_map : (n : ℕ) (xs : List X) → steps f n (map h xs) ≡ steps (λ x. f (h x)) n xs
  steps_map zero xs = refl
  steps_map (suc n) [] = refl
  steps_map (suc n) (x ∷ xs) = ap (λ r. cond {A = ℕ × ℕ} (f (h x)) (suc r.0, suc r.1) (0, 1)) (steps_map n xs)

  pub edge-map : (samples : ℕ) (xs : List X) → edge_step f samples (map h xs) ≡ edge_step (λ x. f (h x)) samples xs
  edge-map samples xs =
      ap (λ r. (4 * samples + r.0, r.1)) (ap (steps f 3) (drop-map h (4 * samples) xs) ∙ steps_map 3 (drop (4 * samples) xs))
