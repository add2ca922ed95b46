-- The lists that a range visits, found by a walk from the root down.
use Rattle.std.proofs.Common.{◌≡◌, ℕ, zero, suc, ◌+◌, ◌-◌, ◌*◌, ◌/◌, ◌^◌, ◌<◌, ◌≤◌, Bool, true, false, cond, ◌&&◌, List, [], ◌∷◌, ◌++◌, sym, refl, ap, ◌∙◌, add-zero, add-suc, arith}
use native.Mathlib.Nat.{two-pow-succ, pow-le-pow_right}
use Rattle.std.specs.List.{range_with_len}
use Rattle.std.proofs.lemmas.Nat.{pow_pos}
use Rattle.std.proofs.lemmas.Bool.{and_right, and_from}
use Rattle.orders.specs.Places.{bit, count}
use Rattle.shelves.specs.Slots.{sieve_lists}
use Rattle.cascade.specs.SlotTree.{inside, visited}
use Rattle.cascade.proofs.Counts.{count-append}
use Rattle.cascade.proofs.Numbering.{count-split}
use Rattle.cascade.proofs.Nodes.{number_of, meets_at, inside_at, meets-is, inside_is, clear, clear-is, clear-below, visited-below}

-- how many lists pass a test, of list j at depth d and those below it, down to height 0
abbrev pub subtree : (ℕ → Bool) → (d h j : ℕ) → ℕ
subtree f d zero j = bit (f (number_of d j))
subtree f d (suc h) j = bit (f (number_of d j)) + (subtree f (suc d) h (2 * j) + subtree f (suc d) h (2 * j + 1))

module _ (f : ℕ → Bool) where
  -- the same of n lists side by side, from index j on
  band : (d h j n : ℕ) → ℕ
  band d zero j n = count f (range_with_len (number_of d j) n)
  band d (suc h) j n = count f (range_with_len (number_of d j) n) + band (suc d) h (2 * j) (2 * n)

  row-split : (d j m n : ℕ) → count f (range_with_len (number_of d j) (m + n)) ≡ count f (range_with_len (number_of d j) m) + count f (range_with_len (number_of d (j + m)) n)
  row-split d j m n =
      let p = pow_pos d in
      count-split f (number_of d j) m n ∙ ap (λ u. count f (range_with_len (number_of d j) m) + count f (range_with_len u n)) (omega arith)

  band-split : (h d j m n : ℕ) → band d h j (m + n) ≡ band d h j m + band d h (j + m) n
  unfolding band
  band-split zero d j m n = row-split d j m n
  band-split (suc h) d j m n =
      let e = row-split d j m n in
      let ih = band-split h (suc d) (2 * j) (2 * m) (2 * n) in
      let x : band (suc d) h (2 * j) (2 * (m + n)) ≡ band (suc d) h (2 * j) (2 * m + 2 * n) = ap (band (suc d) h (2 * j)) (omega arith) in
      let y : band (suc d) h (2 * j + 2 * m) (2 * n) ≡ band (suc d) h (2 * (j + m)) (2 * n) = ap (λ u. band (suc d) h u (2 * n)) (omega arith) in
      omega arith

  subtree-band : (h d j : ℕ) → subtree f d h j ≡ band d h j 1
  unfolding band
  subtree-band zero d j = sym (add-zero (bit (f (number_of d j))))
  subtree-band (suc h) d j =
      let l = subtree-band h (suc d) (2 * j) in
      let r = subtree-band h (suc d) (2 * j + 1) in
      let s = band-split h (suc d) (2 * j) 1 1 in
      omega arith

  -- whole rows, from depth d on
  band-rows : (h d : ℕ) → band d h 0 (2 ^ d) ≡ count f (range_with_len (2 ^ d - 1) (2 ^ (d + suc h) - 2 ^ d))
  unfolding band
  band-rows zero d =
      let w = two-pow-succ d in
      ap (λ u. count f (range_with_len u (2 ^ d))) (omega arith) ∙ ap (λ n. count f (range_with_len (2 ^ d - 1) n)) (rw (add-suc, add-zero) (omega arith))
  band-rows (suc h) d =
      let w = two-pow-succ d in
      let p = pow_pos d in
      let ih = band-rows h (suc d) in
      let e : d + suc (suc h) ≡ suc d + suc h = omega arith in
      let m : 2 ^ suc d ≤ 2 ^ (suc d + suc h) = pow-le-pow_right (omega arith) (omega arith) in
      let x : count f (range_with_len (number_of d 0) (2 ^ d)) ≡ count f (range_with_len (2 ^ d - 1) (2 ^ d)) = ap (λ u. count f (range_with_len u (2 ^ d))) (omega arith) in
      let y : band (suc d) h 0 (2 * 2 ^ d) ≡ band (suc d) h 0 (2 ^ suc d) = ap (band (suc d) h 0) (omega arith) in
      let z : count f (range_with_len (2 ^ d - 1 + 2 ^ d) (2 ^ (suc d + suc h) - 2 ^ suc d)) ≡ count f (range_with_len (2 ^ suc d - 1) (2 ^ (suc d + suc h) - 2 ^ suc d)) =
      ap (λ u. count f (range_with_len u (2 ^ (suc d + suc h) - 2 ^ suc d))) (omega arith) in
      let s = count-split f (2 ^ d - 1) (2 ^ d) (2 ^ (suc d + suc h) - 2 ^ suc d) in
      let t : 2 ^ d + (2 ^ (suc d + suc h) - 2 ^ suc d) ≡ 2 ^ (d + suc (suc h)) - 2 ^ d = ap (λ n. 2 ^ d + (2 ^ n - 2 ^ suc d)) (sym e) ∙ rw e (omega arith) in
      let r = ap (λ n. count f (range_with_len (2 ^ d - 1) n)) t in
      omega arith

  -- all lists are below the root
  pub count-subtree : count f (range_with_len 0 sieve_lists) ≡ subtree f 0 6 0
  count-subtree = sym (subtree-band 6 0 0 ∙ band-rows 6 0)

-- the walk, as heights and indices: nothing where a list does not meet the range, both halves where it is not inside
abbrev pub walk : (a b h j : ℕ) → List (ℕ × ℕ)
walk a b zero j = cond (meets_at a b 0 j) ((0, j) ∷ []) []
walk a b (suc h) j =
    let below = walk a b h (2 * j) ++ walk a b h (2 * j + 1) in
    cond (meets_at a b (suc h) j) ((suc h, j) ∷ cond (inside_at a b (suc h) j) [] below) []

module _ (a b : ℕ) where
  -- what is not visited has nothing below it that is
  dark-child : (d h i j : ℕ) → i < 2 ^ suc d → suc d + h ≡ 6 → i / 2 ≡ j → visited a b (number_of d j) ≡ false → visited a b (number_of (suc d) i) ≡ false
  dark-child d h i j l e k f = let b = visited-below a b d h i l e in grind (arith, b, k, f)

  -- nor has what is inside
  inside-child : (d h i j : ℕ) → i < 2 ^ suc d → suc d + h ≡ 6 → i / 2 ≡ j → inside a b (number_of d j) ≡ true → visited a b (number_of (suc d) i) ≡ false
  inside-child d h i j l e k f = let b = visited-below a b d h i l e in grind (arith, b, k, f)

  clear-child : (d i j : ℕ) → i / 2 ≡ j → clear a b d j ≡ true → inside a b (number_of d j) ≡ false → clear a b (suc d) i ≡ true
  clear-child d i j k c f = let b = clear-below a b d i in grind (arith, b, k, c, f)

  module _ (g : ℕ → Bool) where
    abbrev seen : ℕ → Bool
    seen v = visited a b v && g v

    dark : (h d j : ℕ) → d + h ≡ 6 → j < 2 ^ d → visited a b (number_of d j) ≡ false → subtree seen d h j ≡ 0
    dark zero d j e l f = ap (λ c. bit (c && g (number_of d j))) f
    dark (suc h) d j e l f =
        let w = two-pow-succ d in
        let s : bit (seen (number_of d j)) ≡ 0 = ap (λ c. bit (c && g (number_of d j))) f in
        let x = dark h (suc d) (2 * j) (omega arith) (omega arith) (dark-child d h (2 * j) j (omega arith) (omega arith) (omega arith) f) in
        let y = dark h (suc d) (2 * j + 1) (omega arith) (omega arith) (dark-child d h (2 * j + 1) j (omega arith) (omega arith) (omega arith) f) in
        omega arith

    module _ (G : ℕ → ℕ → Bool) (same : (d h j : ℕ) → d + h ≡ 6 → j < 2 ^ d → g (number_of d j) ≡ G h j) where
      abbrev on_node : ℕ × ℕ → Bool
      on_node x = G x.0 x.1

      here : (h d j : ℕ) → d + h ≡ 6 → j < 2 ^ d → clear a b d j ≡ true → meets_at a b h j ≡ true → (visited a b (number_of d j) ≡ true) × (bit (seen (number_of d j)) ≡ bit (G h j))
      here h d j e l c m =
          let v : visited a b (number_of d j) ≡ true = and_from _ _ (clear-is a b d j l ∙ c) (meets-is d j l h e a b ∙ m) in
          (v, ap (λ x. bit (x && g (number_of d j))) v ∙ ap bit (same d h j e l))

      away : (h d j : ℕ) → d + h ≡ 6 → j < 2 ^ d → meets_at a b h j ≡ false → subtree seen d h j ≡ 0
      away h d j e l m = dark h d j e l (and_right _ _ (meets-is d j l h e a b ∙ m))

      -- the walk finds the visited lists below one that no list above shuts off
      subtree-walk : (h d j : ℕ) → d + h ≡ 6 → j < 2 ^ d → clear a b d j ≡ true → subtree seen d h j ≡ count on_node (walk a b h j)
      subtree-walk zero d j e l c = go (meets_at a b 0 j) refl
        where
          go : (m : Bool) → meets_at a b 0 j ≡ m → subtree seen d 0 j ≡ count on_node (cond m ((0, j) ∷ []) [])
          go true f = let s = (here 0 d j e l c f).1 in omega arith
          go false f = away 0 d j e l f
      subtree-walk (suc h) d j e l c =
          let w = two-pow-succ d in
          go (λ k. subtree-walk h (suc d) (2 * j) (omega arith) (omega arith) (clear-child d (2 * j) j (omega arith) c k))
          (λ k. subtree-walk h (suc d) (2 * j + 1) (omega arith) (omega arith) (clear-child d (2 * j + 1) j (omega arith) c k))
          (meets_at a b (suc h) j) (inside_at a b (suc h) j) refl refl
        where
          go : (inside a b (number_of d j) ≡ false → subtree seen (suc d) h (2 * j) ≡ count on_node (walk a b h (2 * j)))
              → (inside a b (number_of d j) ≡ false → subtree seen (suc d) h (2 * j + 1) ≡ count on_node (walk a b h (2 * j + 1)))
              → (m i : Bool) → meets_at a b (suc h) j ≡ m → inside_at a b (suc h) j ≡ i
              → subtree seen d (suc h) j ≡ count on_node (cond m ((suc h, j) ∷ cond i [] (walk a b h (2 * j) ++ walk a b h (2 * j + 1))) [])
          go left right true true f k =
              let w = two-pow-succ d in
              let s = (here (suc h) d j e l c f).1 in
              let n : inside a b (number_of d j) ≡ true = inside_is d j l (suc h) e a b ∙ k in
              let x = dark h (suc d) (2 * j) (omega arith) (omega arith) (inside-child d h (2 * j) j (omega arith) (omega arith) (omega arith) n) in
              let y = dark h (suc d) (2 * j + 1) (omega arith) (omega arith) (inside-child d h (2 * j + 1) j (omega arith) (omega arith) (omega arith) n) in
              omega arith
          go left right true false f k =
              let s = (here (suc h) d j e l c f).1 in
              let n : inside a b (number_of d j) ≡ false = inside_is d j l (suc h) e a b ∙ k in
              let x = left n in
              let y = right n in
              let z = count-append on_node (walk a b h (2 * j)) (walk a b h (2 * j + 1)) in
              omega arith
          go left right false i f k = away (suc h) d j e l f

      -- so counts over the visited lists are counts over the walk
      pub count-visited : count (λ v. visited a b v && g v) (range_with_len 0 sieve_lists) ≡ count on_node (walk a b 6 0)
      count-visited = count-subtree seen ∙ subtree-walk 6 0 0 refl (omega arith) refl
