-- Worked cases: a small tree whose keys are letters, and two ranges of slots.
use Rattle.std.specs.Prelude.{◌≡◌, ℕ, ◌+◌, ◌-◌, cond, List, [], ◌∷◌, ◌++◌, map, length, codes, sum_by, ◌==◌, nat_lt}
use Rattle.std.specs.declared.cmp.Ordering.TheVariants.{Less, Equal, Greater}
use Rattle.std.specs.declared.cmp.Ordering.{Ordering}
use Rattle.orders.specs.declared.side.Side.{Side}
use Rattle.orders.specs.declared.side.Side.TheVariants.{Low, High}
use Rattle.cascade.specs.Trees.{KeyTree, path, keys_of, augmented_lists, all_keys, all_augmented}
use Rattle.cascade.specs.Walks.{walked_place, stops, comparisons}
use Rattle.cascade.specs.SlotTree.{visited_lists, chosen_lists}

abbrev pub by_number : ℕ → ℕ → Ordering
by_number a b = cond (nat_lt a b) Less (cond (a == b) Equal Greater)

-- the codes of letters that are sought
abbrev pub d : ℕ
d = 100

abbrev pub m : ℕ
m = 109

abbrev pub z : ℕ
z = 122

-- each list under the one before it
abbrev pub letters : KeyTree ℕ
letters = (0, codes "bdf") ∷ ((0, codes "acdeghkm") ∷ ((1, codes "cddxy") ∷ []))

-- a lookup that ends at list 2: its places, then its comparisons
abbrev pub lookup : Side → ℕ → List (List ℕ)
lookup side q = map (λ stop. stop.1) (stops by_number letters side q 2) ∷ ((comparisons by_number letters side q 2 ∷ []) ∷ [])

-- a low and a high lookup: the number of entries between their places, and the comparisons of both
abbrev pub offer : ℕ → List (List ℕ)
offer q =
    (sum_by (λ v. walked_place by_number letters High q v - walked_place by_number letters Low q v) (path letters 2) ∷ [])
    ∷ (((comparisons by_number letters Low q 2 + comparisons by_number letters High q 2) ∷ []) ∷ [])

-- what the definitions give, and what is expected
pub record Case : Type 0 where
  pub found : List (List ℕ)
  pub expected : List (List ℕ)

abbrev pub case : List (List ℕ) → List (List ℕ) → Case
case xs ys = record { found = xs; expected = ys }

abbrev pub cases : List Case
cases =
    case
    (map keys_of (augmented_lists by_number letters) ++ ((all_augmented by_number letters ∷ (all_keys letters ∷ [])) ∷ []))
    (codes "bdefm" ∷ (codes "acdeghkmx" ∷ (codes "cddxy" ∷ ((19 ∷ (16 ∷ [])) ∷ []))))
    ∷ (case (lookup Low d) ((1 ∷ (2 ∷ (1 ∷ []))) ∷ ((8 ∷ []) ∷ []))
    ∷ (case (lookup High d) ((2 ∷ (3 ∷ (3 ∷ []))) ∷ ((8 ∷ []) ∷ []))
    ∷ (case (lookup Low m) ((3 ∷ (7 ∷ (3 ∷ []))) ∷ ((9 ∷ []) ∷ []))
    ∷ (case (lookup Low z) ((3 ∷ (8 ∷ (5 ∷ []))) ∷ ((4 ∷ []) ∷ []))
    ∷ (case (offer d) ((4 ∷ []) ∷ ((16 ∷ []) ∷ []))
    ∷ (case (chosen_lists 5 5 ∷ []) ((68 ∷ []) ∷ [])
    ∷ (case ((length (chosen_lists 1 62) ∷ []) ∷ (((length (visited_lists 1 62) - 1) ∷ []) ∷ [])) ((10 ∷ []) ∷ ((20 ∷ []) ∷ []))
    ∷ [])))))))

abbrev pub CasesHold : Type 0
CasesHold = map (λ c. c.found) cases ≡ map (λ c. c.expected) cases
