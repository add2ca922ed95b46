-- Trees of key lists, and their augmented lists.
use Rattle.std.specs.Prelude.{ℕ, zero, suc, ◌-◌, ◌<◌, Bool, cond, List, [], ◌∷◌, ◌++◌, map, length, get_or, sum_by, filter, ◌==◌, nat_eq, slice_index_or, slice_range}
use Rattle.std.specs.declared.cmp.Ordering.{Ordering}
use Rattle.std.specs.List.{range_with_len}
use Rattle.std.specs.Ordering.{is_le}
use Rattle.orders.specs.Places.{count}
use Rattle.cascade.specs.Lists.{samples, sort}

-- for each list, by its number, the number of its parent and its keys. List 0 is the root, and its parent number is ignored
abbrev pub KeyTree : Type 0 → Type 0
KeyTree K = List (ℕ × List K)

-- an element of an augmented list: its source and its key
abbrev pub Tagged : Type 0 → Type 0
Tagged K = ℕ × K

-- the sources: the list's own keys, and the samples of the child with ordinal j
abbrev pub own_source : ℕ
own_source = 0

abbrev pub child_source : ℕ → ℕ
child_source j = suc j

module _ {K : Type 0} where
  -- the parent of list v, and its keys C(v)
  abbrev pub parent_of : KeyTree K → ℕ → ℕ
  parent_of t v = (get_or t v (0, [])).0

  abbrev pub keys_at : KeyTree K → ℕ → List K
  keys_at t v = (get_or t v (0, [])).1

  -- each list but the root has a parent with a smaller number
  abbrev pub ParentsSmaller : KeyTree K → Type 0
  ParentsSmaller t = (v : ℕ) → 0 < v → v < length t → parent_of t v < v

  -- the lists of which v is the parent, in rising number; the root is nobody's child
  abbrev pub children_of : KeyTree K → ℕ → List ℕ
  children_of t v = filter (λ w. nat_eq (parent_of t w) v) (range_with_len 1 (length t - 1))

  -- how many siblings of list w have smaller numbers
  abbrev pub ordinal : KeyTree K → ℕ → ℕ
  ordinal t w = count (λ b. nat_eq b.0 (parent_of t w)) (slice_range t 1 w)

  -- the lists from the root to list w; `most` bounds the edges
  abbrev pub path_within : (most : ℕ) → KeyTree K → ℕ → List ℕ
  path_within zero t w = w ∷ []
  path_within (suc n) t w = let above = path_within n t (parent_of t w) in cond (w == 0) (w ∷ []) (above ++ (w ∷ []))

  abbrev pub path : KeyTree K → ℕ → List ℕ
  path t w = path_within w t w

  -- how many edges list w is below the root
  abbrev pub depth_of : KeyTree K → ℕ → ℕ
  depth_of t w = length (path t w) - 1

  -- N: how many keys there are
  abbrev pub all_keys : KeyTree K → ℕ
  all_keys t = sum_by (λ b. length b.1) t

  abbrev pub keys_of : List (Tagged K) → List K
  keys_of xs = map (λ x. x.1) xs

  abbrev pub tag : ℕ → List K → List (Tagged K)
  tag s ks = map (λ k. (s, k)) ks

  -- one list of samples after the other, those of the first tagged as the child's with ordinal j, the next j + 1, and so on
  abbrev pub tag_all : (j : ℕ) → List (List K) → List (Tagged K)
  tag_all j [] = []
  tag_all j (s ∷ ss) = tag (child_source j) s ++ tag_all (suc j) ss

  -- whether an element's key is not above another's
  abbrev pub not_above : (K → K → Ordering) → Tagged K → Tagged K → Bool
  not_above order x y = is_le (order x.1 y.1)

  -- own keys and the children's samples in order; of same keys own ones first, then samples by ordinal
  abbrev pub augment : (K → K → Ordering) → List K → List (List K) → List (Tagged K)
  augment order ks ss = sort (not_above order) (tag own_source ks ++ tag_all 0 ss)

  -- of lists with their augmented lists: the samples of those of which v is the parent
  abbrev pub child_samples : ℕ → KeyTree K → List (List (Tagged K)) → List (List K)
  child_samples v [] gs = []
  child_samples v (b ∷ bs) [] = []
  child_samples v (b ∷ bs) (g ∷ gs) = let rest = child_samples v bs gs in cond (b.0 == v) (samples (keys_of g) ∷ rest) rest

  -- the augmented lists of lists that are numbered from v on: a list's children stand behind it
  abbrev pub augmented_from : (K → K → Ordering) → ℕ → KeyTree K → List (List (Tagged K))
  augmented_from order v [] = []
  augmented_from order v (b ∷ bs) =
      let rest = augmented_from order (suc v) bs in
      augment order b.1 (child_samples v bs rest) ∷ rest

  -- A(0), A(1), and so on
  abbrev pub augmented_lists : (K → K → Ordering) → KeyTree K → List (List (Tagged K))
  augmented_lists order t = augmented_from order 0 t

  -- A(v), empty where there is no list v
  abbrev pub augmented : (K → K → Ordering) → KeyTree K → ℕ → List (Tagged K)
  augmented order t v = slice_index_or (augmented_lists order t) v []

  -- T: how many elements all augmented lists have
  abbrev pub all_augmented : (K → K → Ordering) → KeyTree K → ℕ
  all_augmented order t = sum_by length (augmented_lists order t)
