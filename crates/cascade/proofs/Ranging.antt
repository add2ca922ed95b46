-- How many lists a range visits and chooses, which slots they cover, and how many comparisons it takes.
use Rattle.std.proofs.Common.{◌≡◌, ℕ, suc, ◌+◌, ◌*◌, ◌<◌, ◌≤◌, Bool, true, ◌&&◌, ltb, leb, List, [], ◌∷◌, length, sum_by, filter, Ordering, sym, refl, ap, ◌∙◌, subst, le_trans, arith}
use Rattle.std.specs.List.{range_with_len, AllByRecursion as All}
use Rattle.std.proofs.ByRecursion.{all_kept_by, sum_by_le}
use Rattle.std.proofs.Math.Bool.{and-true, and_assoc}
use Rattle.std.proofs.lemmas.List.Sums.{sum_by-cons}
use Rattle.std.proofs.lemmas.Bool.Decides.{nat_tests}
use Rattle.orders.specs.declared.side.Side.TheVariants.{Low, High}
use Rattle.orders.specs.Laws.{LawfulOrder}
use Rattle.orders.specs.Numbers.{bit_length}
use Rattle.orders.specs.Places.{bit, count, place}
use Rattle.shelves.specs.Slots.{sieve_lists, slot_count, covers}
use Rattle.cascade.specs.Trees.{KeyTree, ParentsSmaller, keys_at, augmented}
use Rattle.cascade.specs.Walks.{arrival, walked_place}
use Rattle.cascade.specs.SlotTree.{inside, visited, chosen, visited_lists, chosen_lists, SieveShaped}
use Rattle.cascade.specs.SlotTheorems.{FewChosen, FewVisited, SlotsOnce, RangeWithin, SpansCounted}
use Rattle.cascade.proofs.Counts.{length-kept, count_kept, count_same}
use Rattle.cascade.proofs.Numbering.{all_among, map-among}
use Rattle.cascade.proofs.Nodes.{number_of, inside_at, covers_at, inside_is, covers-is, chosen_is}
use Rattle.cascade.proofs.Subtrees.{walk, count-visited}
use Rattle.cascade.proofs.Computed.{choice, choice-few, walk-few, choice-covers}
use Rattle.cascade.proofs.Bridges.{root-search}
use Rattle.cascade.proofs.Walking.{step-most, walks}

count-all : {X : Type 0} (xs : List X) → count (λ x. true) xs ≡ length xs
count-all [] = refl
count-all (x ∷ xs) = let ih = count-all xs in omega arith

module _ (a b : ℕ) where
  visited-length : length (visited_lists a b) ≡ length (walk a b 6 0)
  visited-length =
      length-kept (visited a b) (range_with_len 0 sieve_lists)
      ∙ count_same (visited a b) (λ v. visited a b v && true) (λ v. sym (and-true (visited a b v))) (range_with_len 0 sieve_lists)
      ∙ count-visited a b (λ v. true) (λ h j. true) (λ d h j e l. refl)
      ∙ count-all (walk a b 6 0)

  chosen-length : length (chosen_lists a b) ≡ length (choice a b)
  chosen-length =
      length-kept (chosen a b) (range_with_len 0 sieve_lists)
      ∙ count_same (chosen a b) (λ v. visited a b v && inside a b v) (chosen_is a b) (range_with_len 0 sieve_lists)
      ∙ count-visited a b (inside a b) (inside_at a b) (λ d h j e l. inside_is d j l h e a b)
      ∙ sym (length-kept (λ x. inside_at a b x.0 x.1) (walk a b 6 0))

  chosen-covers : (s : ℕ) → count (λ v. covers v s) (chosen_lists a b) ≡ count (λ x. covers_at s x.0 x.1) (choice a b)
  chosen-covers s =
      count_kept (chosen a b) (λ v. covers v s) (range_with_len 0 sieve_lists)
      ∙ count_same (λ v. chosen a b v && covers v s) (λ v. visited a b v && (inside a b v && covers v s))
      (λ v. ap (λ c. c && covers v s) (chosen_is a b v) ∙ and_assoc (visited a b v) (inside a b v) (covers v s)) (range_with_len 0 sieve_lists)
      ∙ count-visited a b (λ v. inside a b v && covers v s) (λ h j. inside_at a b h j && covers_at s h j)
      (λ d h j e l. ap (λ c. c && covers (number_of d j) s) (inside_is d j l h e a b) ∙ ap (λ c. inside_at a b h j && c) (covers-is d j l h e s))
      ∙ sym (count_kept (λ x. inside_at a b x.0 x.1) (λ x. covers_at s x.0 x.1) (walk a b 6 0))

pub few-chosen : (most : ℕ) → 10 ≤ most → FewChosen most
few-chosen most enough a b up top = le_trans (subst (λ n. n ≤ 10) (sym (chosen-length a b)) (choice-few a b up top)) enough

-- the root covers all slots
root-visited : (a b : ℕ) → a ≤ b → b < slot_count → visited a b 0 ≡ true
root-visited a b up top = grind (arith, nat_tests)

pub few-visited : FewVisited 20
few-visited a b up top = (root-visited a b up top, subst (λ n. n ≤ 21) (sym (visited-length a b)) (walk-few a b up top))

to_end : (a b s : ℕ) → bit (leb a s && ltb s (suc b)) ≡ bit (leb a s && leb s b)
to_end a b s = grind (arith, nat_tests)

pub slots-once : SlotsOnce
slots-once a b up top s = chosen-covers a b s ∙ choice-covers a b up top s ∙ to_end a b s

kept-first : (f : ℕ → Bool) (n : ℕ) → f 0 ≡ true → filter f (range_with_len 0 (suc n)) ≡ 0 ∷ filter f (range_with_len 1 n)
kept-first f n e = rw e

-- one for the first, and at most six for each of twenty more
sum-most : (c : ℕ → ℕ) (most more : ℕ) (xs rest : List ℕ) → xs ≡ 0 ∷ rest → length xs ≤ 21 → c 0 ≤ most → All (λ v. c v ≤ 6) rest → 120 ≤ more → sum_by c xs ≤ most + more
sum-most c most more xs rest e l k h enough =
    let n : length xs ≡ suc (length rest) = ap length e in
    let s : sum_by c xs ≡ c 0 + sum_by c rest = ap (sum_by c) e ∙ sum_by-cons c 0 rest in
    let m = sum_by_le c 6 rest h in
    omega arith

module _ {K : Type 0} (order : K → K → Ordering) (t : KeyTree K) (low high : K) where
  -- the comparisons of both sides for one list
  abbrev sides : ℕ → ℕ
  sides v = (arrival order t Low low v).1 + (arrival order t High high v).1

  sides-most : (v : ℕ) → 1 ≤ v → v < 127 → sides v ≤ 6
  sides-most v z l =
      let x = step-most order t Low low v z in
      let y = step-most order t High high v z in
      omega arith

  sides-root : LawfulOrder order → sides 0 ≤ 2 * bit_length (length (augmented order t 0))
  sides-root laws =
      let x = (root-search K order laws t 0 Low low).1 in
      let y = (root-search K order laws t 0 High high).1 in
      omega arith

pub range-within : (K : Type 0) (more : ℕ) → 120 ≤ more → RangeWithin K more
range-within K more enough order laws t a b up top low high =
    sum-most (sides order t low high) (2 * bit_length (length (augmented order t 0))) more (visited_lists a b) (filter (visited a b) (range_with_len 1 126))
    (kept-first (visited a b) 126 (root-visited a b up top))
    (few-visited a b up top).1
    (sides-root order t low high laws)
    (all_kept_by (visited a b) (λ v. sides order t low high v ≤ 6) (range_with_len 1 126) (all_among (λ v. sides order t low high v ≤ 6) 1 126 (sides-most order t low high)))
    enough

pub sieve-smaller : {K : Type 0} (t : KeyTree K) → SieveShaped t → ParentsSmaller t
sieve-smaller t shape v z l =
    let n = shape.lists in
    let p = shape.parents v z (omega arith) in
    omega arith

pub spans-counted : (K : Type 0) → SpansCounted K
spans-counted K order laws t shape a b low high =
    map-among (chosen a b) (λ v. (v, walked_place order t Low low v, walked_place order t High high v))
    (λ v. (v, place order Low low (keys_at t v), place order High high (keys_at t v))) 0 sieve_lists
    (λ v z l.
    let n = shape.lists in
    let there : v < length t = omega arith in
    ap (λ p. (v, p, walked_place order t High high v)) (walks order laws t (sieve-smaller t shape) Low low v there)
    ∙ ap (λ p. (v, place order Low low (keys_at t v), p)) (walks order laws t (sieve-smaller t shape) High high v there))
