-- A build: the facts of the new index, and its machine. Assumes nothing.
use Rattle.std.proofs.Common.{◌≡◌, ℕ, suc, ◌+◌, ◌<◌, ◌≤◌, Bool, true, false, leb, List, [], ◌∷◌, ◌++◌, map, length, take, drop, Some, None, Ok, Err, sum_by, Option, Result, Ordering, sym, refl, ap, ◌∙◌, ap₂, arith, length-append}
use lib.Seq.{take-append_seam}
use Rattle.std.proofs.lemmas.List.{length-map}
use Rattle.std.proofs.lemmas.List.FromFn.{length-map-range_with_len}
use Rattle.std.proofs.lemmas.List.Sums.{sum_by-cons}
use Rattle.faults.specs.declared.Fault.{Fault}
use Rattle.orders.specs.Places.{in_order}
use Rattle.shelves.specs.Meaning.{Branch}
use Rattle.cascade.proofs.Augmenting.{length-augmented_from}
use Rattle.cascade.specs.declared.row.Row.{Row}
use Rattle.cascade.specs.Rows.{rows_of, row_at}
use Rattle.cascade.specs.Trees.{KeyTree, Tagged, keys_at, keys_of, all_keys, all_augmented, augmented_lists}
use Rattle.layout.specs.KeyTrees.{key_tree, all_in_order}
use Rattle.plan.specs.Table.{Tabled}
use Rattle.plan.specs.declared.table.ListTable.{ListTable}
use Rattle.register.specs.Memory.{joined_lists, keys_laid, rows_laid, payloads_laid}
use Rattle.std.proofs.lemmas.Bool.{leb-true}
use Rattle.faults.specs.Refusals.{fault}
use Rattle.faults.specs.declared.Reason.TheVariants.{IndexMemoryShort}
use Rattle.register.specs.Questions.{Sizes, ask, or_else, unless, build_fault, lists_fault, memory_fault}
use Rattle.register.specs.Register.{Register}
use Rattle.register.specs.Shape.{Shaped}
use Rattle.index.specs.Held.{dressed}
use Rattle.index.specs.Machine.{Machine, granted, built, after_build, sizes_of}
use Rattle.index.proofs.Dressing.{dressed-back, length-payloads}
use Rattle.index.proofs.Facts.{Facts, facts-of}

length-laid : {X Y : Type 0} (f : List X → List Y) (n : List X → ℕ) → ((xs : List X) → length (f xs) ≡ n xs) → (xss : List (List X)) → length (joined_lists (map f xss)) ≡ sum_by n xss
length-laid f n e [] = refl
length-laid f n e (xs ∷ xss) =
    let ih = length-laid f n e xss in
    let a = length-append (f xs) (joined_lists (map f xss)) in
    let b = sum_by-cons n xs xss in
    let d = e xs in
    omega arith

sum_rows : {K : Type 0} (gs : List (List (Tagged K))) → sum_by (λ g. suc (length g)) gs ≡ sum_by length gs + length gs
sum_rows [] = refl
sum_rows (g ∷ gs) =
    let ih = sum_rows gs in
    let a = sum_by-cons (λ h. suc (length h)) g gs in
    let b = sum_by-cons length g gs in
    omega arith

pub length-keys_laid : {K : Type 0} (gs : List (List (Tagged K))) → length (keys_laid gs) ≡ sum_by length gs
length-keys_laid gs = length-laid keys_of length (λ g. length-map g (λ x. x.1)) gs

pub length-rows_laid : {K : Type 0} (gs : List (List (Tagged K))) → length (rows_laid gs) ≡ sum_by length gs + length gs
length-rows_laid gs = length-laid rows_of (λ g. suc (length g)) (λ g. length-map-range_with_len (λ p. row_at p g) 0 (suc (length g))) gs ∙ sum_rows gs

-- lists in order, one by one and together
pub all-in-order : {K : Type 0} (order : K → K → Ordering) (t : KeyTree K) → ((v : ℕ) → v < length t → in_order order (keys_at t v) ≡ true) → all_in_order order t ≡ true
all-in-order order [] h = refl
all-in-order order (b ∷ t) h = rw (h 0 (omega arith)) (all-in-order order t (λ v l. h (suc v) (omega arith)))

module _ {K P : Type 0} (order : K → K → Ordering) (bs : List (Branch K P)) (keys : List K) (rows : List Row) (payloads : List P) where
  abbrev t : KeyTree K
  t = key_tree bs

  abbrev gs : List (List (Tagged K))
  gs = augmented_lists order t

  same_length : length gs ≡ length t
  same_length = length-augmented_from order 0 t

  pub facts-built : (table : ListTable) (keys' : List K) (rows' : List Row) (payloads' : List P) → Shaped t → Tabled t gs table
      → keys' ≡ keys_laid gs ++ drop (all_augmented order t) keys → rows' ≡ rows_laid gs ++ drop (all_augmented order t + length t) rows → payloads' ≡ payloads_laid bs ++ drop (all_keys t) payloads
      → Facts t gs table keys' rows' payloads'
  facts-built table keys' rows' payloads' s b k r p =
      let nk = length-keys_laid gs in
      let nr = length-rows_laid gs ∙ ap (λ (n : ℕ). sum_by length gs + n) same_length in
      let np = length-payloads bs in
      let lp = ap length p ∙ length-append (payloads_laid bs) (drop (all_keys t) payloads) in
      facts-of t gs table keys' rows' payloads' s b
      (ap₂ take (sym nk) k ∙ take-append_seam (keys_laid gs) _)
      (ap₂ take (sym nr) r ∙ take-append_seam (rows_laid gs) _)
      (omega arith)

  pub machine-built : (m : Machine K P) → m.keys ≡ keys → m.rows ≡ rows → m.payloads ≡ payloads → (keys' : List K) (rows' : List Row) (payloads' : List P)
      → keys' ≡ keys_laid gs ++ drop (all_augmented order t) keys → rows' ≡ rows_laid gs ++ drop (all_augmented order t + length t) rows → payloads' ≡ payloads_laid bs ++ drop (all_keys t) payloads
      → build_fault order t (sizes_of m) ≡ None → (u : KeyTree K) → u ≡ t
      → record { register = dressed u payloads'; keys = keys'; rows = rows'; payloads = payloads' } ≡ after_build order m bs
  machine-built m ek er ep keys' rows' payloads' k r p e u s =
      let reg : dressed u payloads' ≡ bs = ap₂ dressed s p ∙ dressed-back bs (drop (all_keys t) payloads) in
      let k' : keys' ≡ keys_laid gs ++ drop (all_augmented order t) m.keys = k ∙ ap (λ (ks : List K). keys_laid gs ++ drop (all_augmented order t) ks) (sym ek) in
      let r' : rows' ≡ rows_laid gs ++ drop (all_augmented order t + length t) m.rows = r ∙ ap (λ (rs : List Row). rows_laid gs ++ drop (all_augmented order t + length t) rs) (sym er) in
      let p' : payloads' ≡ payloads_laid bs ++ drop (all_keys t) m.payloads = p ∙ ap (λ (qs : List P). payloads_laid bs ++ drop (all_keys t) qs) (sym ep) in
      ap₂ (λ (g : Register K P) (ks : List K). record { register = g; keys = ks; rows = rows'; payloads = payloads' }) reg k'
      ∙ ap₂ (λ (rs : List Row) (qs : List P). record { register = bs; keys = keys_laid gs ++ drop (all_augmented order t) m.keys; rows = rs; payloads = qs }) r' p'
      ∙ sym (ap (λ (o : Option Fault). granted o m (built order m bs)) e)

-- a refused build
pub unbuilt : {K P : Type 0} (order : K → K → Ordering) (m : Machine K P) (bs : List (Branch K P)) (f : Fault) → build_fault order (key_tree bs) (sizes_of m) ≡ Some f → m ≡ after_build order m bs
unbuilt order m bs f e = sym (ap (λ (o : Option Fault). granted o m (built order m bs)) e)

-- the questions of a build: those about the lists, then those about the memories
module _ {K : Type 0} (order : K → K → Ordering) (t : KeyTree K) (sizes : Sizes) where
  pub all-granted : lists_fault order t ≡ None → memory_fault order t sizes ≡ None → build_fault order t sizes ≡ None
  all-granted a b = rw (a, b)

  pub memory-refused : (f : Fault) → lists_fault order t ≡ None → memory_fault order t sizes ≡ Some f → build_fault order t sizes ≡ Some f
  memory-refused f a b = rw (a, b)

  -- what a granted question about the memories says
  pub room : memory_fault order t sizes ≡ None → (all_augmented order t ≤ sizes.keys) × (all_augmented order t + length t ≤ sizes.rows) × (all_keys t ≤ sizes.payloads)
  room e = go (leb (all_augmented order t) sizes.keys) (leb (all_augmented order t + length t) sizes.rows) (leb (all_keys t) sizes.payloads) refl refl refl e
    where
      go : (a b c : Bool) → leb (all_augmented order t) sizes.keys ≡ a → leb (all_augmented order t + length t) sizes.rows ≡ b → leb (all_keys t) sizes.payloads ≡ c
          → or_else (ask a (fault IndexMemoryShort 1 (all_augmented order t))) (or_else (ask b (fault IndexMemoryShort 2 (all_augmented order t + length t))) (ask c (fault IndexMemoryShort 3 (all_keys t)))) ≡ None
          → (all_augmented order t ≤ sizes.keys) × (all_augmented order t + length t ≤ sizes.rows) × (all_keys t ≤ sizes.payloads)
      go true true true p q r h = (leb-true _ _ p, leb-true _ _ q, leb-true _ _ r)
      go true true false p q r h = let z : ◌≡◌ {A = ℕ} 0 1 = cc in absurd (omega arith)
      go true false c p q r h = let z : ◌≡◌ {A = ℕ} 0 1 = cc in absurd (omega arith)
      go false b c p q r h = let z : ◌≡◌ {A = ℕ} 0 1 = cc in absurd (omega arith)

-- from answers to questions
pub unless-ok : (o : Option Fault) → ◌≡◌ {A = Result (Unit {0}) Fault} (Ok tt) (unless o tt) → o ≡ None
unless-ok None e = refl
unless-ok (Some f) e = let z : ◌≡◌ {A = ℕ} 0 1 = cc in absurd (omega arith)

pub unless-err : (o : Option Fault) (f : Fault) → ◌≡◌ {A = Result (Unit {0}) Fault} (Err f) (unless o tt) → o ≡ Some f
unless-err None f e = let z : ◌≡◌ {A = ℕ} 0 1 = cc in absurd (omega arith)
unless-err (Some g) f e = cc
