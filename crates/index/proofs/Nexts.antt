-- One call more: the register and the memories after it. Assumes nothing.
use Rattle.std.proofs.Common.{◌≡◌, ℕ, ◌+◌, ◌≤◌, List, [], ◌∷◌, ◌++◌, length, drop, Some, None, Option, Ordering, refl, ap, ◌∙◌, ap₂, arith, length-append, length-drop}
use Rattle.faults.specs.declared.Fault.{Fault}
use Rattle.shelves.specs.Meaning.{Branch}
use Rattle.cascade.proofs.Augmenting.{length-augmented_from}
use Rattle.cascade.specs.Trees.{all_augmented, augmented_lists}
use Rattle.layout.specs.KeyTrees.{key_tree}
use Rattle.register.specs.Memory.{keys_laid, rows_laid, payloads_laid}
use Rattle.register.specs.Questions.{Sizes, or_else, build_fault, lists_fault, memory_fault, place_fault}
use Rattle.register.specs.Register.{Register}
use Rattle.index.specs.Calls.{next, fed, after, after_all}
use Rattle.index.specs.Machine.{Machine, granted, sizes_of, built, amended_at}
use Rattle.index.specs.declared.requests.Request.{Request}
use Rattle.index.specs.declared.requests.Request.TheVariants.{Build, Clear, Amend, LookUp, Offer as OfferOf, Range as RangeOver}
use Rattle.index.proofs.Building.{length-keys_laid, length-rows_laid, room}
use Rattle.index.proofs.Dressing.{length-payloads, length-changed}

-- what is laid down in front of a memory with room leaves it as long as it was
overlaid : {X : Type 0} (laid memory : List X) (n : ℕ) → length laid ≡ n → n ≤ length memory → length (laid ++ drop n memory) ≡ length memory
overlaid laid memory n e h =
    let a = length-append laid (drop n memory) in
    let b = length-drop n memory in
    omega arith

no-memory-fault : (o p : Option Fault) → or_else o p ≡ None → p ≡ None
no-memory-fault None p e = e
no-memory-fault (Some f) p e = let z : ◌≡◌ {A = ℕ} 0 1 = cc in absurd (omega arith)

granted-at : {X Y : Type 0} (f : X → Y) (o : Option Fault) (old new : X) → f (granted o old new) ≡ granted o (f old) (f new)
granted-at f None old new = refl
granted-at f (Some e) old new = refl

same-sizes : {a b c x y z : ℕ} → a ≡ x → b ≡ y → c ≡ z → ◌≡◌ {A = Sizes} (record { keys = a; rows = b; payloads = c }) (record { keys = x; rows = y; payloads = z })
same-sizes {a} {b} {c} {x} {y} {z} k r p =
    ap (λ (n : ℕ). record { keys = n; rows = b; payloads = c }) k
    ∙ ap₂ (λ (n m : ℕ). record { keys = x; rows = n; payloads = m }) r p

module _ {K P : Type 0} (m : Machine K P) where
  module _ (order : K → K → Ordering) (bs : List (Branch K P)) where
    sizes-built : (o : Option Fault) → build_fault order (key_tree bs) (sizes_of m) ≡ o → sizes_of (granted o m (built order m bs)) ≡ sizes_of m
    sizes-built None e =
        let t = key_tree bs in
        let gs = augmented_lists order t in
        let r = room order t (sizes_of m) (no-memory-fault (lists_fault order t) (memory_fault order t (sizes_of m)) e) in
        same-sizes
        (overlaid (keys_laid gs) m.keys _ (length-keys_laid gs) r.0)
        (overlaid (rows_laid gs) m.rows _ (length-rows_laid gs ∙ ap (λ (n : ℕ). all_augmented order t + n) (length-augmented_from order 0 t)) r.1)
        (overlaid (payloads_laid bs) m.payloads _ (length-payloads bs) r.2)
    sizes-built (Some f) e = refl

  sizes-amended : (joined : P → P → P) (v p : ℕ) (by : P) (o : Option Fault) → sizes_of (granted o m (amended_at joined m v p by)) ≡ sizes_of m
  sizes-amended joined v p by None = same-sizes refl refl (length-changed (λ x. joined x by) _ m.payloads)
  sizes-amended joined v p by (Some f) = refl

module _ {S K P : Type 0} (order : K → K → Ordering) (neutral : P) (joined : P → P → P) (meaning : S → List (Branch K P)) where
  -- no call changes the size of a memory
  pub sizes-after : (m : Machine K P) (c : Request S K P) → sizes_of (after order joined meaning m c) ≡ sizes_of m
  sizes-after m (Build s) = sizes-built m order (meaning s.now) _ refl
  sizes-after m Clear = refl
  sizes-after m (Amend v p by) = sizes-amended m joined v p by (place_fault (key_tree m.register) v p)
  sizes-after m (LookUp w q side) = refl
  sizes-after m (OfferOf w q) = refl
  sizes-after m (RangeOver a b low high) = refl

  -- the lists that a call leaves are the plain register's
  pub register-after : (m : Machine K P) (c : Request S K P) → (after order joined meaning m c).register ≡ next order neutral joined meaning (sizes_of m) m.register c
  register-after m (Build s) = granted-at (λ (n : Machine K P). n.register) (build_fault order (key_tree (meaning s.now)) (sizes_of m)) m (built order m (meaning s.now))
  register-after m Clear = refl
  register-after m (Amend v p by) = granted-at (λ (n : Machine K P). n.register) (place_fault (key_tree m.register) v p) m (amended_at joined m v p by)
  register-after m (LookUp w q side) = refl
  register-after m (OfferOf w q) = refl
  register-after m (RangeOver a b low high) = refl

  -- a call behind others
  pub after_more : (m : Machine K P) (cs : List (Request S K P)) (c : Request S K P) → after_all order joined meaning m (cs ++ (c ∷ [])) ≡ after order joined meaning (after_all order joined meaning m cs) c
  after_more m [] c = refl
  after_more m (x ∷ cs) c = after_more (after order joined meaning m x) cs c

  pub fed-more : (sizes : Sizes) (reg : Register K P) (cs : List (Request S K P)) (c : Request S K P)
      → fed order neutral joined meaning sizes reg (cs ++ (c ∷ [])) ≡ next order neutral joined meaning sizes (fed order neutral joined meaning sizes reg cs) c
  fed-more sizes reg [] c = refl
  fed-more sizes reg (x ∷ cs) c = fed-more sizes (next order neutral joined meaning sizes reg x) cs c
