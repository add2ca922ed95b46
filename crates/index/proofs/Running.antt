-- The law over runs, call by call. Assumes nothing.
use Rattle.std.proofs.Common.{◌≡◌, ℕ, zero, suc, ◌+◌, ◌<◌, ◌≤◌, min, List, [], ◌∷◌, ◌++◌, length, get_or, take, drop, set, Some, Ok, Ordering, sym, refl, ap, ◌∙◌, subst, ap₂, inl, inr, arith, length-set, drop-drop}
use Rattle.std.proofs.lemmas.List.{take_more, drop-set-lt}
use Rattle.std.proofs.lemmas.Bool.{cases_lt}
use Rattle.std.specs.List.{slice_get}
use Rattle.shelves.specs.Meaning.{Branch}
use Rattle.register.specs.Questions.{Sizes}
use Rattle.register.specs.Register.{Register}
use Rattle.index.specs.Calls.{Outcome, outcome_read, answer, next, fed, after, after_all, Counted}
use Rattle.index.specs.Law.{register_after, machine_after, carried_out, Came, Law}
use Rattle.index.specs.Machine.{Machine, Sound, sizes_of}
use Rattle.index.specs.declared.requests.Granted.TheVariants.{Found, Offered, Ranged}
use Rattle.index.specs.declared.requests.Request.{Request}
use Rattle.index.specs.declared.requests.Request.TheVariants.{LookUp, Offer as OfferOf, Range as RangeOver}
use Rattle.index.proofs.Nexts.{sizes-after, register-after, after_more, fed-more}

module _ {X : Type 0} where
  nth-set : (xs : List X) (i : ℕ) (x : X) → i < length xs → slice_get (set xs i x) i ≡ Some x
  nth-set [] i x h = absurd (omega arith)
  nth-set (y ∷ xs) zero x h = refl
  nth-set (y ∷ xs) (suc i) x h = nth-set xs i x (omega arith)

  nth-set-before : (xs : List X) (i k : ℕ) (x : X) → k < i → slice_get (set xs i x) k ≡ slice_get xs k
  nth-set-before [] i k x h = refl
  nth-set-before (y ∷ xs) zero k x h = absurd (omega arith)
  nth-set-before (y ∷ xs) (suc i) zero x h = refl
  nth-set-before (y ∷ xs) (suc i) (suc k) x h = nth-set-before xs i k x (omega arith)

  nth-there : (xs : List X) (i : ℕ) (d : X) → i < length xs → slice_get xs i ≡ Some (get_or xs i d)
  nth-there [] i d h = absurd (omega arith)
  nth-there (y ∷ xs) zero d h = refl
  nth-there (y ∷ xs) (suc i) d h = nth-there xs i d (omega arith)

  same_some : {x y : X} → Some x ≡ Some y → x ≡ y
  same_some e = cc

module _ {S K P : Type 0} (order : K → K → Ordering) (neutral : P) (joined : P → P → P) (meaning : S → List (Branch K P)) (first : Machine K P) (calls : List (Request S K P)) where
  abbrev reg : ℕ → Register K P
  reg = register_after order neutral joined meaning first calls

  abbrev mach : ℕ → Machine K P
  mach = machine_after order neutral joined meaning first calls

  -- what the law says of one outcome
  abbrev Told : ℕ → Request S K P → Outcome P → Type 0
  Told k c o = (outcome_read o ≡ answer order neutral joined meaning (sizes_of first) (reg k) c) × Counted order (reg k) c o

  -- i calls are carried out, and the state is m
  pub record Inv (was out : List (Outcome P)) (i : ℕ) (m : Machine K P) : Type 0 where
    pub sized : length out ≡ length was
    pub behind : drop i out ≡ drop i was
    pub here : m ≡ mach i
    pub sizes : sizes_of m ≡ sizes_of first
    pub told : (k : ℕ) → k < i → (c : Request S K P) (o : Outcome P) → slice_get calls k ≡ Some c → slice_get out k ≡ Some o → Told k c o
    pub moments : (k : ℕ) → k ≤ i → ((mach k).register ≡ reg k) × Sound order (mach k)

  pub start : (was : List (Outcome P)) → Sound order first → Inv was was 0 first
  start was s = record {
    sized = refl;
    behind = refl;
    here = refl;
    sizes = refl;
    told = λ k h c o e d. absurd (omega arith);
    moments = λ k h. subst (λ (n : ℕ). ((mach n).register ≡ reg n) × Sound order (mach n)) (let z : 0 ≡ k = omega arith in z) (refl, s);
  }

  module _ (was out : List (Outcome P)) (i : ℕ) (m m' : Machine K P) (inv : Inv was out i m) (q : Request S K P) (v : Outcome P) (hq : i < length calls) (ho : i < length out) (at : q ≡ get_or calls i q)
      (answered : outcome_read v ≡ answer order neutral joined meaning (sizes_of m) m.register q) (counted : Counted order m.register q v)
      (went : m' ≡ after order joined meaning m q) (sound : Sound order m') where
    more : take (i + 1) calls ≡ take i calls ++ (q ∷ [])
    more = take_more calls i q hq ∙ ap (λ (c : Request S K P). take i calls ++ (c ∷ [])) (sym at)

    register-here : m.register ≡ reg i
    register-here = ap (λ (n : Machine K P). n.register) inv.here ∙ (inv.moments i (omega arith)).0

    there : m' ≡ mach (i + 1)
    there =
        went
        ∙ ap (λ (n : Machine K P). after order joined meaning n q) inv.here
        ∙ sym (ap (after_all order joined meaning first) more ∙ after_more order neutral joined meaning first (take i calls) q)

    register-there : (mach (i + 1)).register ≡ reg (i + 1)
    register-there =
        ap (λ (n : Machine K P). n.register) (sym there ∙ went)
        ∙ register-after order neutral joined meaning m q
        ∙ ap₂ (λ (s : Sizes) (r : Register K P). next order neutral joined meaning s r q) inv.sizes register-here
        ∙ sym (ap (fed order neutral joined meaning (sizes_of first) first.register) more ∙ fed-more order neutral joined meaning (sizes_of first) first.register (take i calls) q)

    told_here : Told i q v
    told_here = (
      answered ∙ ap₂ (λ (s : Sizes) (r : Register K P). answer order neutral joined meaning s r q) inv.sizes register-here,
      subst (λ (r : Register K P). Counted order r q v) register-here counted,
    )

    told-last : (c : Request S K P) (o : Outcome P) → slice_get calls i ≡ Some c → slice_get (set out i v) i ≡ Some o → Told i c o
    told-last c o e d =
        let same : q ≡ c = same_some (ap (λ (x : Request S K P). Some x) at ∙ sym (nth-there calls i q hq) ∙ e) in
        let is : v ≡ o = same_some (sym (nth-set out i v ho) ∙ d) in
        subst (λ (x : Request S K P). Told i x o) same (subst (Told i q) is told_here)

    told_more : (k : ℕ) → k < i + 1 → (c : Request S K P) (o : Outcome P) → slice_get calls k ≡ Some c → slice_get (set out i v) k ≡ Some o → Told k c o
    told_more k h c o e d =
        elim (cases_lt k i) [
          | inl l ↦ inv.told k l c o e (sym (nth-set-before out i k v l) ∙ d)
          | inr l ↦
              let z : i ≡ k = omega arith in
              subst (λ (n : ℕ). slice_get calls n ≡ Some c → slice_get (set out i v) n ≡ Some o → Told n c o) z (told-last c o) e d
        ]

    moments-more : (k : ℕ) → k ≤ i + 1 → ((mach k).register ≡ reg k) × Sound order (mach k)
    moments-more k h =
        elim (cases_lt i k) [
          | inl l ↦
              let z : i + 1 ≡ k = omega arith in
              subst (λ (n : ℕ). ((mach n).register ≡ reg n) × Sound order (mach n)) z (register-there, subst (Sound order) there sound)
          | inr l ↦ inv.moments k l
        ]

    pub step : Inv was (set out i v) (i + 1) m'
    step = record {
      sized = length-set out i v ∙ inv.sized;
      behind = drop-set-lt (i + 1) out i v (omega arith) ∙ sym (drop-drop 1 i out) ∙ ap (drop 1) inv.behind ∙ drop-drop 1 i was;
      here = there;
      sizes = ap sizes_of went ∙ sizes-after order neutral joined meaning m q ∙ inv.sizes;
      told = told_more;
      moments = moments-more;
    }

  pub law : (was out : List (Outcome P)) (i : ℕ) (m : Machine K P) → i ≡ carried_out order neutral joined meaning first calls was → Inv was out i m
      → Law order neutral joined meaning first calls was out m
  law was out i m n inv =
      let told : (k : ℕ) (c : Request S K P) (o : Outcome P) → Came order neutral joined meaning first calls out k c o → Told k c o =
      λ k c o came. inv.told k (subst (λ (x : ℕ). k < x) (ap (min (length calls)) inv.sized ∙ sym n) came.within) c o came.called came.wrote in
      let below : (k : ℕ) → k ≤ carried_out order neutral joined meaning first calls was → k ≤ i = λ k h. subst (λ (x : ℕ). k ≤ x) (sym n) h in
      record {
        answers = λ k c o came. (told k c o came).0;
        sized = inv.sized;
        behind = subst (λ (x : ℕ). drop x out ≡ drop x was) n inv.behind;
        registers = λ k h. (inv.moments k (below k h)).0;
        sound = λ k h. (inv.moments k (below k h)).1;
        left = inv.here ∙ ap mach n;
        lookups = λ k w q side l came. (told k (LookUp w q side) (Ok (Found l)) came).1;
        offers = λ k w q o came. (told k (OfferOf w q) (Ok (Offered o)) came).1;
        ranges = λ k a b low high r came. (told k (RangeOver a b low high) (Ok (Ranged r)) came).1.0;
        rectangles = λ k a b low high r came. (told k (RangeOver a b low high) (Ok (Ranged r)) came).1.1;
      }
