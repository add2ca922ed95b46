-- Questions one after the other, and questions asked of numbers in rising order.
use Rattle.std.proofs.Common.{◌≡◌, ℕ, zero, suc, ◌+◌, ◌-◌, ◌<◌, ◌≤◌, Bool, true, false, Some, None, Ok, Err, Option, Result, sym, refl, ap, ◌∙◌, inl, inr, arith}
use Rattle.std.specs.List.{range_with_len}
use Rattle.std.specs.Option.{option_map}
use Rattle.std.proofs.lemmas.Bool.{cases_eq}
use Rattle.faults.specs.declared.Fault.{Fault}
use Rattle.register.specs.Questions.{ask, or_else, ask_each, unless}

pub not_none : {X : Type 0} (x : X) → Some x ≡ None → ⊥
not_none x e = let z : ◌≡◌ {A = ℕ} 0 1 = cc in omega arith

pub or-stop : (a b : Option Fault) (f : Fault) → a ≡ Some f → or_else a b ≡ Some f
or-stop a b f e = ap (λ x. or_else x b) e

pub or-next : (a b c : Option Fault) → a ≡ None → b ≡ c → or_else a b ≡ c
or-next a b c e h = ap (λ x. or_else x b) e ∙ h

pub or-none : (a b : Option Fault) → or_else a b ≡ None → (a ≡ None) × (b ≡ None)
or-none None b e = (refl, e)
or-none (Some f) b e = absurd (not_none f e)

pub or_assoc : (a b c : Option Fault) → or_else (or_else a b) c ≡ or_else a (or_else b c)
or_assoc None b c = refl
or_assoc (Some f) b c = refl

pub ask-yes : (b : Bool) (f : Fault) → ask b f ≡ None → b ≡ true
ask-yes true f e = refl
ask-yes false f e = absurd (not_none f e)

pub mapped-none : {X Y : Type 0} (f : X → Y) (o : Option X) → option_map f o ≡ None → o ≡ None
mapped-none f None e = refl
mapped-none f (Some x) e = absurd (not_none (f x) e)

-- the same questions get the same answer
pub each_same : (p q : ℕ → Option Fault) (a n : ℕ) → ((v : ℕ) → a ≤ v → v < a + n → p v ≡ q v) → ask_each p (range_with_len a n) ≡ ask_each q (range_with_len a n)
each_same p q a zero h = refl
each_same p q a (suc n) h =
    let ih = each_same p q (a + 1) n (λ v l m. h v (omega arith) (omega arith)) in
    ap (λ x. or_else x (ask_each p (range_with_len (a + 1) n))) (h a (omega arith) (omega arith)) ∙ ap (or_else (q a)) ih

-- where there is no "no", none is at any of the numbers
pub each_none : (q : ℕ → Option Fault) (a n : ℕ) → ask_each q (range_with_len a n) ≡ None → (v : ℕ) → a ≤ v → v < a + n → q v ≡ None
each_none q a zero e v l m = absurd (omega arith)
each_none q a (suc n) e v l m =
    let p = or-none (q a) (ask_each q (range_with_len (a + 1) n)) e in
    elim (cases_eq v a) [
      | inl s ↦ ap q s ∙ p.0
      | inr s ↦ each_none q (a + 1) n p.1 v (omega arith) (omega arith)
    ]

-- what is left to ask from v on, of the numbers below n
abbrev pub ask_from : (ℕ → Option Fault) → (v n : ℕ) → Option Fault
ask_from q v n = ask_each q (range_with_len v (n - v))

module _ (q : ℕ → Option Fault) (v n : ℕ) where
  pub ask-step : v < n → ask_from q v n ≡ or_else (q v) (ask_from q (v + 1) n)
  ask-step h = let e : n - v ≡ suc (n - (v + 1)) = omega arith in ap (λ m. ask_each q (range_with_len v m)) e

  pub ask-more : v < n → q v ≡ None → ask_from q (v + 1) n ≡ ask_from q v n
  ask-more h e = sym (ask-step h ∙ or-next (q v) (ask_from q (v + 1) n) (ask_from q (v + 1) n) e refl)

  pub ask-stop : (f : Fault) → v < n → q v ≡ Some f → ask_from q v n ≡ Some f
  ask-stop f h e = ask-step h ∙ or-stop (q v) (ask_from q (v + 1) n) f e

pub ask-all : (q : ℕ → Option Fault) (n : ℕ) → ask_from q 0 n ≡ ask_each q (range_with_len 0 n)
ask-all q n = let e : n - 0 ≡ n = omega arith in ap (λ m. ask_each q (range_with_len 0 m)) e

-- a question's answer as a call gives it, and back
abbrev pub Grants : Option Fault → Type 0
Grants o = ◌≡◌ {A = Result Unit Fault} (Ok tt) (unless o tt)

abbrev pub Refuses : Option Fault → Fault → Type 0
Refuses o f = ◌≡◌ {A = Result Unit Fault} (Err f) (unless o tt)

pub grant : (o : Option Fault) → o ≡ None → Grants o
grant o e = sym (ap (λ a. unless a tt) e)

pub refuse : (o : Option Fault) (f : Fault) → o ≡ Some f → Refuses o f
refuse o f e = sym (ap (λ a. unless a tt) e)

pub granted-none : (o : Option Fault) → Grants o → o ≡ None
granted-none None e = refl
granted-none (Some f) e = let z : ◌≡◌ {A = ℕ} 0 1 = cc in absurd (omega arith)

pub refused-some : (o : Option Fault) (f : Fault) → Refuses o f → o ≡ Some f
refused-some None f e = let z : ◌≡◌ {A = ℕ} 0 1 = cc in absurd (omega arith)
refused-some (Some h) f e = cc

-- what is left to ask from 1 on is all, where 0 is granted
pub ask-but_first : (q : ℕ → Option Fault) (n : ℕ) → 1 ≤ n → q 0 ≡ None → ask_from q 1 n ≡ ask_each q (range_with_len 0 n)
ask-but_first q n h e = ask-more q 0 n h e ∙ ask-all q n
