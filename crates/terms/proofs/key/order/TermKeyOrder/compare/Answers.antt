use Rattle.std.proofs.Common.{◌≡◌, ℕ, ◌/◌, true, false, List, ◌∷◌, Ordering, Less, Equal, Greater, length, sym, ap, ap₂, refl, ◌∙◌, arith}
use Rattle.std.specs.Iterator.Adapters.{zip_first, zip_second}
use Rattle.std.specs.List.{concat}
use Rattle.std.specs.Ordering.{is_ne, nat_cmp, ordering_then}
use Rattle.std.specs.Simd.{first_chunks}
use Rattle.std.specs.Slice.Iter.{iter_rest}
use Rattle.terms.specs.Order.{text_order, term_order}
use Rattle.terms.specs.Lexes.{Word, words-decide, words-joined, padded-order}
use Rattle.terms.specs.declared.key.Term.{Term}
use Rattle.terms.proofs.key.order.TermKeyOrder.compare.Goals as goal

four : (s : Term) → first_chunks 8 (length s.bytes / 8) s.bytes ≡ first_chunks 8 4 s.bytes
four s = ap (λ (n : ℕ). first_chunks 8 (n / 8) s.bytes) s.sized

-- terms by their words
in_words : (s t : Term) (xs ys : List (List ℕ)) → xs ≡ first_chunks 8 (length s.bytes / 8) s.bytes → ys ≡ first_chunks 8 (length t.bytes / 8) t.bytes → (length xs ≡ length ys) × (text_order (concat xs) (concat ys) ≡ term_order s t)
in_words s t xs ys e f =
    let p = e ∙ four s in
    let q = f ∙ four t in (
      ap length p ∙ sym (ap length q),
      ap₂ (λ (a b : List (List ℕ)). text_order (concat a) (concat b)) p q
          ∙ ap₂ text_order (words-joined 4 s.bytes s.sized) (words-joined 4 t.bytes t.sized)
          ∙ padded-order s.bytes t.bytes s.len t.len (s.sized ∙ sym t.sized) (s.full, s.rest) (t.full, t.rest),
    )

-- a turn: the first words, and what is behind them
turn : (xs ys us vs : List (List ℕ)) (a b : List ℕ) (x y : ℕ) → xs ≡ a ∷ us → ys ≡ b ∷ vs → Word a x → Word b y → text_order (concat xs) (concat ys) ≡ ordering_then (nat_cmp x y) (text_order (concat us) (concat vs))
turn xs ys us vs a b x y e f v w =
    ap₂ (λ (ps qs : List (List ℕ)). text_order (concat ps) (concat qs)) e f
    ∙ words-decide a b (concat us) (concat vs) x y v w

differs : (o p : Ordering) → is_ne o ≡ true → ordering_then o p ≡ o
differs Less p h = refl
differs Equal p h = cc
differs Greater p h = refl

same : (o p : Ordering) → is_ne o ≡ false → ordering_then o p ≡ p
same Less p h = cc
same Equal p h = refl
same Greater p h = cc

pub loop-a-init : goal.loop-a-init
loop-a-init c =
    let i = c.into_iter-a-iterator.ensures.into_iter_gives in
    let z = c.zip-a-items.ensures in
    in_words c.args.self.now c.args.other.now (iter_rest (zip_first c.into_iter-a-iterator.result)) (iter_rest (zip_second c.into_iter-a-iterator.result))
    (ap (λ it. iter_rest (zip_first it)) i ∙ ap iter_rest z.first ∙ c.iter.ensures.rest ∙ c.as_chunks.ensures.front)
    (ap (λ it. iter_rest (zip_second it)) i ∙ z.second.0 ∙ c.as_chunks-2.ensures.front)

pub returns-then-is_ne : goal.returns-then-is_ne
returns-then-is_ne c =
    let d = c.in-Some.ensures.steps in
    let a = c.word.ensures in
    let b = c.word-in-loop-a.ensures in
    let t = turn _ _ _ _ _ _ _ _ d.0 d.1 (record { value = a.value; eight = a.eight; fits = a.fits }) (record { value = b.value; eight = b.eight; fits = b.fits }) in
    let found = c.cmp-found.ensures in
    let whole = c.loop-a.invariant.1 in
    let n = differs c.cmp-found.result (text_order (concat (iter_rest (zip_first c.next.new.self))) (concat (iter_rest (zip_second c.next.new.self)))) (sym c.is_ne.ensures ∙ c.if-is_ne.true) in
    cc

pub loop-a-preserved : goal.loop-a-preserved
loop-a-preserved c =
    let d = c.in-Some.ensures.steps in
    let a = c.word.ensures in
    let b = c.word-in-loop-a.ensures in
    let t = turn _ _ _ _ _ _ _ _ d.0 d.1 (record { value = a.value; eight = a.eight; fits = a.fits }) (record { value = b.value; eight = b.eight; fits = b.fits }) in
    let found = c.cmp-found.ensures in
    let whole = c.loop-a.invariant.1 in
    let n = same c.cmp-found.result (text_order (concat (iter_rest (zip_first c.next.new.self))) (concat (iter_rest (zip_second c.next.new.self)))) (sym c.is_ne.ensures ∙ c.if-is_ne.false) in
    let m = ap length d.0 in
    let l = ap length d.1 in
    let long = c.loop-a.invariant.0 in (omega arith, cc)
