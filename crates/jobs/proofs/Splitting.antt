-- The lines of a sheet: the first of them, and that they are those that the sheet is made of. Assumes nothing.
use Rattle.std.proofs.Common.{◌≡◌, ℕ, zero, suc, ◌+◌, ◌<◌, ◌≤◌, true, false, eqb, ◌⊎◌, List, [], ◌∷◌, ◌++◌, length, get_or, take, drop, Some, None, position, sym, refl, ap, ◌∙◌, subst, ap₂, inl, inr, arith, add-one, length-drop}
use Rattle.std.proofs.lemmas.List.{append_assoc}
use Rattle.std.proofs.lemmas.List.Quantifiers.{position-Some}
use Rattle.std.proofs.lemmas.List.Sums.{fails_before_first}
use Rattle.std.proofs.lemmas.Bool.{eq-eqb, ne_eqb, cases_eq, cond-true, cond-false}
use Rattle.std.proofs.lemmas.Bool.Decides.{nat_tests}
use Rattle.std.specs.List.{AllByRecursion, onto_first, position_or_len}
use Rattle.jobs.specs.Sheets.{lines_of, FirstLine, written, Unbroken, unless_empty, AreLines, LinesOfSheet}

-- by the first byte
at-end : (b : ℕ) (bs : List ℕ) → b ≡ 10 → lines_of (b ∷ bs) ≡ [] ∷ lines_of bs
at-end b bs e = cond-true (eqb b 10) ([] ∷ lines_of bs) (onto_first b (lines_of bs)) (eq-eqb b 10 e)

inside : (b : ℕ) (bs : List ℕ) → (b ≡ 10 → ⊥) → lines_of (b ∷ bs) ≡ onto_first b (lines_of bs)
inside b bs n = cond-false (eqb b 10) ([] ∷ lines_of bs) (onto_first b (lines_of bs)) (ne_eqb b 10 n)

-- a line with its end, then a sheet
ended-line : (line rest : List ℕ) → Unbroken 10 line → lines_of (line ++ 10 ∷ rest) ≡ line ∷ lines_of rest
ended-line [] rest u = refl
ended-line (b ∷ bs) rest u = inside b (bs ++ 10 ∷ rest) u.0 ∙ ap (onto_first b) (ended-line bs rest u.1)

-- bytes without an end
last_line : (line : List ℕ) → Unbroken 10 line → lines_of line ≡ unless_empty line
last_line [] u = refl
last_line (b ∷ []) u = inside b [] u.0
last_line (b ∷ (c ∷ bs)) u = inside b (c ∷ bs) u.0 ∙ ap (onto_first b) (last_line (c ∷ bs) u.1)

-- up to the first byte 10
first-line : (sheet : List ℕ) (i : ℕ) → i < length sheet → eqb (get_or sheet i 0) 10 ≡ true → ((k : ℕ) → k < i → eqb (get_or sheet k 0) 10 ≡ false)
    → lines_of sheet ≡ take i sheet ∷ lines_of (drop (suc i) sheet)
first-line [] i h e f = absurd (omega arith)
first-line (b ∷ bs) zero h e f = rw e
first-line (b ∷ bs) (suc i) h e f = rw (f 0 (omega arith), first-line bs i (omega arith) e (λ k l. f (suc k) (omega arith)))

-- without a byte 10
whole-line : (sheet : List ℕ) → 0 < length sheet → ((k : ℕ) → k < length sheet → eqb (get_or sheet k 0) 10 ≡ false) → lines_of sheet ≡ sheet ∷ []
whole-line [] h f = absurd (omega arith)
whole-line (b ∷ []) h f = rw (f 0 (omega arith))
whole-line (b ∷ (c ∷ bs)) h f = rw (f 0 (omega arith), whole-line (c ∷ bs) (omega arith) (λ k l. f (suc k) (omega arith)))

-- lines that make up a sheet are its lines
made_of : (ended : List (List ℕ)) (last : List ℕ) → AllByRecursion (Unbroken 10) ended → Unbroken 10 last → lines_of (written 10 ended ++ last) ≡ ended ++ unless_empty last
made_of [] last us u = last_line last u
made_of (line ∷ lines) last us u =
    ap lines_of (append_assoc line (10 ∷ written 10 lines) last)
    ∙ ended-line line (written 10 lines ++ last) us.0
    ∙ ap (λ (ls : List (List ℕ)). line ∷ ls) (made_of lines last us.1 u)

only-lines : (sheet : List ℕ) (lines : List (List ℕ)) → AreLines 10 sheet lines → lines ≡ lines_of sheet
only-lines sheet lines a = a.all ∙ sym (ap lines_of a.whole ∙ made_of a.ended a.last a.unbroken.0 a.unbroken.1)

-- a byte before the last bytes
onto-last : (b : ℕ) (last : List ℕ) → onto_first b (unless_empty last) ≡ (b ∷ last) ∷ []
onto-last b [] = refl
onto-last b (c ∷ cs) = refl

-- a sheet with one byte more in front
before : (b : ℕ) (bs : List ℕ) → (b ≡ 10 → ⊥) → (ended : List (List ℕ)) (last : List ℕ) → bs ≡ written 10 ended ++ last
    → AllByRecursion (Unbroken 10) ended → Unbroken 10 last → lines_of bs ≡ ended ++ unless_empty last → AreLines 10 (b ∷ bs) (lines_of (b ∷ bs))
before b bs n [] last w us u e = record {
  ended = [];
  last = b ∷ last;
  whole = ap (λ (xs : List ℕ). b ∷ xs) w;
  unbroken = (tt, (n, u));
  all = inside b bs n ∙ ap (onto_first b) e ∙ onto-last b last;
}
before b bs n (line ∷ lines) last w us u e = record {
  ended = (b ∷ line) ∷ lines;
  last = last;
  whole = ap (λ (xs : List ℕ). b ∷ xs) w;
  unbroken = (((n, us.0), us.1), u);
  all = inside b bs n ∙ ap (onto_first b) e;
}

step : (b : ℕ) (bs : List ℕ) → AreLines 10 bs (lines_of bs) → (b ≡ 10) ⊎ (b ≡ 10 → ⊥) → AreLines 10 (b ∷ bs) (lines_of (b ∷ bs))
step b bs a (inl e) = record {
  ended = [] ∷ a.ended;
  last = a.last;
  whole = ap₂ (λ (x : ℕ) (xs : List ℕ). x ∷ xs) e a.whole;
  unbroken = ((tt, a.unbroken.0), a.unbroken.1);
  all = at-end b bs e ∙ ap (λ (ls : List (List ℕ)). [] ∷ ls) a.all;
}
step b bs a (inr n) = before b bs n a.ended a.last a.whole a.unbroken.0 a.unbroken.1 a.all

are-lines : (sheet : List ℕ) → AreLines 10 sheet (lines_of sheet)
are-lines [] = record { ended = []; last = []; whole = refl; unbroken = (tt, tt); all = refl }
are-lines (b ∷ bs) = step b bs (are-lines bs) (cases_eq b 10)

-- the first line ends before the first byte 10, or with the sheet
pub ends_at : (sheet : List ℕ) (i : ℕ) → Some i ≡ position (λ b. eqb b 10) sheet → FirstLine sheet (take i sheet) (drop (i + 1) sheet)
ends_at sheet i e =
    let p = position-Some (λ b. eqb b 10) sheet i 0 (sym e) in
    record { lines = rw add-one (first-line sheet i p.0 p.1 p.2); shorter = let l = length-drop (i + 1) sheet in let h = p.0 in omega (arith, l) }

pub ends_with : (sheet : List ℕ) → 0 < length sheet → None ≡ position (λ b. eqb b 10) sheet → FirstLine sheet sheet []
ends_with sheet h e =
    let n = position_or_len (λ b. eqb b 10) sheet in
    let all : length sheet ≤ n = grind (arith, nat_tests) in
    record { lines = whole-line sheet h (λ k l. fails_before_first (λ b. eqb b 10) sheet k 0 (omega arith)); shorter = h }

-- a sheet has no more lines than bytes
pub few-lines : (sheet : List ℕ) → length (lines_of sheet) ≤ length sheet
few-lines [] = omega arith
few-lines (b ∷ bs) =
    let ih = few-lines bs in
    let on : length (onto_first b (lines_of bs)) ≤ length (lines_of bs) + 1 = elim (lines_of bs) as (λ ls. length (onto_first b ls) ≤ length ls + 1) [ [] ↦ omega arith | line ∷ lines ↦ omega arith ] in
    grind arith

pub lines-of-sheet : (end : ℕ) → 10 ≡ end → LinesOfSheet end
lines-of-sheet end e = subst LinesOfSheet e (λ sheet. (are-lines sheet, only-lines sheet))
