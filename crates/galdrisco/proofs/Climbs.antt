-- Steps to the root.
use Rattle.std.proofs.Common.{◌≡◌, ℕ, zero, suc, ◌+◌, ◌<◌, ◌≤◌, List, length, get_or, None, sym, refl, ap, ◌∙◌, arith, le-ltb, lt-ltb, ne_eqb}
use Rattle.std.proofs.lemmas.Bool.Decides.{nat_tests}
use Rattle.std.proofs.lemmas.List.{get_or_default}
use Rattle.shelves.specs.declared.rows.ListRow.{ListRow}
use Rattle.galdrisco.specs.Depths.{parent_of, climbed}

-- any bound that is large enough will do
same-bound : (k m : ℕ) (rows : List ListRow) (list steps : ℕ) → list ≤ k → list ≤ m → climbed k rows list steps ≡ climbed m rows list steps
same-bound zero zero rows list steps p q = refl
same-bound zero (suc m) rows list steps p q =
    let e : list ≡ 0 = omega arith in sym (ap (λ (l : ℕ). climbed (suc m) rows l steps) e)
same-bound (suc k) zero rows list steps p q =
    let e : list ≡ 0 = omega arith in ap (λ (l : ℕ). climbed (suc k) rows l steps) e
same-bound (suc k) (suc m) rows list steps p q =
    let on : parent_of rows list < list → climbed k rows (parent_of rows list) (steps + 1) ≡ climbed m rows (parent_of rows list) (steps + 1)
    = λ h. same-bound k m rows (parent_of rows list) (steps + 1) (omega arith) (omega arith) in
    grind (arith, nat_tests)

one_more : (rows : List ListRow) (list steps : ℕ) → climbed list rows list steps ≡ climbed (suc list) rows list steps
one_more rows list steps = same-bound list (suc list) rows list steps (omega arith) (omega arith)

-- a step to a smaller parent
pub stepped : (rows : List ListRow) (list steps : ℕ) → (list ≡ 0 → ⊥) → list < length rows → parent_of rows list < list
    → climbed list rows list steps ≡ climbed (parent_of rows list) rows (parent_of rows list) (steps + 1)
stepped rows list steps some exists smaller =
    let step : climbed (suc list) rows list steps ≡ climbed list rows (parent_of rows list) (steps + 1)
    = rw (ne_eqb list 0 some, lt-ltb list (length rows) exists, lt-ltb (parent_of rows list) list smaller) in
    one_more rows list steps ∙ step ∙ same-bound list (parent_of rows list) rows (parent_of rows list) (steps + 1) (omega arith) (omega arith)

-- there is no such list
pub absent : (rows : List ListRow) (list steps : ℕ) → (list ≡ 0 → ⊥) → length rows ≤ list → climbed list rows list steps ≡ None
absent rows list steps some none = one_more rows list steps ∙ rw (ne_eqb list 0 some, le-ltb list (length rows) none)

-- its parent is not smaller
pub barred : (rows : List ListRow) (list steps : ℕ) → (list ≡ 0 → ⊥) → list < length rows → list ≤ parent_of rows list → climbed list rows list steps ≡ None
barred rows list steps some exists larger =
    one_more rows list steps ∙ rw (ne_eqb list 0 some, lt-ltb list (length rows) exists, le-ltb (parent_of rows list) list larger)

-- a row that was read at a list that exists
pub found : (rows : List ListRow) (list : ℕ) (row : ListRow) → list < length rows → row ≡ get_or rows list row → row.parent ≡ parent_of rows list
found rows list row exists is = ap (λ (r : ListRow). r.parent) (is ∙ get_or_default rows list row _ exists)
