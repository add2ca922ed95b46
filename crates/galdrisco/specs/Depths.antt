-- The depth of a list in a list table.
use Rattle.std.specs.Prelude.{ℕ, zero, suc, ◌+◌, cond, List, length, Some, None, Option, ◌==◌, nat_lt, slice_index_or}
use Rattle.shelves.specs.declared.rows.ListRow.{ListRow}

abbrev pub parent_of : List ListRow → ℕ → ℕ
parent_of rows list = (slice_index_or rows list (record { parent = 0; count = 0 })).parent

-- the steps from a list to the root, after `steps` of them: each list on the way exists and has a smaller parent;
-- `most` bounds how many are left
abbrev pub climbed : (most : ℕ) → List ListRow → (list steps : ℕ) → Option ℕ
climbed zero rows list steps = Some steps
climbed (suc k) rows list steps =
    cond (list == 0) (Some steps)
    (cond (nat_lt list (length rows)) (cond (nat_lt (parent_of rows list) list) (climbed k rows (parent_of rows list) (steps + 1)) None) None)

-- from a list there are no more steps than its number, since each parent is smaller
abbrev pub depth_of : List ListRow → ℕ → Option ℕ
depth_of rows list = climbed list rows list 0
