-- The sieve's tree: 127 lists over 64 slots, list 0 the root, two children under each list that covers more than one slot.
use Rattle.std.specs.Prelude.{ℕ, ◌+◌, ◌-◌, ◌*◌, ◌/◌, ◌^◌, Bool, false, cond, nat_le, nat_lt}
use Rattle.orders.specs.Numbers.{bit_length}

-- how many lists there are, and how many slots
abbrev pub sieve_lists : ℕ
sieve_lists = 127

abbrev pub slot_count : ℕ
slot_count = 64

-- the parent of list v, and 0 for list 0
abbrev pub sieve_parent : ℕ → ℕ
sieve_parent v = (v - 1) / 2

-- the depth d of list v: 2 ^ d ≤ v + 1 < 2 ^ (d + 1)
abbrev pub sieve_depth : ℕ → ℕ
sieve_depth v = bit_length (v + 1) - 1

-- at depth d list v covers 2 ^ (6 - d) slots, from (v + 1 - 2 ^ d) * 2 ^ (6 - d) on
abbrev pub width_of : ℕ → ℕ
width_of v = 2 ^ (6 - sieve_depth v)

abbrev pub first_slot : ℕ → ℕ
first_slot v = (v + 1 - 2 ^ sieve_depth v) * width_of v

abbrev pub covers : ℕ → ℕ → Bool
covers v s = cond (nat_le (first_slot v) s) (nat_lt s (first_slot v + width_of v)) false
