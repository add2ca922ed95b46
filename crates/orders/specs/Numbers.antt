-- Numbers that bounds speak of.
use Rattle.std.specs.Prelude.{ℕ, zero, suc, ◌/◌, cond, ◌==◌}

-- how often n can be halved until it is 0; `turns` bounds the halvings
abbrev pub halvings : (turns n : ℕ) → ℕ
halvings zero n = 0
halvings (suc k) n = let more = halvings k (n / 2) in cond (n == 0) 0 (suc more)

-- the number of binary digits of n, 0 for 0
abbrev pub bit_length : ℕ → ℕ
bit_length n = halvings n n
