-- The order of term keys.
use Rattle.std.specs.Prelude.{ℕ, ◌+◌, ◌*◌, ◌^◌, cond, List, [], ◌∷◌, length, nat_lt}
use Rattle.std.specs.declared.cmp.Ordering.TheVariants.{Less, Equal, Greater}
use Rattle.std.specs.declared.cmp.Ordering.{Ordering}
use Rattle.terms.specs.Keys.{text_of}
use Rattle.terms.specs.declared.key.Term.{Term}

-- At the first place that differs the smaller byte is below. A text that ends where the other goes on is below it.
abbrev pub text_order : List ℕ → List ℕ → Ordering
text_order [] [] = Equal
text_order [] (y ∷ ys) = Less
text_order (x ∷ xs) [] = Greater
text_order (x ∷ xs) (y ∷ ys) = cond (nat_lt x y) Less (cond (nat_lt y x) Greater (text_order xs ys))

-- terms are ordered by their texts
abbrev pub term_order : Term → Term → Ordering
term_order s t = text_order (text_of s) (text_of t)

-- the number whose digits in base 256 are these bytes, the first the highest
abbrev pub big_endian : List ℕ → ℕ
big_endian [] = 0
big_endian (b ∷ bs) = b * 256 ^ length bs + big_endian bs
