-- Sheets: the terms of a job as bytes, one term a line.
use Rattle.std.specs.Prelude.{◌≡◌, ℕ, ◌<◌, cond, List, [], ◌∷◌, ◌++◌, length, ◌==◌, ◌≢◌}
use Rattle.std.specs.List.{AllByRecursion, onto_first}

-- the byte that ends a line
abbrev pub line_end : ℕ
line_end = 10

-- the lines of a sheet, without their ends
abbrev pub lines_of : List ℕ → List (List ℕ)
lines_of [] = []
lines_of (b ∷ bs) = let rest = lines_of bs in cond (b == line_end) ([] ∷ rest) (onto_first b rest)

-- What lines are, for any byte that ends them.
module _ (end : ℕ) where
  -- lines, each with its end behind it
  abbrev pub written : List (List ℕ) → List ℕ
  written [] = []
  written (line ∷ lines) = line ++ end ∷ written lines

  -- no byte of a line ends it
  abbrev pub Unbroken : List ℕ → Type 0
  Unbroken line = AllByRecursion (λ b. b ≢ end) line

-- what follows the last end is a line too, unless it is empty
abbrev pub unless_empty : List ℕ → List (List ℕ)
unless_empty [] = []
unless_empty (b ∷ bs) = (b ∷ bs) ∷ []

-- a sheet is made of lines with their ends, and of what follows the last end
pub record AreLines (end : ℕ) (sheet : List ℕ) (lines : List (List ℕ)) : Type 0 where
  pub ended : List (List ℕ)
  pub last : List ℕ
  pub whole : sheet ≡ written end ended ++ last
  pub unbroken : AllByRecursion (Unbroken end) ended × Unbroken end last
  pub all : lines ≡ ended ++ unless_empty last

-- the lines of every sheet are so, and no others are
abbrev pub LinesOfSheet : ℕ → Type 0
LinesOfSheet end =
    (sheet : List ℕ) → AreLines end sheet (lines_of sheet)
    × ((lines : List (List ℕ)) → AreLines end sheet lines → lines ≡ lines_of sheet)

-- a line that a sheet begins with, and the sheet behind it, which is shorter
pub record FirstLine (sheet line behind : List ℕ) : Type 0 where
  pub lines : lines_of sheet ≡ line ∷ lines_of behind
  pub shorter : length behind < length sheet
