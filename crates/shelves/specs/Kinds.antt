-- The meaning of each kind of shelf.
use Rattle.std.specs.Prelude.{List}
use Rattle.shelves.specs.Meaning.{Branch}
use Rattle.shelves.specs.Tables.{stored, sieved}
use Rattle.shelves.specs.declared.either.Either.{Either}
use Rattle.shelves.specs.declared.either.Either.TheVariants.{First, Second}
use Rattle.shelves.specs.declared.sieved.Sieved.{Sieved}
use Rattle.shelves.specs.declared.stored.Stored.{Stored}

module _ {K P : Type 0} where
  abbrev pub stored_of : Stored K P → List (Branch K P)
  stored_of s = stored s.lists.now s.entries.now

  abbrev pub sieved_of : Sieved K P → List (Branch K P)
  sieved_of s = sieved s.points.now

-- one of two means what the one it holds means
abbrev pub either_of : {A B M : Type 0} → (A → M) → (B → M) → Either A B → M
either_of f g (First a) = f a
either_of f g (Second b) = g b
