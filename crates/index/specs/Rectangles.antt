-- The points that the spans of a range hold.
use Rattle.std.specs.Prelude.{◌≡◌, ℕ, Bool, List, map, Some}
use Rattle.std.specs.declared.cmp.Ordering.{Ordering}
use Rattle.std.specs.List.{slice_get}
use Rattle.orders.specs.Places.{bit, count}
use Rattle.shelves.specs.Meaning.{Branch, keys_of}
use Rattle.shelves.specs.Tables.{sieved}
use Rattle.shelves.specs.declared.rows.Point.{Point}
use Rattle.cascade.specs.Points.{BarePoint, in_rectangle, holds}
use Rattle.register.specs.Register.{Register}
use Rattle.register.specs.declared.answers.Span.{Span}

module _ {K P : Type 0} where
  -- a point without its payload
  abbrev pub bare : Point K P → BarePoint K
  bare p = (p.slot, p.key)

  -- whether a span holds the point with number i of a table
  abbrev pub holds_point : List (Point K P) → (i : ℕ) → Point K P → Span → Bool
  holds_point points i p s = holds (map bare points) i p.slot (s.list, s.first, s.after)

  -- the keys of each list
  abbrev pub key_lists : List (Branch K P) → List (List K)
  key_lists bs = map (λ b. keys_of b.entries) bs

  -- where the register's keys are those sieved from one point table, whatever its payloads: each point that has a slot
  -- of a to b and a key neither below low nor above high is in exactly one of the spans, and any other point in none
  abbrev pub HoldRectangle : (K → K → Ordering) → Register K P → (a b : ℕ) (low high : K) → List Span → Type 0
  HoldRectangle order reg a b low high spans =
      (points : List (Point K P)) → key_lists reg ≡ key_lists (sieved points) → (i : ℕ) (p : Point K P) → slice_get points i ≡ Some p
      → count (holds_point points i p) spans ≡ bit (in_rectangle order a b low high (bare p))
