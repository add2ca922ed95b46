-- The lists of a sieved shelf, by their numbers, and the steps of the loops over its points.
use Rattle.std.proofs.Common.{◌≡◌, ℕ, ◌+◌, ◌<◌, ◌≤◌, List, [], length, Option, MatchOption, Some, None, sym, refl, ap, ◌∙◌, ap₂, zero-add, arith}
use Rattle.std.proofs.lemmas.List.FromFn.{get_or-map-range_with_len}
use Rattle.std.proofs.lemmas.Option.{slice_get_past, slice_get-get_or}
use Rattle.std.specs.List.{slice_get}
use Rattle.orders.specs.declared.entry.Entry.{Entry}
use Rattle.shelves.specs.Meaning.{Branch, entries_of}
use Rattle.shelves.specs.Sieving.{sifted_in}
use Rattle.shelves.specs.Slots.{sieve_lists, sieve_parent, first_slot, width_of}
use Rattle.shelves.specs.Tables.{sieved, sifted}
use Rattle.shelves.specs.declared.rows.Point.{Point}
use Rattle.shelves.specs.declared.slots.Slots.{Slots}

module _ {K P : Type 0} (ps : List (Point K P)) where
  abbrev pub sifted_at : ℕ → Branch K P
  sifted_at v = record { parent = sieve_parent v; entries = sifted ps v }

  pub sieved-length : sieve_lists ≡ length (sieved ps)
  unfolding sieved
  sieved-length = refl

  pub sieved-at : (v : ℕ) → v < sieve_lists → slice_get (sieved ps) v ≡ Some (sifted_at v)
  unfolding sieved
  sieved-at v h =
      slice_get-get_or (sieved ps) v (sifted_at v) (omega (arith, sieved-length))
      ∙ ap (λ (b : Branch K P). Some b) (get_or-map-range_with_len sifted_at 0 sieve_lists v v (sifted_at v) h (zero-add v))

  pub sieved-past : (v : ℕ) → sieve_lists ≤ v → slice_get (sieved ps) v ≡ None
  sieved-past v h = slice_get_past (sieved ps) v (omega (arith, sieved-length))

  -- the entries of the points in the slots, none where there are no slots
  abbrev pub asked : Option Slots → List (Entry K P)
  asked None = []
  asked (Some slots) = sifted_in slots ps

  -- asked of the slots that a list covers, they are the entries of that list
  pub asked_of : (v : ℕ) (o : Option Slots) → MatchOption o (sieve_lists ≤ v) (λ s. (v < sieve_lists) × (s.first ≡ first_slot v) × (s.end ≡ first_slot v + width_of v)) → asked o ≡ entries_of (slice_get (sieved ps) v)
  asked_of v None h = sym (ap entries_of (sieved-past v h))
  asked_of v (Some slots) h = ap₂ (λ (a b : ℕ). sifted_in (record { first = a; end = b }) ps) h.1 h.2 ∙ sym (ap entries_of (sieved-at v h.0))
