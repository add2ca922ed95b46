-- The plain register: lists with parents and entries, at first none. Nothing is searched: a place is the number of entries
-- passed.
use Rattle.std.specs.Prelude.{ℕ, zero, suc, ◌-◌, List, [], ◌∷◌, map, length, take, drop, fold, Result}
use Rattle.std.specs.declared.cmp.Ordering.{Ordering}
use Rattle.std.specs.List.{slice_get}
use Rattle.faults.specs.declared.Fault.{Fault}
use Rattle.orders.specs.declared.entry.Entry.{Entry}
use Rattle.orders.specs.declared.side.Side.{Side}
use Rattle.orders.specs.declared.side.Side.TheVariants.{Low, High}
use Rattle.orders.specs.Places.{place}
use Rattle.shelves.specs.Meaning.{Branch, entries_of, payloads_of}
use Rattle.cascade.specs.SlotTree.{counted_spans}
use Rattle.cascade.specs.Trees.{keys_at, path}
use Rattle.layout.specs.KeyTrees.{key_tree}
use Rattle.register.specs.Limits.{most_stops, most_spans}
use Rattle.register.specs.Questions.{unless, list_fault, range_fault}
use Rattle.register.specs.Memory.{joined_lists}
use Rattle.register.specs.Answers.{stop, span, filled_up, Stops, Spans}
use Rattle.register.specs.declared.answers.Span.{Span}

-- one element changed; none past the end
abbrev pub changed_at : {X : Type 0} → (X → X) → ℕ → List X → List X
changed_at f i [] = []
changed_at f zero (x ∷ xs) = f x ∷ xs
changed_at f (suc i) (x ∷ xs) = x ∷ changed_at f i xs

-- its lists, at first none
abbrev pub Register : (K P : Type 0) → Type 0
Register K P = List (Branch K P)

module _ {K P : Type 0} where
  abbrev pub entries_at : Register K P → ℕ → List (Entry K P)
  entries_at reg v = entries_of (slice_get reg v)

  -- the entries of a span
  abbrev pub spanned : Register K P → Span → List (Entry K P)
  spanned reg s = take (s.after - s.first) (drop s.first (entries_at reg s.list))

  -- the payload joined to one entry
  abbrev pub amended_entry : (P → P → P) → P → Entry K P → Entry K P
  amended_entry joined by e = record { key = e.key; payload = joined e.payload by }

  abbrev pub amended_list : (P → P → P) → ℕ → P → Branch K P → Branch K P
  amended_list joined p by b = record { parent = b.parent; entries = changed_at (amended_entry joined by) p b.entries }

  abbrev pub amended : (P → P → P) → Register K P → (v p : ℕ) → P → Register K P
  amended joined reg v p by = changed_at (amended_list joined p by) v reg

module _ {K P : Type 0} (order : K → K → Ordering) where
  -- the place of q in list v
  abbrev pub place_in : Register K P → Side → K → ℕ → ℕ
  place_in reg side q v = place order side q (keys_at (key_tree reg) v)

  -- a lookup that ends at list w
  abbrev pub looked : Register K P → (w : ℕ) → Side → K → Stops
  looked reg w side q =
      let lists = path (key_tree reg) w in
      record { stops = filled_up most_stops (stop 0 0) (map (λ v. stop v (place_in reg side q v)) lists); used = length lists }

  abbrev pub look_up_answer : Register K P → (w : ℕ) → Side → K → Result Stops Fault
  look_up_answer reg w side q = unless (list_fault (key_tree reg) w) (looked reg w side q)

module _ {K P : Type 0} (order : K → K → Ordering) (neutral : P) (joined : P → P → P) where
  -- spans with the number and the joined payload of their entries, in a record of so many rows
  abbrev pub summed : ℕ → Register K P → List Span → Spans P
  summed most reg spans =
      let between = joined_lists (map (spanned reg) spans) in
      record {
        spans = filled_up most (span 0 0 0) spans;
        used = length spans;
        entries = length between;
        payload = fold joined neutral (payloads_of between);
      }

  -- an offer of q at list w: in each list of the path the entries from the low-side place to before the high-side place
  abbrev pub offered : Register K P → (w : ℕ) → K → Spans P
  offered reg w q = summed most_stops reg (map (λ v. span v (place_in order reg Low q v) (place_in order reg High q v)) (path (key_tree reg) w))

  abbrev pub offer_answer : Register K P → (w : ℕ) → K → Result (Spans P) Fault
  offer_answer reg w q = unless (list_fault (key_tree reg) w) (offered reg w q)

  -- a range over the slots a to b and the keys low to high: in each chosen list of the sieve's tree the entries from the
  -- low-side place of low to before the high-side place of high
  abbrev pub ranged : Register K P → (a b : ℕ) (low high : K) → Spans P
  ranged reg a b low high = summed most_spans reg (map (λ s. span s.0 s.1 s.2) (counted_spans order (key_tree reg) a b low high))

  abbrev pub range_answer : Register K P → (a b : ℕ) (low high : K) → Result (Spans P) Fault
  range_answer reg a b low high = unless (range_fault order (key_tree reg) a b low high) (ranged reg a b low high)
