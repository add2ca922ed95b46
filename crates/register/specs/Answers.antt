-- The answers of the plain register, which counts no comparisons, and how the answers of calls are read without theirs.
use Rattle.std.specs.Prelude.{ℕ, ◌-◌, List, ◌++◌, length, replicate, Ok, Err, Result}
use Rattle.faults.specs.declared.Fault.{Fault}
use Rattle.register.specs.declared.answers.Lookup.{Lookup}
use Rattle.register.specs.declared.answers.Offer.{Offer}
use Rattle.register.specs.declared.answers.Range.{Range}
use Rattle.register.specs.declared.answers.Span.{Span}
use Rattle.register.specs.declared.answers.Stop.{Stop}

abbrev pub stop : (list place : ℕ) → Stop
stop list place = record { list = list; place = place }

abbrev pub span : (list first after : ℕ) → Span
span list first after = record { list = list; first = first; after = after }

-- the rows of a record: those in use, then rows of 0
abbrev pub filled_up : {X : Type 0} → ℕ → X → List X → List X
filled_up most none xs = xs ++ replicate (most - length xs) none

pub record Stops : Type 0 where
  pub stops : List Stop
  pub used : ℕ

-- spans, with the number and the joined payload of their entries
pub record Spans (P : Type 0) : Type 0 where
  pub spans : List Span
  pub used : ℕ
  pub entries : ℕ
  pub payload : P

abbrev pub map_ok : {X Y : Type 0} → (X → Y) → Result X Fault → Result Y Fault
map_ok f (Ok x) = Ok (f x)
map_ok f (Err e) = Err e

-- the answers of calls, comparisons aside
abbrev pub lookup_read : Lookup → Stops
lookup_read l = record { stops = l.stops; used = l.used }

abbrev pub offer_read : {P : Type 0} → Offer P → Spans P
offer_read o = record { spans = o.spans; used = o.used; entries = o.entries; payload = o.payload }

abbrev pub range_read : {P : Type 0} → Range P → Spans P
range_read r = record { spans = r.spans; used = r.used; entries = r.entries; payload = r.payload }
