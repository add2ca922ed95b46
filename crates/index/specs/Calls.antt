-- Calls as values: what the plain register answers to each, comparisons aside, and what it keeps then; what a call does to
-- the register and the memories together; and what an outcome's comparisons are.
use Rattle.std.specs.Prelude.{List, [], ◌∷◌, take, Ok, Err, Result}
use Rattle.std.specs.declared.cmp.Ordering.{Ordering}
use Rattle.faults.specs.declared.Fault.{Fault}
use Rattle.shelves.specs.Meaning.{Branch}
use Rattle.layout.specs.KeyTrees.{key_tree}
use Rattle.register.specs.Answers.{Stops, Spans, lookup_read, offer_read, range_read}
use Rattle.register.specs.Questions.{Sizes, unless, build_fault, place_fault}
use Rattle.register.specs.Register.{Register, amended, look_up_answer, offer_answer, range_answer}
use Rattle.register.specs.declared.answers.Lookup.{Lookup}
use Rattle.register.specs.declared.answers.Offer.{Offer}
use Rattle.register.specs.declared.answers.Range.{Range}
use Rattle.index.specs.Counts.{LookupCounts, OfferCounts, RangeCounts}
use Rattle.index.specs.Machine.{Machine, granted, cleared, after_build, after_amend}
use Rattle.index.specs.Rectangles.{HoldRectangle}
use Rattle.index.specs.declared.requests.Granted.{Granted}
use Rattle.index.specs.declared.requests.Granted.TheVariants.{Built, Cleared, Amended, Found, Offered, Ranged}
use Rattle.index.specs.declared.requests.Request.{Request}
use Rattle.index.specs.declared.requests.Request.TheVariants.{Build, Clear, Amend, LookUp, Offer as OfferOf, Range as RangeOver}

-- what a call came to: granted, with its answer, or refused
abbrev pub Outcome : Type 0 → Type 0
Outcome P = Result (Granted P) Fault

-- an answer of the plain register, which compares nothing
pub data Answer (P : Type 0) : Type 0 where
  built : Answer P
  no_lists : Answer P
  joined_to : Answer P
  places : Stops → Answer P
  entries : Spans P → Answer P
  refused : Fault → Answer P

module _ {P : Type 0} where
  abbrev pub or_refused : {X : Type 0} → (X → Answer P) → Result X Fault → Answer P
  or_refused f (Ok x) = f x
  or_refused f (Err e) = refused e

  -- an outcome, comparisons aside
  abbrev pub outcome_read : Outcome P → Answer P
  outcome_read (Ok Built) = built
  outcome_read (Ok Cleared) = no_lists
  outcome_read (Ok Amended) = joined_to
  outcome_read (Ok (Found l)) = places (lookup_read l)
  outcome_read (Ok (Offered o)) = entries (offer_read o)
  outcome_read (Ok (Ranged r)) = entries (range_read r)
  outcome_read (Err f) = refused f

module _ {S K P : Type 0} (order : K → K → Ordering) (neutral : P) (joined : P → P → P) (meaning : S → List (Branch K P)) (sizes : Sizes) where
  -- the plain register's answer or refusal; a shelf is fed by its meaning
  abbrev pub answer : Register K P → Request S K P → Answer P
  answer reg (Build s) = or_refused (λ _. built) (unless {X = Unit {0}} (build_fault order (key_tree (meaning s.now)) sizes) tt)
  answer reg Clear = no_lists
  answer reg (Amend v p by) = or_refused (λ _. joined_to) (unless {X = Unit {0}} (place_fault (key_tree reg) v p) tt)
  answer reg (LookUp w q side) = or_refused places (look_up_answer order reg w side q)
  answer reg (OfferOf w q) = or_refused entries (offer_answer order neutral joined reg w q)
  answer reg (RangeOver a b low high) = or_refused entries (range_answer order neutral joined reg a b low high)

  -- what it keeps after a call
  abbrev pub next : Register K P → Request S K P → Register K P
  next reg (Build s) = granted (build_fault order (key_tree (meaning s.now)) sizes) reg (meaning s.now)
  next reg Clear = []
  next reg (Amend v p by) = granted (place_fault (key_tree reg) v p) reg (amended joined reg v p by)
  next reg (LookUp w q side) = reg
  next reg (OfferOf w q) = reg
  next reg (RangeOver a b low high) = reg

  -- and after calls, one after the other
  abbrev pub fed : Register K P → List (Request S K P) → Register K P
  fed reg [] = reg
  fed reg (c ∷ cs) = fed (next reg c) cs

module _ {S K P : Type 0} (order : K → K → Ordering) (joined : P → P → P) (meaning : S → List (Branch K P)) where
  -- the register and the whole memories after a call
  abbrev pub after : Machine K P → Request S K P → Machine K P
  after m (Build s) = after_build order m (meaning s.now)
  after m Clear = cleared m
  after m (Amend v p by) = after_amend joined m v p by
  after m (LookUp w q side) = m
  after m (OfferOf w q) = m
  after m (RangeOver a b low high) = m

  abbrev pub after_all : Machine K P → List (Request S K P) → Machine K P
  after_all m [] = m
  after_all m (c ∷ cs) = after_all (after m c) cs

-- of a granted lookup, offer or range
module _ {P : Type 0} where
  abbrev pub WhenFound : (Lookup → Type 0) → Outcome P → Type 0
  WhenFound f (Ok (Found l)) = f l
  WhenFound f (Ok Built) = Unit
  WhenFound f (Ok Cleared) = Unit
  WhenFound f (Ok Amended) = Unit
  WhenFound f (Ok (Offered o)) = Unit
  WhenFound f (Ok (Ranged r)) = Unit
  WhenFound f (Err e) = Unit

  abbrev pub WhenOffered : (Offer P → Type 0) → Outcome P → Type 0
  WhenOffered f (Ok (Offered o)) = f o
  WhenOffered f (Ok Built) = Unit
  WhenOffered f (Ok Cleared) = Unit
  WhenOffered f (Ok Amended) = Unit
  WhenOffered f (Ok (Found l)) = Unit
  WhenOffered f (Ok (Ranged r)) = Unit
  WhenOffered f (Err e) = Unit

  abbrev pub WhenRanged : (Range P → Type 0) → Outcome P → Type 0
  WhenRanged f (Ok (Ranged r)) = f r
  WhenRanged f (Ok Built) = Unit
  WhenRanged f (Ok Cleared) = Unit
  WhenRanged f (Ok Amended) = Unit
  WhenRanged f (Ok (Found l)) = Unit
  WhenRanged f (Ok (Offered o)) = Unit
  WhenRanged f (Err e) = Unit

-- the comparisons that an outcome reports are those that its call's searches count, within their bound, and the spans of a
-- range hold its rectangle
abbrev pub Counted : {S K P : Type 0} → (K → K → Ordering) → Register K P → Request S K P → Outcome P → Type 0
Counted order reg (Build s) o = Unit
Counted order reg Clear o = Unit
Counted order reg (Amend v p by) o = Unit
Counted order reg (LookUp w q side) o = WhenFound (λ l. LookupCounts order (key_tree reg) w side q l.comparisons) o
Counted order reg (OfferOf w q) o = WhenOffered (λ x. OfferCounts order (key_tree reg) w q x.comparisons) o
Counted order reg (RangeOver a b low high) o =
    WhenRanged (λ r. RangeCounts order (key_tree reg) a b low high r.comparisons × HoldRectangle order reg a b low high (take r.used r.spans)) o
