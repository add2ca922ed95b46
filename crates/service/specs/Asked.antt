-- What a question to a tree answers.
use Rattle.std.specs.Prelude.{◌≡◌, ◌⊎◌, Some, None, Ok, Err, Option, Result}
use Rattle.faults.specs.declared.Fault.{Fault}
use Rattle.index.specs.declared.Index.{Index}
use Rattle.orders.specs.declared.KeyOrder.{Ghosts}
use Rattle.layout.specs.KeyTrees.{key_tree}
use Rattle.register.specs.Questions.{lists_fault}
use Rattle.register.specs.Register.{Register}
use Rattle.terms.specs.Order.{term_order}
use Rattle.terms.specs.declared.key.Term.{Term}
use Rattle.terms.specs.declared.marks.Marks.{Marks}
use Rattle.service.specs.Building.{held}
use Rattle.service.specs.declared.refusal.Refusal.{Refusal}
use Rattle.service.specs.declared.refusal.Refusal.TheVariants.{Fault as ByFault, NoMemory}

-- the answer, unless an earlier question gets a "no"
abbrev pub after : {Y : Type 0} → Option Fault → Result Y Fault → Result Y Fault
after None answer = answer
after (Some f) answer = Err f

-- first what an index asks of the lists, then the call's own
abbrev pub asked : {Y : Type 0} → Register Term Marks → (Register Term Marks → Result Y Fault) → Result Y Fault
asked reg answer = after (lists_fault term_order (key_tree reg)) (answer reg)

-- what is granted or refused is just the answer; whether there is memory enough is left open
abbrev pub Answers : {X Y : Type 0} → (X → Y) → Result Y Fault → Result X Refusal → Type 0
Answers read answer (Ok x) = answer ≡ Ok (read x)
Answers read answer (Err (ByFault f)) = answer ≡ Err f
Answers read answer (Err NoMemory) = Unit {0}

-- the lists are granted, and an index that holds them may give this answer
abbrev pub FromIndex : {g : Ghosts Term} {X : Type 0} → Register Term Marks → (Index Term Marks g → Result X Fault → Type 0) → Result X Fault → Type 0
FromIndex {g} reg gives answer = (lists_fault term_order (key_tree reg) ≡ None) × ((index : Index Term Marks g) × (held index ≡ reg) × gives index answer)

-- what a question comes to that is asked of an index: what it answers there, or what the lists are refused for; whether there is
-- memory enough is left open
abbrev pub Asks : {g : Ghosts Term} {X : Type 0} → Register Term Marks → (Index Term Marks g → Result X Fault → Type 0) → Result X Refusal → Type 0
Asks reg gives (Ok x) = FromIndex reg gives (Ok x)
Asks reg gives (Err (ByFault f)) = (lists_fault term_order (key_tree reg) ≡ Some f) ⊎ FromIndex reg gives (Err f)
Asks reg gives (Err NoMemory) = Unit {0}
