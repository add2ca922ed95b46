-- What building an index in a room comes to.
use Rattle.std.specs.Prelude.{◌≡◌, Result}
use Rattle.faults.specs.declared.Fault.{Fault}
use Rattle.index.specs.Held.{machine_of}
use Rattle.index.specs.declared.Index.{Index}
use Rattle.orders.specs.declared.KeyOrder.{Ghosts}
use Rattle.layout.specs.KeyTrees.{key_tree}
use Rattle.register.specs.Answers.{map_ok}
use Rattle.register.specs.Questions.{Sizes, unless, build_fault, lists_fault}
use Rattle.register.specs.Register.{Register}
use Rattle.terms.specs.Order.{term_order}
use Rattle.terms.specs.declared.key.Term.{Term}
use Rattle.terms.specs.declared.marks.Marks.{Marks}

-- the plain register of an index's lists
abbrev pub held : {g : Ghosts Term} → Index Term Marks g → Register Term Marks
held index = (machine_of index).register

-- an index of just these lists, or the first refusal of the build's questions
abbrev pub Builds : {g : Ghosts Term} → Register Term Marks → Sizes → Result (Index Term Marks g) Fault → Type 0
Builds reg room built = map_ok held built ≡ unless (build_fault term_order (key_tree reg) room) reg

-- the same with room enough, so that only the lists can be refused
abbrev pub BuildsAmply : {g : Ghosts Term} → Register Term Marks → Result (Index Term Marks g) Fault → Type 0
BuildsAmply reg built = map_ok held built ≡ unless (lists_fault term_order (key_tree reg)) reg
