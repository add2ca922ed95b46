-- An answer from that of the build and that of the call. Assumes nothing.
use Rattle.std.proofs.Common.{◌≡◌, Some, None, Ok, Err, Option, Result, refl, ap}
use Rattle.faults.specs.declared.Fault.{Fault}
use Rattle.index.specs.declared.Index.{Index}
use Rattle.orders.specs.declared.KeyOrder.{Ghosts}
use Rattle.layout.specs.KeyTrees.{key_tree}
use Rattle.register.specs.Questions.{lists_fault, unless}
use Rattle.register.specs.Register.{Register}
use Rattle.terms.specs.Order.{term_order}
use Rattle.terms.specs.declared.key.Term.{Term}
use Rattle.terms.specs.declared.marks.Marks.{Marks}
use Rattle.service.specs.Building.{BuildsAmply, held}

-- the same refusal, whatever would have been granted
pub same-refusal : {X Y : Type 0} (o : Option Fault) (f : Fault) (x : X) (y : Y) → ◌≡◌ {A = Result X Fault} (Err f) (unless o x) → ◌≡◌ {A = Result Y Fault} (Err f) (unless o y)
same-refusal None f x y e = cc
same-refusal (Some g) f x y e = let s : f ≡ g = cc in ap (λ (h : Fault). Err h) s

-- a build that was granted with room enough: the lists were not refused, and the index holds them
granted : (o : Option Fault) (reg held : Register Term Marks) → ◌≡◌ {A = Result (Register Term Marks) Fault} (Ok held) (unless o reg) → (o ≡ None) × (held ≡ reg)
granted None reg held e = let s : held ≡ reg = cc in (refl, s)
granted (Some g) reg held e = absurd (cc)

pub built : {g : Ghosts Term} (reg : Register Term Marks) (index : Index Term Marks g) → BuildsAmply reg (Ok index) → (lists_fault term_order (key_tree reg) ≡ None) × (held index ≡ reg)
built reg index e = granted (lists_fault term_order (key_tree reg)) reg (held index) e
