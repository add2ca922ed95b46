use Rattle.std.proofs.Common.{length, Option, Result, ap, ◌∙◌, arith}
use Rattle.faults.specs.declared.Fault.{Fault}
use Rattle.layout.specs.KeyTrees.{key_tree}
use Rattle.register.specs.Questions.{Sizes, build_fault, unless}
use Rattle.register.specs.Register.{Register}
use Rattle.shelves.specs.Kinds.{stored_of}
use Rattle.terms.specs.Order.{term_order}
use Rattle.terms.specs.declared.key.Term.{Term}
use Rattle.terms.specs.declared.marks.Marks.{Marks}
use Rattle.service.specs.Rooms.{sizes_of}
use Rattle.service.specs.Trees.{lists_of, entries_of, register_of}
use Rattle.service.proofs.Roomy.{only-lists, list_count, key-count}
use Rattle.service.proofs.tree.Tree.index.Goals as goal

pub returns : goal.returns
returns c =
    let t = c.args.self.now in
    let reg = register_of t in
    let room = c.args.room.now in
    let asked : Register Term Marks → Result (Register Term Marks) Fault = λ bs. unless (build_fault term_order (key_tree bs) (sizes_of room)) bs in
    let e = ◌∙◌ {b = asked (stored_of c.shelf.result)} c.index.ensures (ap asked c.shelf.ensures) in
    let n = list_count (lists_of t) (entries_of t) in
    let m = key-count (lists_of t) (entries_of t) in
    record {
      answer = e;
      ample = λ same.
          e ∙ ap (λ (s : Sizes). unless (build_fault term_order (key_tree reg) s) reg) same
          ∙ ap (λ (o : Option Fault). unless o reg) (only-lists term_order (key_tree reg) (length (lists_of t)) (length (entries_of t)) (omega arith) m);
    }
