use Rattle.std.proofs.Common.{◌≡◌, ap, ◌∙◌}
use Rattle.std.proofs.lemmas.Result.{err_from_is_err_and}
use Rattle.index.specs.Held.{machine_of}
use Rattle.index.specs.Machine.{sizes_of}
use Rattle.layout.specs.KeyTrees.{key_tree}
use Rattle.register.specs.Questions.{Sizes, build_fault, unless}
use Rattle.shelves.specs.Kinds.{stored_of}
use Rattle.terms.specs.Order.{term_order}
use Rattle.service.specs.Rooms.{sizes_of as room_sizes}
use Rattle.service.proofs.Asking.{same-refusal}
use Rattle.service.proofs.room.Room.index.Goals as goal

pub returns-in_err-build : goal.returns-in_err-build
returns-in_err-build c =
    let p = err_from_is_err_and c.from_residual.result c.from_residual.ensures.1 in
    let bs = stored_of c.args.shelf.now in
    let k = c.as_mut_slice.ensures.len in
    let r = c.as_mut_slice-2.ensures.len in
    let q = c.as_mut_slice-3.ensures.len in
    let u = ap sizes_of c.set_up-index.ensures in
    let s : sizes_of (machine_of c.set_up-index.result) ≡ room_sizes c.args.self.now = cc in
    let e = same-refusal (build_fault term_order (key_tree bs) (sizes_of (machine_of c.set_up-index.result))) c.in_err-build.field-0.0 tt bs c.in_err-build.ensures.answer in
    rw (p.1, p.2) (e ∙ ap (λ (z : Sizes). unless (build_fault term_order (key_tree bs) z) bs) s)
