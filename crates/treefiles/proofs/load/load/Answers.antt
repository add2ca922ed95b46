use Rattle.std.proofs.Common.{Err, ap, ◌∙◌, rules}
use Rattle.std.proofs.lemmas.List.Elements.{All-from_get_or}
use Rattle.std.proofs.lemmas.Result.{err_from_is_err_and}
use Rattle.faults.specs.declared.Fault.{Fault}
use Rattle.treefiles.proofs.Closing.{IsByte, Bytes}
use Rattle.treefiles.proofs.Promise.{check-refuses, lists-refuse, entries-refuse, room-found, fills}
use Rattle.treefiles.proofs.load.load.Goals as goal

pub returns-in_err-needed : goal.returns-in_err-needed
returns-in_err-needed c =
    let p = err_from_is_err_and c.from_residual.result c.from_residual.ensures.1 in
    check-refuses c.args.file.now c.args.lists.now c.args.entries.now _ c.in_err-needed.ensures _ (p.1 ∙ ap (λ (f : Fault). Err f) p.2)

pub returns-in_err-ask_room : goal.returns-in_err-ask_room
returns-in_err-ask_room c =
    let p = err_from_is_err_and c.from_residual-in_err-ask_room.result c.from_residual-in_err-ask_room.ensures.1 in
    let short = c.in_err-ask_room.ensures in
    lists-refuse c.args.file.now c.args.lists.now c.args.entries.now c.in_ok-needed.needed c.in_ok-needed.ensures short.0 _
    (p.1 ∙ ap (λ (f : Fault). Err f) (p.2 ∙ short.1))

pub returns-in_err-ask_room-2 : goal.returns-in_err-ask_room-2
returns-in_err-ask_room-2 c =
    let p = err_from_is_err_and c.from_residual-in_err-ask_room-2.result c.from_residual-in_err-ask_room-2.ensures.1 in
    let short = c.in_err-ask_room-2.ensures in
    entries-refuse c.args.file.now c.args.lists.now c.args.entries.now c.in_ok-needed.needed c.in_ok-needed.ensures c.in_ok-ask_room.ensures short.0 _
    (p.1 ∙ ap (λ (f : Fault). Err f) (p.2 ∙ short.1))

pub fill-requires : goal.fill-requires
fill-requires c =
    room-found c.args.file.now c.args.lists.now c.args.entries.now c.in_ok-needed.needed c.in_ok-needed.ensures c.in_ok-ask_room.ensures c.in_ok-ask_room-2.ensures

pub returns : goal.returns
returns c =
    let bytes : Bytes c.args.file.now = All-from_get_or IsByte _ 0 (λ k _. (c.type_inv.file k).fits) in
    fills c.args.file.now c.args.lists.now c.args.entries.now c.in_ok-needed.needed c.in_ok-needed.ensures bytes c.in_ok-ask_room.ensures c.in_ok-ask_room-2.ensures
    _ c.fill.new.self.lists.now _ c.fill.new.self.entries.now (search rules) (search rules) c.fill.ensures.holds
