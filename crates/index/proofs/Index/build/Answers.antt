use Rattle.std.proofs.Common.{◌≡◌, List, Some, None, Err, Option, sym, refl, ap, ◌∙◌, subst}
use Rattle.std.proofs.lemmas.Result.{err_from_is_err_and}
use Rattle.faults.specs.declared.Fault.{Fault}
use Rattle.cascade.specs.Trees.{KeyTree, Tagged}
use Rattle.layout.specs.KeyTrees.{key_tree}
use Rattle.plan.proofs.Granting.{shaped, some-lists, granted-in_order}
use Rattle.plan.proofs.Rooms.{countable, memory-asked}
use Rattle.register.specs.Questions.{unless, memory_fault}
use Rattle.index.specs.Held.{machine_of}
use Rattle.index.specs.Machine.{sizes_of}
use Rattle.index.proofs.Building.{all-in-order, facts-built, machine-built, unbuilt, all-granted, memory-refused, room, unless-ok, unless-err}
use Rattle.index.proofs.Facts.{Facts}
use Rattle.index.proofs.Index.build.Goals as goal

pub ask_memory-requires : goal.ask_memory-requires
ask_memory-requires g c =
    let p = c.in_ok-table.ensures in
    countable g.K.KeyOrder.order (key_tree (g.S.Shelf.meaning c.args.shelf.now)) c.in_ok-table.table p.0 p.1

pub returns-in_err-ask_memory : goal.returns-in_err-ask_memory
returns-in_err-ask_memory g c =
    let o = g.K.KeyOrder.order in
    let bs = g.S.Shelf.meaning c.args.shelf.now in
    let t = key_tree bs in
    let m = machine_of c.args.self.now in
    let p = c.in_ok-table.ensures in
    let f = c.in_err-ask_memory.field-0.0 in
    let x = err_from_is_err_and c.from_residual-in_err-ask_memory.result c.from_residual-in_err-ask_memory.ensures.1 in
    let asked : memory_fault o t (sizes_of m) ≡ Some f = sym (memory-asked o t c.in_ok-table.table p.1 (some-lists o t p.0) (sizes_of m)) ∙ unless-err _ f c.in_err-ask_memory.ensures in
    let e = memory-refused o t (sizes_of m) f p.0 asked in
    record {
      answer = x.1 ∙ ap (λ (h : Fault). Err h) x.2 ∙ sym (ap (λ (q : Option Fault). unless q tt) e);
      after = unbuilt o m bs f e;
    }

pub lay_down-requires : goal.lay_down-requires
lay_down-requires g c =
    let o = g.K.KeyOrder.order in
    let t = key_tree (g.S.Shelf.meaning c.args.shelf.now) in
    let sizes = sizes_of (machine_of c.args.self.now) in
    let p = c.in_ok-table.ensures in
    let asked : memory_fault o t sizes ≡ None = sym (memory-asked o t c.in_ok-table.table p.1 (some-lists o t p.0) sizes) ∙ unless-ok _ c.in_ok-ask_memory.ensures in
    let r = room o t sizes asked in
    record { shaped = shaped o t p.0; ordered = granted-in_order o t p.0; tabled = p.1; key_room = r.0; row_room = r.1; payload_room = r.2 }

pub of_shelf-requires : goal.of_shelf-requires
of_shelf-requires g c =
    let o = g.K.KeyOrder.order in
    let t = key_tree (g.S.Shelf.meaning c.args.shelf.now) in
    all-in-order o t (granted-in_order o t c.in_ok-table.ensures.0)

pub invariant_of-self : goal.invariant_of-self
invariant_of-self g c =
    let o = g.K.KeyOrder.order in
    let bs = g.S.Shelf.meaning c.args.shelf.now in
    let i = c.args.self.now in
    let table = c.in_ok-table.table in
    let p = c.in_ok-table.ensures in
    let n = c.lay_down.new.self in
    let f = facts-built o bs i.memory.keys.now i.memory.rows.now i.memory.payloads.now table n.keys.now n.rows.now n.payloads.now (shaped o (key_tree bs) p.0) p.1 c.lay_down.ensures.keys c.lay_down.ensures.rows c.lay_down.ensures.payloads in
    subst (λ (u : KeyTree g.row.K.Denot). Facts u c.of_shelf.result.augmented table n.keys.now n.rows.now n.payloads.now) (sym c.of_shelf.ensures.0)
    (subst (λ (hs : List (List (Tagged g.row.K.Denot))). Facts (key_tree bs) hs table n.keys.now n.rows.now n.payloads.now) (sym c.of_shelf.ensures.1) f)

pub returns : goal.returns
returns g c =
    let o = g.K.KeyOrder.order in
    let bs = g.S.Shelf.meaning c.args.shelf.now in
    let t = key_tree bs in
    let i = c.args.self.now in
    let m = machine_of i in
    let p = c.in_ok-table.ensures in
    let n = c.lay_down.new.self in
    let asked : memory_fault o t (sizes_of m) ≡ None = sym (memory-asked o t c.in_ok-table.table p.1 (some-lists o t p.0) (sizes_of m)) ∙ unless-ok _ c.in_ok-ask_memory.ensures in
    let e = all-granted o t (sizes_of m) p.0 asked in
    record {
      answer = sym (ap (λ (q : Option Fault). unless q tt) e);
      after = machine-built o bs i.memory.keys.now i.memory.rows.now i.memory.payloads.now m refl refl refl n.keys.now n.rows.now n.payloads.now c.lay_down.ensures.keys c.lay_down.ensures.rows c.lay_down.ensures.payloads e c.of_shelf.result.tree c.of_shelf.ensures.0;
    }
