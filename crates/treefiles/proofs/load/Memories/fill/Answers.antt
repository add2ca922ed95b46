use Rattle.std.proofs.Common.{Ok, Option, refl, ap, ◌∙◌, arith, rules}
use Rattle.treefiles.specs.declared.item.Item.{Item as CodeItem}
use Rattle.treefiles.proofs.Filled.{none_yet, room-opens, not-refused, can_store, stored, holds-all}
use Rattle.treefiles.proofs.Runs.{comes-to-end, breaks-off}
use Rattle.treefiles.proofs.load.Memories.fill.Goals as goal

pub loop-item-init : goal.loop-item-init
loop-item-init c = record {
  fills = none_yet c.args.file.now c.new-loader.result c.args.self.now.lists.now c.args.self.now.entries.now (room-opens c.args.file.now _ _ c.requires) c.new-loader.ensures;
  same_lists = refl;
  same_entries = refl;
}

pub store-requires : goal.store-requires
store-requires c =
    can_store c.args.file.now c.loop-item.loader c.args.self.now.lists.now c.loop-item.self.lists.now c.args.self.now.entries.now c.loop-item.self.entries.now
    c.loop-item.invariant.fills (omega arith) c.requires c.next.new.self c.next.result c.in-Ok-Some.item
    (c.in-Ok-Some.is ∙ ap (λ (o : Option CodeItem). Ok o) c.in-Ok-Some.field-0-is) c.next.ensures c.loaded.result c.loaded.ensures

pub loop-item-preserved : goal.loop-item-preserved
loop-item-preserved c = record {
  fills =
      stored c.args.file.now c.loop-item.loader c.args.self.now.lists.now c.loop-item.self.lists.now c.args.self.now.entries.now c.loop-item.self.entries.now
      c.loop-item.invariant.fills (omega arith) c.requires c.next.new.self c.next.result c.in-Ok-Some.item
      (c.in-Ok-Some.is ∙ ap (λ (o : Option CodeItem). Ok o) c.in-Ok-Some.field-0-is) c.next.ensures c.loaded.result c.loaded.ensures _ _ c.store.ensures.stores;
  same_lists = c.store.ensures.same_lists ∙ c.loop-item.invariant.same_lists;
  same_entries = c.store.ensures.same_entries ∙ c.loop-item.invariant.same_entries;
}

pub returns-in_default-clause-holds : goal.returns-in_default-clause-holds
returns-in_default-clause-holds c room =
    let f = c.loop-item.invariant.fills in
    let e = comes-to-end c.args.file.now c.loop-item.loader f.run c.next.new.self c.next.result (search rules) c.next.ensures in
    holds-all c.args.file.now c.loop-item.loader c.args.self.now.lists.now c.loop-item.self.lists.now c.args.self.now.entries.now c.loop-item.self.entries.now f e.0 room.tree room.holds

pub returns-in_default-2-clause-holds : goal.returns-in_default-2-clause-holds
returns-in_default-2-clause-holds c room =
    absurd (not-refused c.args.file.now _ _ room c.in_default.field-0
    (breaks-off c.args.file.now c.loop-item.loader c.loop-item.invariant.fills.run c.next.new.self c.next.result c.in_default.field-0 c.in_default.is c.next.ensures))
