use Rattle.std.proofs.Common.{◌≡◌, ℕ, suc, ◌+◌, ◌<◌, map, set, length, sym, refl, ap, ◌∙◌, arith}
use lib.ListN.{length-map}
use Rattle.std.proofs.lemmas.List.FromFn.{length-map-range_with_len}
use Rattle.std.specs.Option.{option_map}
use Rattle.cascade.specs.Rows.{row_at, rows_of}
use Rattle.cascade.specs.Trees.{keys_of, keys_at, augmented}
use Rattle.layout.specs.KeyTrees.{key_tree}
use Rattle.laying.proofs.Pasting.{paste-whole}
use Rattle.laying.proofs.Steps.{zero_row, rows_more, some-least, source_known, tally-fits, keys-more, row_more}
use Rattle.laying.specs.Numbering.{numbered}
use Rattle.laying.proofs.sources.Sources.merge.Goals as goal

pub loop-p-init : goal.loop-p-init
loop-p-init g c = record {
  keys = refl;
  rows = refl;
  row = zero_row c.default-row.result (augmented g.S.Key.KeyOrder.order (key_tree (g.S.Shelf.meaning c.args.self.now.shelf.now)) c.args.self.now.list) c.default-row.ensures.0 c.default-row.ensures.1;
}

pub unwrap-source-requires : goal.unwrap-source-requires
unwrap-source-requires g c =
    let t = key_tree (g.S.Shelf.meaning c.args.self.now.shelf.now) in
    let v = c.args.self.now.list in
    let whole = c.requires.whole in
    some-least g.S.Key.KeyOrder.order g.met.S.Key.KeyOrder.lawful (augmented g.S.Key.KeyOrder.order t v) (keys_at t v) (map (λ k. k.now) c.args.self.now.children) c.requires.mergeable
    c.loop-p.p (omega arith) c.loop-p.row c.loop-p.invariant.row c.least.result c.least.ensures

pub count-requires : goal.count-requires
count-requires g c =
    let order = g.S.Key.KeyOrder.order in
    let laws = g.met.S.Key.KeyOrder.lawful in
    let t = key_tree (g.S.Shelf.meaning c.args.self.now.shelf.now) in
    let v = c.args.self.now.list in
    let xs = augmented order t v in
    let children = map (λ k. k.now) c.args.self.now.children in
    let y = numbered c.unwrap-source.result in
    let chosen = ap (option_map numbered) (sym c.unwrap-source.ensures) ∙ c.least.ensures in
    let whole = c.requires.whole in
    let inside : c.loop-p.p < length xs = omega arith in (
      source_known order laws xs (keys_at t v) children c.requires.mergeable c.loop-p.p inside c.loop-p.row c.loop-p.invariant.row y chosen,
      tally-fits order laws xs (keys_at t v) children c.requires.mergeable c.loop-p.p inside c.loop-p.row c.loop-p.invariant.row y chosen,
    )

pub loop-p-preserved : goal.loop-p-preserved
loop-p-preserved g c =
    let order = g.S.Key.KeyOrder.order in
    let laws = g.met.S.Key.KeyOrder.lawful in
    let t = key_tree (g.S.Shelf.meaning c.args.self.now.shelf.now) in
    let v = c.args.self.now.list in
    let xs = augmented order t v in
    let children = map (λ k. k.now) c.args.self.now.children in
    let y = numbered c.unwrap-source.result in
    let chosen = ap (option_map numbered) (sym c.unwrap-source.ensures) ∙ c.least.ensures in
    let whole = c.requires.whole in
    let more = c.requires.one_more in
    let inside : c.loop-p.p < length xs = omega arith in
    record {
      keys = keys-more order laws xs (keys_at t v) children c.requires.mergeable c.loop-p.p inside c.loop-p.row c.loop-p.invariant.row y chosen c.args.keys.now c.loop-p.keys whole c.loop-p.invariant.keys;
      rows = rows_more xs c.args.rows.now c.loop-p.rows c.loop-p.p c.loop-p.row (omega arith) (omega arith) c.loop-p.invariant.rows c.loop-p.invariant.row;
      row = c.count.ensures ∙ row_more order laws xs (keys_at t v) children c.requires.mergeable c.loop-p.p inside c.loop-p.row c.loop-p.invariant.row y chosen;
    }

pub returns : goal.returns
returns g c =
    let xs = augmented g.S.Key.KeyOrder.order (key_tree (g.S.Shelf.meaning c.args.self.now.shelf.now)) c.args.self.now.list in
    let whole = c.requires.whole in
    let more = c.requires.one_more in
    let k = length-map xs (λ x. x.1) in
    let r = length-map-range_with_len (λ q. row_at q xs) 0 (suc (length xs)) in
    let same = c.loop-p.auto.keys in
    let e : c.loop-p.p ≡ length c.loop-p.keys = omega arith in
    record {
      keys = c.loop-p.invariant.keys ∙ paste-whole c.args.keys.now (keys_of xs) c.loop-p.p (omega arith) (omega arith);
      rows = ap (λ (n : ℕ). set c.loop-p.rows n c.loop-p.row) (sym e)
          ∙ rows_more xs c.args.rows.now c.loop-p.rows c.loop-p.p c.loop-p.row (omega arith) (omega arith) c.loop-p.invariant.rows c.loop-p.invariant.row
          ∙ paste-whole c.args.rows.now (rows_of xs) (c.loop-p.p + 1) (omega arith) (omega arith);
    }
