use Rattle.std.proofs.Common.{rules, ◌≡◌, suc, [], sym, ap, ◌∙◌, ap₂, map, arith, add-one}
use Rattle.std.specs.Option.{option_map}
use Rattle.std.proofs.lemmas.List.{get_or-map}
use Rattle.cascade.specs.Lists.{samples}
use Rattle.std.specs.List.{slice_get}
use Rattle.cascade.specs.Trees.{keys_at}
use Rattle.layout.specs.KeyTrees.{key_tree}
use Rattle.laying.proofs.Reading.{own-head}
use Rattle.laying.specs.Merging.{head_of, lesser, least_head, taken_of}
use Rattle.laying.specs.Numbering.{numbered}
use Rattle.laying.proofs.sources.Sources.least.Goals as goal

pub loop-ordinal-init : goal.loop-ordinal-init
loop-ordinal-init g c =
    let best : option_map numbered c.map-best.result ≡ option_map (λ e. (0, e.key)) c.entry-own.result = search rules in
    best ∙ own-head g.S.Key.KeyOrder.order (g.S.Shelf.meaning c.args.self.now.shelf.now) c.args.self.now.list c.args.row.now.own c.entry-own.result c.entry-own.ensures

pub loop-ordinal-preserved : goal.loop-ordinal-preserved
loop-ordinal-preserved g c =
    let order = g.S.Key.KeyOrder.order in
    let children = c.args.self.now.children in
    let heads = head_of (keys_at (key_tree (g.S.Shelf.meaning c.args.self.now.shelf.now)) c.args.self.now.list) (map (λ keys. keys.now) children) c.args.row.now in
    let j = c.loop-ordinal.ordinal in
    let head : c.sample-head.result ≡ heads (suc j) =
    c.sample-head.ensures
    ∙ ap (λ ks. slice_get (samples ks) (taken_of c.args.row.now (suc j))) (sym (get_or-map (λ keys. keys.now) children j c.keys-item.result [] (omega arith))) in
    c.lesser_head-best.ensures
    ∙ ap₂ (λ o b. lesser order o (suc j) b) head c.loop-ordinal.invariant
    ∙ ap (λ n. least_head order heads (suc n)) (sym (add-one j))

pub returns : goal.returns
returns g c =
    let heads = head_of (keys_at (key_tree (g.S.Shelf.meaning c.args.self.now.shelf.now)) c.args.self.now.list) (map (λ keys. keys.now) c.args.self.now.children) c.args.row.now in
    let all : c.loop-ordinal.ordinal ≡ 4 = omega arith in
    c.loop-ordinal.invariant ∙ ap (λ n. least_head g.S.Key.KeyOrder.order heads (suc n)) all
