use Rattle.std.proofs.Common.{◌≡◌, ◌<◌, ◌≤◌, length, get_or, sym, ap, ◌∙◌, subst, ap₂, arith}
use Rattle.std.proofs.lemmas.List.FromFn.{get_or-map-range_with_len}
use Rattle.orders.specs.Places.{passed}
use Rattle.cascade.specs.Rows.{row_at, tally}
use Rattle.cascade.specs.Searches.{root_search, edge_step}
use Rattle.cascade.specs.Trees.{child_source, parent_of, ordinal, keys_of, augmented}
use Rattle.cascade.specs.Walks.{arrival, edge_arrival}
use Rattle.cascade.proofs.Walking.{arrival-step}
use Rattle.walking.specs.Reached.{arrived}
use Rattle.walking.proofs.Gathering.{arrival-within}
use Rattle.walking.proofs.Tagging.{root-map, edge-map}
use Rattle.walking.proofs.Lying.{no_run, list-few, parent_is, ordinal-is}
use Rattle.walking.proofs.walk.Cascade.arrive.Goals as goal

pub returns-then-list-eq0 : goal.returns-then-list-eq0
returns-then-list-eq0 g c =
    let order = g.K.KeyOrder.order in
    let t = c.args.self.now.tree.now in
    let f = passed order c.args.side c.args.key.now in
    let e = c.if-list-eq0.true in
    c.root_search.ensures
    ∙ ap (λ ks. arrived (root_search f ks)) (c.keys_of-keys.ensures ∙ ap (λ v. keys_of (augmented order t v)) e)
    ∙ ap arrived (root-map f (λ x. x.1) (augmented order t 0))
    ∙ ap (λ v. arrived (arrival order t c.args.side c.args.key.now v)) (sym e)

pub bounds-self-list : goal.bounds-self-list
bounds-self-list g c = list-few c.args.self.now c.args.list c.requires.there

pub row-row-requires : goal.row-row-requires
row-row-requires g c =
    let order = g.K.KeyOrder.order in
    let self = c.args.self.now in
    let t = self.tree.now in
    let list = c.args.list in
    let n = c.if-list-eq0.false in
    let below : 0 < list = omega arith in
    let s = self.laid.shaped.smaller list below c.requires.there in
    let l : parent_of t list < length t = omega (arith, c.requires.there) in
    let up = sym (parent_is self list c.requires.there) in
    record {
      there = subst (λ v. v < length t) up l;
      within = subst (λ v. c.args.above ≤ length (augmented order t v)) up
          (subst (λ p. p ≤ length (augmented order t (parent_of t list))) (sym (c.requires.from_parent below))
          (arrival-within order g.met.K.KeyOrder.lawful t self.laid.shaped.smaller c.args.side c.args.key.now (parent_of t list) l));
    }

pub offset_bounds-row-run : goal.offset_bounds-row-run
offset_bounds-row-run g c =
    let o = ordinal-is c.args.self.now c.args.list c.requires.there in
    let s = c.args.self.now.laid.shaped.narrow c.args.list c.requires.there in
    record { fits = omega arith }

pub bounds-row-run : goal.bounds-row-run
bounds-row-run g c =
    let o = ordinal-is c.args.self.now c.args.list c.requires.there in
    let s = c.args.self.now.laid.shaped.narrow c.args.list c.requires.there in
    omega arith

pub returns : goal.returns
returns g c =
    let order = g.K.KeyOrder.order in
    let self = c.args.self.now in
    let t = self.tree.now in
    let list = c.args.list in
    let above = c.args.above in
    let side = c.args.side in
    let q = c.args.key.now in
    let f = passed order side q in
    let there = c.requires.there in
    let n = c.if-list-eq0.false in
    let below : 0 < list = omega arith in
    let g_of = tally (child_source (ordinal t list)) above (augmented order t (parent_of t list)) in
    let row : c.row-row.result ≡ row_at above (augmented order t (parent_of t list)) =
    c.row-row.ensures ∙ ap (λ v. row_at above (augmented order t v)) (parent_is self list there) in
    let tallied : get_or c.row-row.result.children (get_or self.table.now.runs list no_run).ordinal 0 ≡ g_of =
    ap₂ (λ r o. get_or r.children o 0) row (ordinal-is self list there)
    ∙ get_or-map-range_with_len (λ j. tally (child_source j) above (augmented order t (parent_of t list))) 0 4 (ordinal t list) (ordinal t list) 0 (self.laid.shaped.narrow list there) (omega arith) in
    c.edge_step.ensures
    ∙ ap₂ (λ n ks. arrived (edge_step f n ks)) tallied c.keys_of-keys.ensures
    ∙ ap arrived (edge-map f (λ x. x.1) g_of (augmented order t list))
    ∙ ap (λ p. arrived (edge_arrival order t side q list p)) (c.requires.from_parent below)
    ∙ ap arrived (sym (arrival-step order t side q self.laid.shaped.smaller list below there))
