-- `of` makes a value of no bytes, whose lists are read off the argument. Assumes `Logic`.
use Rattle.std.proofs.Common.{[], ◌∷◌, refl}
use mir.Syntax.{a_type, named, dnil, dcons}
use mir.MapTy.{inst_fn}
use mir.Val.{Val, vptr, vstruct, vcons, vnil}
use base.Logic.{SProp, via, fst∗}
use base.Fml.{Fml}
use prog.Wp.{WpFn, Tables}
use types.Kit.{‵, raw, ◌$◌, ◌∵◌, !, qed, move, keep, join, fjoin, use0, suffices, done}
use types.Run.{and_then, no_more, returns, enter}
use types.ByLocal.{alloc_all, pass_all, free_all, look_at, get, sets}
use types.Part.{agg}
use contract.Running.{tables, tables_of}
use sound.WpLaws.{WpFn-mono}
use denote.Exit.{yes}
use denote.RattleType.{RattleType, owns}
use denote.Param.{bounded, param}
use denote.Ref.{ShrRef, shr_vals, shr_Tells}
use denote.Signature.{plain}
use denote.Builtin.{RefOf}
use denote.Shadow.{makes_shadow}
use denote.Steps.{nothing}
use denote.Triple.Clauses.{Clauses, Ended, closing}
use denote.Triple.Entry.{alive}
use denote.Triple.Spec.{triple_of}
use denote.Triple.Table.{entered}
use denote.Triple.Walked.{says, Stays, stay_dropped, walk_of, ends_at, walked, Goes-dropped, walk_Meets}
use Rattle.layout.specs.contracts.tree.Tree.{the_row}
use Rattle.layout.specs.contracts.tree.Tree.of.{ended, clauses}
use Rattle.layout.specs.contracts.tree.Tree.of.Key.{name as #self}
use Rattle.layout.proofs.tree.Tree.of.Statement.{statement}
use Rattle.layout.proofs.tree.Tree.of.Code as code

pub of_spec : {M : Type 1} → statement M
unfolding tables_of
of_spec 𝓤 𝓛 𝓜 𝓡 wired K L _ _ g d _ =
    let H = 𝓛.H in
    let 𝓣 : Tables 𝓤 H = tables_of 𝓤 H 𝓜 (tables 𝓤 H 𝓜 𝓡 𝓡.env) in
    let inst = bounded (a_type ∷ a_type ∷ []) (K, (L, tt)) (dcons d dnil) in
    let fn = inst_fn inst code.function in
    let En : Ended = ended K L g d in
    let c : Clauses 𝓤 En = clauses K L g d 𝓛 𝓜.mem 𝓡.returns in
    let R : RattleType = param 1 L in
    let arg = RefOf (0 ∷ []) tt (plain (λ _. R)) (λ _. tt) in
    let hs : Stays En.signature.params En.kept = (stay_dropped arg yes, tt) in
    let Fn = WpFn 𝓤 H 𝓣.C 𝓣.Λ fn in
    let none : Val = vstruct (vcons (vstruct vnil) vnil) in
    entered 𝓤 H (triple_of 𝓛 En.signature (closing 𝓛 En c)) 𝓣.C 𝓣.Λ (#self inst) fn (code.unfolded 𝓤 H 𝓜 𝓡 wired (K, (L, tt)) d)
    (walk_Meets 𝓛 En hs (Goes-dropped 𝓛 3 arg yes (λ κs x f. refl), tt) c Fn (WpFn-mono 𝓤 H 𝓛.laws 𝓣 fn)
    (walked 𝓛 En hs c Fn (λ κs. (shr_vals, tt)) (λ κs. (shr_Tells (named 0) κs.0 R, tt)) (λ κs qs bounds a gh are.
    let p : Val = vptr a.0.ref_ptr.0 a.0.ref_ptr.1 in
    let y : (walk_of 𝓛 En hs c).Ghost = ((κs, qs, bounds, a, (p ∷ [], tt)), gh) in
    let Post : Val → SProp 𝓤 = (walk_of 𝓛 En hs c).post y in
    let toks : SProp 𝓤 = alive 𝓛 En.signature κs qs in
    let tree = g.tree a.0.now in
    let O : Fml = (the_row (param 0 K)).own_val tree (none ∷ []) in
    via 𝓤 _ (fst∗ 𝓤 _ ((c κs a).requires gh)) (qed 𝓛 (raw toks ∷ ‵ (owns (ShrRef (named 0) κs.0 R ∷ []) a (p ∷ [], tt)) ∷ []) ∵ keep ! (0 ∷ []) $
    enter ! 𝓣.C 𝓣.Λ fn (p ∷ []) _ $ alloc_all ! (λ l. pass_all ! refl ((tt, tt), tt) $
    sets ! (agg ! (no_more !)) refl (tt, tt) $ sets ! (agg ! (and_then ! (get ! refl) (no_more !))) refl (tt, (tt, tt)) $
    returns ! (look_at ! 0 refl) $ free_all ! refl $
    use0 𝓛 (‵ O) (makes_shadow 𝓛 O (λ x. (((λ vss. (tt, ((λ uss. (tt, tt)), tt))), tt), tt)) ((record { of = record {}; lists = tree }, (refl, tt)), ((((vstruct vnil ∷ [], tt), (refl, ((tt, (refl, tt)), tt))), tt), tt))) $
    suffices ! _ (ends_at 𝓛 En hs c y none tree (tt, tt) (tt, tt)) $ says ! refl $
    nothing ! $ nothing ! $ fjoin ! $ join ! $ move ! (1 ∷ 0 ∷ []) $ join ! $ done !)))))
