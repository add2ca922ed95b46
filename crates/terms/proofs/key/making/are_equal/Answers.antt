use Rattle.std.proofs.Common.{◌≡◌, Bool, true, false, ◌&&◌, take, sym, refl, ap, ap₂, ◌∙◌}
use Rattle.std.proofs.lemmas.Bool.Decides.{Decides-eqb}
use Rattle.std.proofs.lemmas.Slice.Eq.{bytes_eq-Decides}
use Rattle.terms.specs.declared.key.Term.{Term}
use Rattle.terms.proofs.Texts.{by-text}
use Rattle.terms.proofs.key.making.are_equal.Goals as goal

both : (p q : Bool) → (p && q) ≡ true → (p ≡ true) × (q ≡ true)
both true true h = (refl, refl)
both true false h = cc
both false q h = cc

pub returns : goal.returns
returns c =
    let s = c.args.a.now in
    let t = c.args.b.now in
    let bytes = bytes_eq-Decides s.bytes t.bytes in
    let len = Decides-eqb s.len t.len in (
      λ h. let e = both _ _ (sym c.eq.ensures ∙ h) in ap₂ take (len.0 e.1) (bytes.0 e.0),
      λ h. let e = by-text s t h in c.eq.ensures ∙ ap₂ ◌&&◌ (bytes.1 (ap (λ (x : Term). x.bytes) e)) (len.1 (ap (λ (x : Term). x.len) e)),
    )
