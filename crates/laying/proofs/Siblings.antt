-- One list more among those that may be children.
use Rattle.std.proofs.Common.{◌≡◌, ℕ, zero, suc, ◌+◌, ◌-◌, ◌<◌, ◌≢◌, List, [], ◌∷◌, length, get_or, drop, set, sym, refl, ap, ◌∙◌, subst, inl, inr, arith}
use Rattle.std.proofs.lemmas.List.{get_or-set_same, get_or-set_other, get_or-take, get_or-drop}
use borrow.Rule.Slice.PartMut.{mid_of}
use Rattle.std.proofs.lemmas.Bool.{cases_eq}
use Rattle.register.specs.Limits.{most_children}
use Rattle.plan.specs.declared.table.ListRun.{ListRun}
use Rattle.laying.specs.Children.{no_run, run_of, keys_in, Ordinals, ChildKeys}

nothing : {K : Type 0} (j : ℕ) → get_or {A = List K} ([] ∷ ([] ∷ ([] ∷ ([] ∷ [])))) j [] ≡ []
nothing zero = refl
nothing (suc zero) = refl
nothing (suc (suc zero)) = refl
nothing (suc (suc (suc zero))) = refl
nothing (suc (suc (suc (suc j)))) = refl

-- the lists behind the root
pub behind-root : (runs : List ListRun) (n i : ℕ) → i < n - 1 → get_or (mid_of 1 (n - 1) runs) i no_run ≡ run_of runs (i + 1)
behind-root runs n i h =
    get_or-take (n - 1) (drop 1 runs) i no_run h ∙ get_or-drop 1 runs i no_run ∙ ap (λ (j : ℕ). get_or runs j no_run) (omega arith)

module _ {K : Type 0} (runs : List ListRun) (v end : ℕ) (behind : List K) where
  -- the root alone
  pub childless : ChildKeys runs 1 v end behind ([] ∷ ([] ∷ ([] ∷ ([] ∷ []))))
  childless = record {
    found = λ w z h e. absurd (omega arith);
    none = λ j none. nothing j;
  }

  module _ (n w : ℕ) (cs : List (List K)) (some : 0 < w) (h : w < n) (so : ChildKeys runs w v end behind cs) where
    pub child-skip : ((run_of runs w).parent ≡ v → ⊥) → ChildKeys runs (w + 1) v end behind cs
    child-skip apart = record {
      found = λ u z l e.
          elim (cases_eq u w) [
            | inl q ↦ absurd (apart (sym (ap (λ x. (run_of runs x).parent) q) ∙ e))
            | inr q ↦ so.found u z (omega arith) e
          ];
      none = λ j none. so.none j (λ u z l e o. none u z (omega arith) e o);
    }

    pub child-put : Ordinals runs n → length cs ≡ most_children → (run_of runs w).parent ≡ v → ChildKeys runs (w + 1) v end behind (set cs (run_of runs w).ordinal (keys_in (run_of runs w) end behind))
    child-put ordinals long child =
        let at = (run_of runs w).ordinal in
        let keys = keys_in (run_of runs w) end behind in
        let room : at < length cs = let b = ordinals.below w some h in omega arith in
        record {
          found = λ u z l e.
              elim (cases_eq u w) [
                | inl q ↦ subst (λ x. get_or (set cs at keys) (run_of runs x).ordinal [] ≡ keys_in (run_of runs x) end behind) (sym q) (get_or-set_same cs at keys [] room)
                | inr q ↦
                    let other : (run_of runs u).ordinal ≢ at = λ o. q (ordinals.apart u w z (omega arith) some h (e ∙ sym child) o) in
                    get_or-set_other cs at (run_of runs u).ordinal keys [] other ∙ so.found u z (omega arith) e
              ];
          none = λ j none.
              let other : j ≢ at = λ o. none w some (omega arith) child (sym o) in
              get_or-set_other cs at j keys [] other ∙ so.none j (λ u z l e o. none u z (omega arith) e o);
        }
