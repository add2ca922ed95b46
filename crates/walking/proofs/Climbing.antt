-- The path to a list, found from its end.
use Rattle.std.proofs.Common.{◌≡◌, ℕ, ◌+◌, ◌-◌, ◌<◌, ◌≤◌, List, [], ◌∷◌, ◌++◌, length, get_or, drop, set, sym, ap, ◌∙◌, arith}
use Rattle.std.proofs.lemmas.List.{append-nil, append_assoc, length-set, length_push, get_or-set_same, drop_more, drop_all, drop-set-lt}
use Rattle.cascade.specs.Trees.{KeyTree, parent_of, ParentsSmaller, path}
use Rattle.cascade.proofs.Walking.{path-step}
use Rattle.walking.proofs.Paths.{path-ends}

-- the lists from `list` on stand behind `from`, and those above it have room in front
pub record Climbed {K : Type 0} (t : KeyTree K) (end list from : ℕ) (lists : List ℕ) : Type 0 where
  pub sized : length lists ≡ 9
  pub there : list < length t
  pub room : length (path t list) ≤ from + 1
  pub within : from < 9
  pub here : get_or lists from 0 ≡ list
  pub whole : path t end ≡ path t list ++ drop (from + 1) lists

module _ {K : Type 0} (t : KeyTree K) (smaller : ParentsSmaller t) (end : ℕ) where
  module _ (list from : ℕ) (lists : List ℕ) (was : Climbed t end list from lists) where
    behind : drop from lists ≡ list ∷ drop (from + 1) lists
    behind =
        let w = was.within in
        let s = was.sized in
        drop_more lists from 0 (omega arith) ∙ ap (λ v. v ∷ drop (from + 1) lists) was.here

    module _ (below : 0 < list) where
      longer : length (path t list) ≡ length (path t (parent_of t list)) + 1
      longer = ap length (path-step t smaller list below was.there) ∙ length_push (path t (parent_of t list)) list

      pub climbed-room : 1 ≤ from
      climbed-room =
          let s = smaller list below was.there in
          let h = was.there in
          let r = was.room in
          let some = (path-ends t smaller (parent_of t list) (omega arith)).some in
          omega (arith, longer)

      pub climbed-more : Climbed t end (parent_of t list) (from - 1) (set lists (from - 1) (parent_of t list))
      climbed-more =
          let up = parent_of t list in
          let s = smaller list below was.there in
          let h = was.there in
          let w = was.within in
          let n = was.sized in
          let r = was.room in
          let c = climbed-room in
          let e : from - 1 + 1 ≡ from = omega arith in
          record {
            sized = length-set lists (from - 1) up ∙ was.sized;
            there = omega arith;
            room = omega (arith, longer);
            within = omega arith;
            here = get_or-set_same lists (from - 1) up 0 (omega arith);
            whole = was.whole
                ∙ ap (λ p. p ++ drop (from + 1) lists) (path-step t smaller list below was.there)
                ∙ append_assoc (path t up) (list ∷ []) (drop (from + 1) lists)
                ∙ ap (λ p. path t up ++ p) (sym behind)
                ∙ ap (λ k. path t up ++ drop k lists) (sym e)
                ∙ ap (λ p. path t up ++ p) (sym (drop-set-lt (from - 1 + 1) lists (from - 1) up (omega arith)));
          }

    pub climbed-all : list ≡ 0 → drop from lists ≡ path t end
    climbed-all e = behind ∙ ap (λ v. v ∷ drop (from + 1) lists) e ∙ sym (was.whole ∙ ap (λ v. path t v ++ drop (from + 1) lists) e)

  pub climbed-none : end < length t → length (path t end) ≤ 9 → (lists : List ℕ) → length lists ≡ 9 → Climbed t end end 8 (set lists 8 end)
  climbed-none there short lists n =
      let l : length (set lists 8 end) ≡ 9 = length-set lists 8 end ∙ n in
      record {
        sized = l;
        there = there;
        room = short;
        within = omega arith;
        here = get_or-set_same lists 8 end 0 (omega arith);
        whole = sym (append-nil (path t end)) ∙ ap (λ p. path t end ++ p) (sym (drop_all 9 (set lists 8 end) (omega arith)));
      }
