-- What holds of lists at which every question about them gets a "yes".
use Rattle.std.proofs.Common.{◌≡◌, ℕ, suc, ◌-◌, ◌<◌, ◌≤◌, true, false, cond, ltb, leb, List, [], ◌∷◌, length, take, Some, None, Ordering, refl, ap, ◌∙◌, subst, inl, inr, arith}
use Rattle.std.specs.Option.{option_map}
use Rattle.std.specs.Ordering.{is_lt}
use Rattle.std.proofs.lemmas.List.{take_all}
use Rattle.std.proofs.lemmas.Bool.{and_parts, leb-true, ltb-true, cases_lt}
use Rattle.faults.specs.Refusals.{fault}
use Rattle.faults.specs.declared.Reason.TheVariants.{ListCount, ParentNotSmaller, TooDeep, TooManyChildren, TooManyEntries, KeyOutOfOrder}
use Rattle.orders.specs.Places.{in_order, in_order_after}
use Rattle.cascade.specs.Trees.{KeyTree, ParentsSmaller, parent_of, keys_at, ordinal, depth_of, all_keys}
use Rattle.register.specs.Limits.{most_lists, most_edges, most_children, most_entries}
use Rattle.register.specs.Questions.{ask, or_else, count_fault, parent_fault, depth_fault, child_fault, entry_fault, descent_after, descent, order_fault, lists_fault}
use Rattle.register.specs.Shape.{Shaped}
use Rattle.plan.specs.Columns.{shape_fault}
use Rattle.plan.proofs.Asking.{not_none, or-none, or_assoc, ask-yes, mapped-none, each_none}

module _ {K : Type 0} (t : KeyTree K) where
  pub record ShapeGranted : Type 0 where
    pub count : count_fault t ≡ None
    pub parents : parent_fault t ≡ None
    pub depths : depth_fault t ≡ None
    pub children : child_fault t ≡ None
    pub entries : entry_fault t ≡ None

  pub shape-parts : shape_fault t ≡ None → ShapeGranted
  shape-parts none =
      let a = or-none (count_fault t) _ none in
      let b = or-none (parent_fault t) _ a.1 in
      let c = or-none (depth_fault t) _ b.1 in
      let d = or-none (child_fault t) _ c.1 in
      record { count = a.0; parents = b.0; depths = c.0; children = d.0; entries = d.1 }

  pub counted : count_fault t ≡ None → (1 ≤ length t) × (length t ≤ most_lists)
  counted e =
      let b = and_parts (leb 1 (length t)) (leb (length t) most_lists) (ask-yes _ (fault ListCount (length t) 0) e) in
      (leb-true 1 (length t) b.0, leb-true (length t) most_lists b.1)

  pub smaller : parent_fault t ≡ None → ParentsSmaller t
  smaller e v z h =
      ltb-true (parent_of t v) v
      (ask-yes (ltb (parent_of t v) v) (fault ParentNotSmaller v (parent_of t v))
      (each_none (λ w. ask (ltb (parent_of t w) w) (fault ParentNotSmaller w (parent_of t w))) 1 (length t - 1) e v (omega arith) (omega arith)))

  pub shallow : depth_fault t ≡ None → (v : ℕ) → v < length t → depth_of t v ≤ most_edges
  shallow e v h =
      leb-true (depth_of t v) most_edges
      (ask-yes (leb (depth_of t v) most_edges) (fault TooDeep v 0)
      (each_none (λ w. ask (leb (depth_of t w) most_edges) (fault TooDeep w 0)) 0 (length t) e v (omega arith) (omega arith)))

  pub narrow : child_fault t ≡ None → (v : ℕ) → v < length t → ordinal t v < most_children
  narrow e v h =
      ltb-true (ordinal t v) most_children
      (ask-yes (ltb (ordinal t v) most_children) (fault TooManyChildren v 0)
      (each_none (λ w. ask (ltb (ordinal t w) most_children) (fault TooManyChildren w 0)) 0 (length t) e v (omega arith) (omega arith)))

  pub few-entries : entry_fault t ≡ None → all_keys t ≤ most_entries
  few-entries e =
      elim (cases_lt 0 (length t)) [
        | inl h ↦
            let v = length t - 1 in
            let l : all_keys (take (suc v) t) ≤ most_entries =
            leb-true (all_keys (take (suc v) t)) most_entries
            (ask-yes (leb (all_keys (take (suc v) t)) most_entries) (fault TooManyEntries v 0)
            (each_none (λ w. ask (leb (all_keys (take (suc w) t)) most_entries) (fault TooManyEntries w 0)) 0 (length t) e v (omega arith) (omega arith))) in
            subst (λ s. all_keys s ≤ most_entries) (take_all (suc v) t (omega arith)) l
        | inr h ↦ subst (λ s. all_keys s ≤ most_entries) (take_all 0 t h) (omega arith)
      ]

  pub shaped-by : ShapeGranted → Shaped t
  shaped-by a = record {
    lists = (counted a.count).1;
    smaller = smaller a.parents;
    shallow = shallow a.depths;
    narrow = narrow a.children;
    entries = few-entries a.entries;
  }

-- the questions about lists: first those about their shape, then the order of their keys
pub lists-asked : {K : Type 0} (order : K → K → Ordering) (t : KeyTree K) → or_else (shape_fault t) (order_fault order t) ≡ lists_fault order t
lists-asked order t =
    let o = order_fault order t in
    or_assoc (count_fault t) _ o
    ∙ ap (or_else (count_fault t))
    (or_assoc (parent_fault t) _ o
    ∙ ap (or_else (parent_fault t)) (or_assoc (depth_fault t) _ o ∙ ap (or_else (depth_fault t)) (or_assoc (child_fault t) (entry_fault t) o)))

module _ {K : Type 0} (order : K → K → Ordering) where
  in-order-after : (k : K) (xs : List K) → descent_after order k xs ≡ None → in_order_after order k xs ≡ true
  in-order-after k [] e = refl
  in-order-after k (x ∷ xs) e =
      elim (is_lt (order x k)) as (λ b. cond b (Some 0) (option_map suc (descent_after order x xs)) ≡ None → cond b false (in_order_after order x xs) ≡ true) [
        | true ↦ λ h. absurd (not_none 0 h)
        | false ↦ λ h. in-order-after x xs (mapped-none suc (descent_after order x xs) h)
      ] e

  no_descent : (ks : List K) → descent order ks ≡ None → in_order order ks ≡ true
  no_descent [] e = refl
  no_descent (k ∷ ks) e = in-order-after k ks (mapped-none suc (descent_after order k ks) e)

  module _ (t : KeyTree K) (granted : lists_fault order t ≡ None) where
    parts : (shape_fault t ≡ None) × (order_fault order t ≡ None)
    parts = or-none (shape_fault t) (order_fault order t) (lists-asked order t ∙ granted)

    pub shape-granted : ShapeGranted t
    shape-granted = shape-parts t parts.0

    pub shaped : Shaped t
    shaped = shaped-by t shape-granted

    pub some-lists : 1 ≤ length t
    some-lists = (counted t shape-granted.count).0

    pub granted-in_order : (v : ℕ) → v < length t → in_order order (keys_at t v) ≡ true
    granted-in_order v h =
        no_descent (keys_at t v)
        (mapped-none (λ p. fault KeyOutOfOrder v p) (descent order (keys_at t v))
        (each_none (λ w. option_map (λ p. fault KeyOutOfOrder w p) (descent order (keys_at t w))) 0 (length t) parts.1 v (omega arith) (omega arith)))
