-- The least head of several sources.
use Rattle.std.proofs.Common.{◌≡◌, ℕ, zero, suc, ◌<◌, ◌≤◌, true, false, cond, Some, None, Option, Ordering, refl, ap, ◌∙◌, inl, inr, arith}
use Rattle.std.proofs.lemmas.Bool.{cases_order}
use Rattle.std.specs.Ordering.{is_lt, is_le}
use Rattle.orders.specs.Laws.{LawfulOrder}
use Rattle.cascade.proofs.KeyOrders.{not-above}
use Rattle.laying.specs.Merging.{lesser, least_head}

-- k is below it
abbrev pub Beaten : {K : Type 0} → (K → K → Ordering) → K → Option (ℕ × K) → Type 0
Beaten order k None = Unit
Beaten order k (Some best) = is_lt (order k best.1) ≡ true

-- of `most` sources s has the head k, which is below the heads of the sources before it and not above those of the sources behind it
module _ {K : Type 0} (order : K → K → Ordering) (laws : LawfulOrder order) (heads : ℕ → Option K) (most s : ℕ) (k : K)
    (here : heads s ≡ Some k)
    (earlier : (n : ℕ) (j : K) → n < s → heads n ≡ Some j → is_lt (order k j) ≡ true)
    (later : (n : ℕ) (j : K) → s < n → n < most → heads n ≡ Some j → is_le (order k j) ≡ true) where
  beaten-lesser : (o : Option K) (n : ℕ) (best : Option (ℕ × K)) → ((j : K) → o ≡ Some j → is_lt (order k j) ≡ true) → Beaten order k best → Beaten order k (lesser order o n best)
  beaten-lesser None n best h b = b
  beaten-lesser (Some j) n None h b = h j refl
  beaten-lesser (Some j) n (Some best) h b =
      elim (is_lt (order j best.1)) as (λ t. Beaten order k (cond t (Some (n, j)) (Some best))) [ true ↦ h j refl | false ↦ b ]

  beaten : (n : ℕ) → n ≤ s → Beaten order k (least_head order heads n)
  beaten zero h = tt
  beaten (suc n) h = beaten-lesser (heads n) n (least_head order heads n) (λ j e. earlier n j (omega arith) e) (beaten n (omega arith))

  taken : (best : Option (ℕ × K)) → Beaten order k best → lesser order (Some k) s best ≡ Some (s, k)
  taken None b = refl
  taken (Some best) b = rw b

  kept : (o : Option K) (n : ℕ) → ((j : K) → o ≡ Some j → is_le (order k j) ≡ true) → lesser order o n (Some (s, k)) ≡ Some (s, k)
  kept None n h = refl
  kept (Some j) n h = rw (not-above order laws j k (h j refl))

  pub least-is : (n : ℕ) → s < n → n ≤ most → least_head order heads n ≡ Some (s, k)
  least-is zero h m = absurd (omega arith)
  least-is (suc n) h m =
      elim (cases_order n s) [
        | inl e ↦
            ap (λ (m : ℕ). lesser order (heads m) m (least_head order heads m)) e
            ∙ ap (λ (o : Option K). lesser order o s (least_head order heads s)) here
            ∙ taken (least_head order heads s) (beaten s (omega arith))
        | inr c ↦ elim c [
          | inl l ↦ absurd (omega arith)
          | inr l ↦ ap (lesser order (heads n) n) (least-is n l (omega arith)) ∙ kept (heads n) n (λ j e. later n j l (omega arith) e)
        ]
      ]
