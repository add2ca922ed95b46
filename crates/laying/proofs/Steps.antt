-- One step of a merge: the row before the key, the key, and the row behind it.
use Rattle.std.proofs.Common.{◌≡◌, ℕ, zero, suc, ◌+◌, ◌^◌, ◌<◌, ◌≤◌, eqb, List, map, length, get_or, take, drop, set, replicate, Some, None, Option, Ordering, sym, refl, ap, ap₂, ◌∙◌, subst, add-zero, arith, length-take}
use lib.ListN.{length-map}
use lib.Seq.{paste}
use Rattle.std.proofs.lemmas.List.FromFn.{length-map-range_with_len, get_or-map-range_with_len}
use Rattle.std.proofs.lemmas.List.{get_or-map, ext_get_or, get_or-replicate}
use Rattle.std.specs.List.{slice_get, range_with_len}
use Rattle.std.specs.Array.{AllOfLen}
use Rattle.std.specs.Option.{option_map, IsSome}
use Rattle.orders.specs.Laws.{LawfulOrder}
use Rattle.orders.specs.Places.{bit}
use Rattle.cascade.specs.Rows.{tally, row_at, rows_of}
use Rattle.cascade.specs.Theorems.{part_of}
use Rattle.cascade.specs.Trees.{Tagged, keys_of}
use Rattle.cascade.specs.declared.row.Row.{Row}
use Rattle.cascade.proofs.Counts.{count-le-length}
use Rattle.cascade.proofs.Links.{tally-more}
use Rattle.laying.specs.declared.sources.Source.{Source}
use Rattle.laying.specs.Numbering.{numbered}
use Rattle.laying.proofs.Pasting.{element-more}
use Rattle.laying.proofs.Heads.{at_place, known-source, next-is}
use Rattle.laying.specs.Merging.{source_count, taken_of, counted_in, source_keys, head_of, least_head, Mergeable}

-- the row of tallies by source
abbrev row_by : (ℕ → ℕ) → Row
row_by f = record { own = f 0; children = map (λ j. f (suc j)) (range_with_len 0 4) }

taken-by : (f : ℕ → ℕ) (s : ℕ) → s < source_count → taken_of (row_by f) s ≡ f s
taken-by f zero h = refl
taken-by f (suc zero) h = refl
taken-by f (suc (suc zero)) h = refl
taken-by f (suc (suc (suc zero))) h = refl
taken-by f (suc (suc (suc (suc zero)))) h = refl
taken-by f (suc (suc (suc (suc (suc s))))) h = absurd (omega arith)

counted-by : (f more : ℕ → ℕ) (n : ℕ) → n < source_count → ((s : ℕ) → more s ≡ f s + bit (eqb n s)) → counted_in (row_by f) n ≡ row_by more
counted-by f more zero h e = rw (e 0, e 1, e 2, e 3, e 4) (simp add-zero)
counted-by f more (suc zero) h e = rw (e 0, e 1, e 2, e 3, e 4) (simp add-zero)
counted-by f more (suc (suc zero)) h e = rw (e 0, e 1, e 2, e 3, e 4) (simp add-zero)
counted-by f more (suc (suc (suc zero))) h e = rw (e 0, e 1, e 2, e 3, e 4) (simp add-zero)
counted-by f more (suc (suc (suc (suc zero)))) h e = rw (e 0, e 1, e 2, e 3, e 4) (simp add-zero)
counted-by f more (suc (suc (suc (suc (suc n))))) h e = absurd (omega arith)

-- the row before the first element
pub zero_row : {K : Type 0} (row : Row) (xs : List (Tagged K)) → row.own ≡ 0 → AllOfLen (λ n. n ≡ 0) row.children 4 → row ≡ row_at 0 xs
zero_row row xs o cs =
    let zeros : row.children ≡ replicate 4 0 =
    ext_get_or 0 row.children (replicate 4 0) cs.long (λ i h. let n = cs.long in cs.at i 0 (omega arith) ∙ sym (get_or-replicate 4 i 0 0 (omega arith))) in
    let made : ℕ → List ℕ → Row = λ n cs. record { own = n; children = cs } in
    ap₂ made o zeros

-- a row of a list written behind the rows before it
pub rows_more : {K : Type 0} (xs : List (Tagged K)) (memory rows : List Row) (p : ℕ) (row : Row) → length memory ≡ length xs + 1 → p ≤ length xs
    → rows ≡ paste memory 0 (rows_of xs) p → row ≡ row_at p xs → set rows p row ≡ paste memory 0 (rows_of xs) (p + 1)
rows_more xs memory rows p row room l e r =
    let n = length-map-range_with_len (λ q. row_at q xs) 0 (suc (length xs)) in
    element-more memory rows (rows_of xs) p row (omega arith) (omega arith) e
    (get_or-map-range_with_len (λ q. row_at q xs) 0 (suc (length xs)) p p row (omega arith) (omega arith) ∙ sym r)

module _ {K : Type 0} (order : K → K → Ordering) (laws : LawfulOrder order) (xs : List (Tagged K)) (own : List K) (children : List (List K))
    (m : Mergeable order xs own children) (p : ℕ) (h : p < length xs) (row : Row) (counts : row ≡ row_at p xs) where
  head-is : (s : ℕ) → s < source_count → head_of own children row s ≡ slice_get (part_of s xs) (tally s p xs)
  head-is s l =
      ap (λ (r : Row). slice_get (source_keys own children s) (taken_of r s)) counts
      ∙ ap (slice_get (source_keys own children s)) (taken-by (λ n. tally n p xs) s l)
      ∙ ap (λ ks. slice_get ks (tally s p xs)) (m.sources s l)

  least_at : least_head order (head_of own children row) source_count ≡ Some (at_place xs p h).0
  least_at =
      next-is order laws xs m.sorted m.others p (at_place xs p h).0 (drop (suc p) xs) (at_place xs p h).2 (head_of own children row) head-is

  pub some-least : (o : Option (Source × K)) → option_map numbered o ≡ least_head order (head_of own children row) source_count → IsSome o
  some-least None e = let l = least_at in let z : ◌≡◌ {A = ℕ} 0 1 = cc in absurd (omega arith)
  some-least (Some y) e = refl

  module _ (y : ℕ × K) (chosen : Some y ≡ least_head order (head_of own children row) source_count) where
    found : (at_place xs p h).0 ≡ y
    found = let l = least_at in cc

    element : get_or xs p y ≡ y
    element = (at_place xs p h).1 y ∙ found

    pub source_known : y.0 < source_count
    source_known =
        subst (λ (x : ℕ × K). x.0 < source_count) found
        (known-source order laws xs m.sorted m.others p (at_place xs p h).0 (drop (suc p) xs) (at_place xs p h).2)

    pub tally-fits : taken_of row y.0 + 1 < 2 ^ 32
    tally-fits =
        let s = m.short in
        let t : taken_of row y.0 ≡ tally y.0 p xs = ap (λ (r : Row). taken_of r y.0) counts ∙ taken-by (λ n. tally n p xs) y.0 source_known in
        let c = count-le-length (λ x. eqb x.0 y.0) (take p xs) in
        let l = length-take p xs in
        omega arith

    pub keys-more : (memory now : List K) → length memory ≡ length xs → now ≡ paste memory 0 (keys_of xs) p → set now p y.1 ≡ paste memory 0 (keys_of xs) (p + 1)
    keys-more memory now room laid =
        let l = length-map xs (λ x. x.1) in
        element-more memory now (keys_of xs) p y.1 (omega arith) (omega arith) laid (get_or-map (λ x. x.1) xs p y y.1 h ∙ ap (λ (x : ℕ × K). x.1) element)

    pub row_more : counted_in row y.0 ≡ row_at (p + 1) xs
    row_more =
        ap (λ (r : Row). counted_in r y.0) counts
        ∙ counted-by (λ s. tally s p xs) (λ s. tally s (p + 1) xs) y.0 source_known
        (λ s. tally-more s p xs y h ∙ ap (λ (x : ℕ × K). tally s p xs + bit (eqb x.0 s)) element)
