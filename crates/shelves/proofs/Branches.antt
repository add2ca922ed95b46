-- The lists of a stored shelf, by their numbers.
use Rattle.std.proofs.Common.{◌≡◌, ℕ, zero, suc, ◌-◌, ◌≤◌, min, List, [], ◌∷◌, length, take, drop, Some, None, sum_by, sym, refl, ap, ◌∙◌, arith, rules}
use Rattle.std.proofs.lemmas.List.{drop-drop, same_lists, places}
use Rattle.std.proofs.lemmas.Option.{none-some, same_Some, slice_get_past}
use Rattle.std.proofs.lemmas.List.Sums.{sum_by-cons}
use Rattle.std.specs.List.{slice_get, fold}
use Rattle.std.specs.Option.{option_map}
use Rattle.orders.specs.declared.entry.Entry.{Entry}
use Rattle.shelves.specs.Meaning.{Branch}
use Rattle.shelves.specs.Tables.{stored}
use Rattle.shelves.specs.declared.rows.ListRow.{ListRow}

-- how many entries the rows claim together
abbrev pub claims : List ListRow → ℕ
claims rows = sum_by (λ row. row.count) rows

module _ {K P : Type 0} where
  abbrev pub branch_of : List ListRow → List (Entry K P) → ℕ → ListRow → Branch K P
  branch_of rows es v row = record { parent = row.parent; entries = take row.count (drop (claims (take v rows)) es) }

  pub stored-length : (rows : List ListRow) (es : List (Entry K P)) → length rows ≡ length (stored rows es)
  stored-length [] es = refl
  stored-length (r ∷ rows) es = ap suc (stored-length rows (drop r.count es))

  pub stored-parents : (rows : List ListRow) (es : List (Entry K P)) (v : ℕ) → option_map (λ b. b.parent) (slice_get (stored rows es) v) ≡ option_map (λ r. r.parent) (slice_get rows v)
  stored-parents [] es v = refl
  stored-parents (r ∷ rows) es zero = refl
  stored-parents (r ∷ rows) es (suc v) = stored-parents rows (drop r.count es) v

  pub stored_at : (rows : List ListRow) (es : List (Entry K P)) (v : ℕ) (row : ListRow) → slice_get rows v ≡ Some row → slice_get (stored rows es) v ≡ Some (branch_of rows es v row)
  stored_at [] es v row h = absurd (none-some row h)
  stored_at (r ∷ rows) es zero row h = ap (λ (s : ListRow). Some (record { parent = s.parent; entries = take s.count es })) (same_Some r row h)
  stored_at (r ∷ rows) es (suc v) row h =
      stored_at rows (drop r.count es) v row h
      ∙ ap (λ (xs : List (Entry K P)). Some (record { parent = row.parent; entries = take row.count xs }))
      (drop-drop (claims (take v rows)) r.count es ∙ ap (λ (k : ℕ). drop k es) (sym (sum_by-cons (λ row. row.count) r (take v rows))))

  pub stored_past : (rows : List ListRow) (es : List (Entry K P)) (v : ℕ) → length rows ≤ v → slice_get (stored rows es) v ≡ None
  stored_past rows es v h = slice_get_past (stored rows es) v (omega (arith, stored-length rows es))

-- a part that is cut to what the list has is the part that is claimed
pub part_cut : {X : Type 0} (xs : List X) (start count from taken : ℕ) → from ≡ min start (length xs) → taken ≡ min count (length (take (length xs - from) (drop from xs))) → take taken (take (length xs - from) (drop from xs)) ≡ take count (drop start xs)
part_cut xs start count from taken e t = same_lists _ _ (search (rules, places)) (λ k d h. grind (arith, places))

-- taking each row's count off what is left ends at what is left of it after all that the rows claim
pub claims_folded : (rows : List ListRow) (left : ℕ) → fold (λ k row. k - row.count) left rows ≡ left - claims rows
claims_folded [] left = omega arith
claims_folded (r ∷ rows) left =
    let more = claims_folded rows (left - r.count) in
    omega (arith, more, sum_by-cons (λ row. row.count) r rows)
