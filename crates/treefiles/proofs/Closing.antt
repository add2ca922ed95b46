-- What the items of a file that is read to its end look like. Assumes nothing.
use Rattle.std.proofs.Common.{◌≡◌, ℕ, zero, suc, ◌+◌, ◌*◌, ◌/◌, ◌%◌, ◌<◌, ◌≤◌, Bool, true, false, cond, eqb, leb, ◌⊎◌, List, [], ◌∷◌, ◌++◌, length, get_or, take, drop, Some, None, Ok, Err, Option, Result, sym, refl, ap, ◌∙◌, subst, ap₂, inl, inr, arith, length-drop, take-append-drop, length-take-le}
use Rattle.std.proofs.lemmas.List.{drop_all}
use Rattle.std.proofs.lemmas.List.Elements.{All-take, All-drop}
use Rattle.std.specs.List.{All}
use Rattle.std.proofs.lemmas.Bool.Decides.{nat_tests}
use Rattle.std.proofs.lemmas.Bool.{cases_eq, eq-eqb, ne_eqb, eqb-true, leb-true}
use Rattle.faults.specs.declared.Fault.{Fault}
use Rattle.terms.specs.Keys.{key_fault}
use Rattle.treefiles.specs.Format.{TermEntry, field, list_field, entry_field, closing_field, four_bytes}
use Rattle.treefiles.specs.Reader.{Item, a_list, an_entry, the_end, Tag, lists, entries, closes, other, tag_of, first_field, number, allowed, suits, said, keyed, entry_in, root_right, ended, some_item, said_of, next_item, stage_after, entries_in, size_of, after, follow, items}
use Rattle.treefiles.specs.declared.stage.Stage.{Stage}
use Rattle.treefiles.specs.declared.stage.Stage.TheVariants.{Opening, List as ListRead, Entry as EntryRead, Closing}

-- how far a file is: before its first list, within its lists, behind its closing field
pub data Phase : Type 0 where
  first : Phase
  within : Phase
  behind : Phase

abbrev pub phase_of : Stage → Phase
phase_of Opening = first
phase_of ListRead = within
phase_of EntryRead = within
phase_of Closing = behind

abbrev pub phase_after : Item → Phase
phase_after (a_list p) = within
phase_after (an_entry e) = within
phase_after the_end = behind

pub phase-after : (i : Item) → phase_of (stage_after i) ≡ phase_after i
phase-after (a_list p) = refl
phase-after (an_entry e) = refl
phase-after the_end = refl

-- which items may come
abbrev pub Accepts : Phase → Item → Type 0
Accepts first (a_list p) = p ≡ 0
Accepts first (an_entry e) = ⊥
Accepts first the_end = ⊥
Accepts within (a_list p) = Unit {0}
Accepts within (an_entry e) = key_fault e.text ≡ None
Accepts within the_end = Unit {0}
Accepts behind i = ⊥

-- the items lead to the end of a file
abbrev pub Closes : Phase → List Item → Type 0
Closes first [] = ⊥
Closes within [] = ⊥
Closes behind [] = Unit {0}
Closes p (i ∷ is) = Accepts p i × Closes (phase_after i) is

-- the field of an item, `count` entries before it
abbrev pub item_field : ℕ → Item → List ℕ
item_field count (a_list p) = list_field p
item_field count (an_entry e) = entry_field e
item_field count the_end = closing_field count

abbrev pub item_fields : ℕ → List Item → List ℕ
item_fields count [] = []
item_fields count (i ∷ is) = item_field count i ++ item_fields (count + entries_in i) is

abbrev pub IsByte : ℕ → Type 0
IsByte b = b < 256

abbrev pub Bytes : List ℕ → Type 0
Bytes bs = All IsByte bs

-- what is known of a field that says an item
pub record Taken (stage : Stage) (count tag : ℕ) (body : List ℕ) (i : Item) : Type 0 where
  pub accepts : Accepts (phase_of stage) i
  pub size : size_of i ≡ 3 + length body
  pub whole : Bytes body → field tag body ≡ item_field count i

tag_is : (tag : ℕ) → ((tag_of tag ≡ lists) × (tag ≡ 76)) ⊎ (((tag_of tag ≡ entries) × (tag ≡ 69)) ⊎ (((tag_of tag ≡ closes) × (tag ≡ 90)) ⊎ (tag_of tag ≡ other)))
tag_is tag =
    elim (cases_eq tag 76) [
      | inl e ↦ inl (rw (eq-eqb tag 76 e) (refl, e))
      | inr n ↦ elim (cases_eq tag 69) [
        | inl e ↦ inr (inl (rw (ne_eqb tag 76 n, eq-eqb tag 69 e) (refl, e)))
        | inr m ↦ elim (cases_eq tag 90) [
          | inl e ↦ inr (inr (inl (rw (ne_eqb tag 76 n, ne_eqb tag 69 m, eq-eqb tag 90 e) (refl, e))))
          | inr k ↦ inr (inr (inr (rw (ne_eqb tag 76 n, ne_eqb tag 69 m, ne_eqb tag 90 k) refl)))
        ]
      ]
    ]

-- a test that a granted answer has passed
pub passed : {X : Type 0} (b : Bool) (r : Result X Fault) (f : Fault) (x : X) → cond b r (Err f) ≡ Ok x → (b ≡ true) × (r ≡ Ok x)
passed true r f x e = (refl, e)
passed false r f x e = absurd (cc)

keyed-passed : (at : ℕ) (e : TermEntry) (o : Option Fault) (i : Item) → keyed at e o ≡ Ok i → (o ≡ None) × (an_entry e ≡ i)
keyed-passed at e None i p = (refl, cc)
keyed-passed at e (Some f) i p = absurd (cc)

one_byte : (body : List ℕ) → length body ≡ 1 → body ≡ get_or body 0 0 ∷ []
one_byte [] e = absurd (omega arith)
one_byte (b ∷ []) e = refl
one_byte (b ∷ (c ∷ bs)) e = absurd (omega arith)

four_bytes-back : (a b c d : ℕ) → b < 256 → c < 256 → d < 256 → four_bytes (a * 16777216 + b * 65536 + c * 256 + d) ≡ a ∷ (b ∷ (c ∷ (d ∷ [])))
four_bytes-back a b c d h k l =
    let n = a * 16777216 + b * 65536 + c * 256 + d in
    let p : n / 16777216 ≡ a = omega arith in
    let q : n / 65536 % 256 ≡ b = omega arith in
    let r : n / 256 % 256 ≡ c = omega arith in
    let s : n % 256 ≡ d = omega arith in
    rw (p, q, r, s)

-- four bytes at the front are those of their number
number-front : (body : List ℕ) → 4 ≤ length body → Bytes body → four_bytes (number body) ++ drop 4 body ≡ body
number-front [] h k = absurd (omega arith)
number-front (a ∷ []) h k = absurd (omega arith)
number-front (a ∷ (b ∷ [])) h k = absurd (omega arith)
number-front (a ∷ (b ∷ (c ∷ []))) h k = absurd (omega arith)
number-front (a ∷ (b ∷ (c ∷ (d ∷ rest)))) h k = ap (λ (l : List ℕ). l ++ rest) (four_bytes-back a b c d (k 1 0 (omega arith)) (k 2 0 (omega arith)) (k 3 0 (omega arith)))

pub number-four : (n : ℕ) (rest : List ℕ) → number (four_bytes n ++ rest) ≡ n
number-four n rest = omega arith

range-true : (n : ℕ) → cond (leb 5 n) (leb n 36) false ≡ true → (5 ≤ n) × (n ≤ 36)
range-true n e = (grind (arith, nat_tests), grind (arith, nat_tests))

taken-list : (stage : Stage) (count at tag : ℕ) (body : List ℕ) (i : Item) → tag ≡ 76 → said stage count at lists body ≡ Ok i → Taken stage count tag body i
taken-list stage count at tag body i t e =
    let p = passed (allowed stage lists) _ _ i e in
    let q = passed (eqb (length body) 1) _ _ i p.1 in
    let b = get_or body 0 0 in
    let r = passed (root_right stage b) _ _ i q.1 in
    let j : a_list b ≡ i = let z = r.1 in cc in
    let l : length body ≡ 1 = eqb-true (length body) 1 q.0 in
    let s : body ≡ b ∷ [] = one_byte body l in
    subst (Taken stage count tag body) j (record {
      accepts = root stage p.0 r.0;
      size = omega arith;
      whole = λ _. ap₂ field t s;
    })
  where
    root : (s : Stage) → allowed s lists ≡ true → root_right s (get_or body 0 0) ≡ true → Accepts (phase_of s) (a_list (get_or body 0 0))
    root Opening a h = eqb-true (get_or body 0 0) 0 h
    root ListRead a h = tt
    root EntryRead a h = tt
    root Closing a h = absurd (cc)

taken-entry : (stage : Stage) (count at tag : ℕ) (body : List ℕ) (i : Item) → tag ≡ 69 → said stage count at entries body ≡ Ok i → Taken stage count tag body i
taken-entry stage count at tag body i t e =
    let p = passed (allowed stage entries) _ _ i e in
    let q = passed (suits entries (length body)) _ _ i p.1 in
    let r = keyed-passed at (entry_in body) (key_fault (drop 4 body)) i q.1 in
    let l = range-true (length body) q.0 in
    let d = length-drop 4 body in
    subst (Taken stage count tag body) r.1 (record {
      accepts = key stage p.0 r.0;
      size = omega arith;
      whole = λ k. ap₂ field t (sym (number-front body (omega arith) k));
    })
  where
    key : (s : Stage) → allowed s entries ≡ true → key_fault (drop 4 body) ≡ None → Accepts (phase_of s) (an_entry (entry_in body))
    key Opening a h = absurd (cc)
    key ListRead a h = h
    key EntryRead a h = h
    key Closing a h = absurd (cc)

taken-end : (stage : Stage) (count at tag : ℕ) (body : List ℕ) (i : Item) → tag ≡ 90 → said stage count at closes body ≡ Ok i → Taken stage count tag body i
taken-end stage count at tag body i t e =
    let p = passed (allowed stage closes) _ _ i e in
    let q = passed (eqb (length body) 4) _ _ i p.1 in
    let r = passed (eqb (number body) count) _ _ i q.1 in
    let j : the_end ≡ i = let z = r.1 in cc in
    let l : length body ≡ 4 = eqb-true (length body) 4 q.0 in
    let n : number body ≡ count = eqb-true (number body) count r.0 in
    let none : drop 4 body ≡ [] = drop_all 4 body (omega arith) in
    subst (Taken stage count tag body) j (record {
      accepts = within-lists stage p.0;
      size = omega arith;
      whole = λ k. ap₂ field t (sym (number-front body (omega arith) k) ∙ ap (λ (m : List ℕ). four_bytes (number body) ++ m) none ∙ ap four_bytes n);
    })
  where
    within-lists : (s : Stage) → allowed s closes ≡ true → Accepts (phase_of s) the_end
    within-lists Opening a = absurd (cc)
    within-lists ListRead a = tt
    within-lists EntryRead a = tt
    within-lists Closing a = absurd (cc)

pub taken : (stage : Stage) (count at tag : ℕ) (body : List ℕ) (i : Item) → said stage count at (tag_of tag) body ≡ Ok i → Taken stage count tag body i
taken stage count at tag body i e =
    let as-tag : (t : Tag) → tag_of tag ≡ t → said stage count at t body ≡ Ok i = λ t h. subst (λ (u : Tag). said stage count at u body ≡ Ok i) h e in
    elim (tag_is tag) [
      | inl h ↦ taken-list stage count at tag body i h.1 (as-tag lists h.0)
      | inr (inl h) ↦ taken-entry stage count at tag body i h.1 (as-tag entries h.0)
      | inr (inr (inl h)) ↦ taken-end stage count at tag body i h.1 (as-tag closes h.0)
      | inr (inr (inr h)) ↦ absurd (unknown stage (as-tag other h))
    ]
  where
    unknown : (s : Stage) → said s count at other body ≡ Ok i → ⊥
    unknown Opening h = cc
    unknown ListRead h = cc
    unknown EntryRead h = cc
    unknown Closing h = cc

-- a field that the bytes hold whole is their front
field-whole : (bs : List ℕ) (tag : ℕ) (body : List ℕ) → first_field bs ≡ Some (tag, body) → Bytes bs → Bytes body × (bs ≡ field tag body ++ drop (3 + length body) bs)
field-whole [] tag body e k = absurd (cc)
field-whole (t ∷ []) tag body e k = absurd (cc)
field-whole (t ∷ (h ∷ [])) tag body e k = absurd (cc)
field-whole (t ∷ (h ∷ (l ∷ rest))) tag body e k = go (leb (h * 256 + l) (length rest)) refl e
  where
    go : (b : Bool) → leb (h * 256 + l) (length rest) ≡ b → cond {A = Option (ℕ × List ℕ)} b (Some (t, take (h * 256 + l) rest)) None ≡ Some (tag, body)
        → Bytes body × (t ∷ (h ∷ (l ∷ rest)) ≡ field tag body ++ drop (3 + length body) (t ∷ (h ∷ (l ∷ rest))))
    go true q f =
        let n = h * 256 + l in
        let within : n ≤ length rest = leb-true n (length rest) q in
        let pair : ◌≡◌ {A = ℕ × List ℕ} (t, take n rest) (tag, body) = cc in
        let same_tag : t ≡ tag = ap (λ (x : ℕ × List ℕ). x.0) pair in
        let same_body : take n rest ≡ body = ap (λ (x : ℕ × List ℕ). x.1) pair in
        let long : length body ≡ n = ap length (sym same_body) ∙ length-take-le n rest within in
        let low = k 2 0 (omega arith) in
        let high : length body / 256 ≡ h = omega arith in
        let less : length body % 256 ≡ l = omega arith in
        let three : 3 + length body ≡ suc (suc (suc n)) = omega arith in
        let parts : rest ≡ body ++ drop n rest = sym (take-append-drop n rest) ∙ ap (λ (m : List ℕ). m ++ drop n rest) same_body in (
          subst Bytes same_body (All-take IsByte n rest (All-drop IsByte 3 (t ∷ (h ∷ (l ∷ rest))) k)),
          rw (three, high, less, ← same_tag) (ap (λ (m : List ℕ). t ∷ (h ∷ (l ∷ m))) parts),
        )
    go false q f = absurd (cc)

-- what is known where the next field says an item
pub record Next (stage : Stage) (count : ℕ) (bytes : List ℕ) (i : Item) : Type 0 where
  pub accepts : Accepts (phase_of stage) i
  pub front : Bytes bytes → bytes ≡ item_field count i ++ drop (size_of i) bytes

some_item-ok : (r : Result Item Fault) (i : Item) → some_item r ≡ Ok (Some i) → r ≡ Ok i
some_item-ok (Ok j) i e = cc
some_item-ok (Err f) i e = absurd (cc)

said-item : (stage : Stage) (count at : ℕ) (bytes : List ℕ) (o : Option (ℕ × List ℕ)) (i : Item) → first_field bytes ≡ o → said_of stage count at o ≡ Ok (Some i) → Next stage count bytes i
said-item stage count at bytes None i f e = absurd (cc)
said-item stage count at bytes (Some (tag, body)) i f e =
    let t = taken stage count at tag body i (some_item-ok _ i e) in
    record {
      accepts = t.accepts;
      front = λ k.
          let w = field-whole bytes tag body f k in
          w.1 ∙ ap₂ (λ (m : List ℕ) (n : ℕ). m ++ drop n bytes) (t.whole w.0) (sym t.size);
    }

pub next-some : (stage : Stage) (count at : ℕ) (bytes : List ℕ) (i : Item) → next_item stage count at bytes ≡ Ok (Some i) → Next stage count bytes i
next-some stage count at bytes i e = go (ended stage bytes) e
  where
    go : (b : Bool) → cond b (Ok None) (said_of stage count at (first_field bytes)) ≡ Ok (Some i) → Next stage count bytes i
    go true h = absurd (cc)
    go false h = said-item stage count at bytes (first_field bytes) i refl h

said-none : (stage : Stage) (count at : ℕ) (o : Option (ℕ × List ℕ)) → said_of stage count at o ≡ Ok None → ⊥
said-none stage count at None e = cc
said-none stage count at (Some f) e = go (said stage count at (tag_of f.0) f.1) e
  where
    go : (r : Result Item Fault) → some_item r ≡ Ok None → ⊥
    go (Ok j) h = cc
    go (Err g) h = cc

pub next-none : (stage : Stage) (count at : ℕ) (bytes : List ℕ) → next_item stage count at bytes ≡ Ok None → (stage ≡ Closing) × (bytes ≡ [])
next-none Opening count at bytes e = absurd (said-none Opening count at (first_field bytes) e)
next-none ListRead count at bytes e = absurd (said-none ListRead count at (first_field bytes) e)
next-none EntryRead count at bytes e = absurd (said-none EntryRead count at (first_field bytes) e)
next-none Closing count at [] e = (refl, refl)
next-none Closing count at (b ∷ bs) e = absurd (said-none Closing count at (first_field (b ∷ bs)) e)

-- a file that is read to its end: its items close it, and its bytes are their fields
pub record Whole (stage : Stage) (count : ℕ) (bytes : List ℕ) (is : List Item) : Type 0 where
  pub closed : Closes (phase_of stage) is
  pub spelled : Bytes bytes → bytes ≡ item_fields count is

abbrev pub rest_of : (fields count at : ℕ) → List ℕ → Item → Result (List Item) Fault
rest_of k count at bytes i = items k (stage_after i) (count + entries_in i) (at + size_of i) (drop (size_of i) bytes)

module _ (k : ℕ) (stage : Stage) (count at : ℕ) (bytes : List ℕ) (is : List Item)
    (more : (i : Item) (js : List Item) → rest_of k count at bytes i ≡ Ok js → Whole (stage_after i) (count + entries_in i) (drop (size_of i) bytes) js) where
  whole-on : (i : Item) → next_item stage count at bytes ≡ Ok (Some i) → (r : Result (List Item) Fault) → rest_of k count at bytes i ≡ r → after (i ∷ []) r ≡ Ok is → Whole stage count bytes is
  whole-on i h (Ok js) f g =
      let n = next-some stage count at bytes i h in
      let w = more i js f in
      let same : i ∷ js ≡ is = cc in
      subst (Whole stage count bytes) same (record {
        closed = (n.accepts, subst (λ (p : Phase). Closes p js) (phase-after i) w.closed);
        spelled = λ b. n.front b ∙ ap (λ (m : List ℕ). item_field count i ++ m) (w.spelled (All-drop IsByte (size_of i) bytes b));
      })
  whole-on i h (Err f) q g = absurd (cc)

  whole_by : (r : Result (Option Item) Fault) → next_item stage count at bytes ≡ r → follow (rest_of k count at bytes) r ≡ Ok is → Whole stage count bytes is
  whole_by (Err f) h g = absurd (cc)
  whole_by (Ok None) h g =
      let n = next-none stage count at bytes h in
      let none : [] ≡ is = cc in
      subst (Whole stage count bytes) none (record {
        closed = subst (λ (s : Stage). Closes (phase_of s) []) (sym n.0) tt;
        spelled = λ b. n.1;
      })
  whole_by (Ok (Some i)) h g = whole-on i h (rest_of k count at bytes i) refl g

pub read_whole : (fields : ℕ) (stage : Stage) (count at : ℕ) (bytes : List ℕ) (is : List Item) → items fields stage count at bytes ≡ Ok is → Whole stage count bytes is
read_whole zero stage count at bytes is e = absurd (cc)
read_whole (suc k) stage count at bytes is e =
    whole_by k stage count at bytes is (λ i js. read_whole k (stage_after i) (count + entries_in i) (at + size_of i) (drop (size_of i) bytes) js)
    (next_item stage count at bytes) refl e
