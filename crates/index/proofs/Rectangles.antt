-- The spans of a range over lists sieved from points hold each point of the rectangle once, and no other. Assumes nothing.
use Rattle.std.proofs.Common.{◌≡◌, ℕ, zero, suc, ◌<◌, ◌≤◌, Bool, true, false, cond, List, [], ◌∷◌, map, get_or, filter, Ordering, sym, refl, ap, ◌∙◌, ap₂}
use mathlib.Core.List.{map-map}
use Rattle.std.specs.List.{slice_get, range_with_len}
use Rattle.std.specs.Option.{option_map}
use Rattle.std.proofs.lemmas.Bool.{and_parts}
use Rattle.orders.specs.Laws.{LawfulOrder}
use Rattle.orders.specs.Places.{count, place, in_order}
use Rattle.orders.specs.declared.side.Side.TheVariants.{Low, High}
use Rattle.shelves.specs.Meaning.{Branch, keys_of}
use Rattle.shelves.specs.Slots.{sieve_lists, slot_count, sieve_parent, covers}
use Rattle.shelves.specs.Tables.{sieved, sifted, entry_of}
use Rattle.shelves.specs.declared.rows.Point.{Point}
use Rattle.cascade.proofs.Counts.{count_map}
use Rattle.cascade.proofs.Pointing.{rectangle-of-lists, sieve-shaped}
use Rattle.cascade.proofs.Ranging.{spans-counted}
use Rattle.cascade.specs.Points.{BarePoint, sieved_list, sieved_keys, holds}
use Rattle.cascade.specs.SlotTree as slots
use Rattle.cascade.specs.SlotTree.{SieveShaped, chosen_lists, counted_spans}
use Rattle.cascade.specs.Trees.{KeyTree, keys_at}
use Rattle.layout.specs.KeyTrees.{key_tree, all_in_order}
use Rattle.walking.specs.Ranged.{ranged_spans}
use Rattle.register.specs.Answers.{span}
use Rattle.index.specs.Rectangles.{bare, holds_point, key_lists, HoldRectangle}

map_same : {X Y : Type 0} (f g : X → Y) → ((x : X) → f x ≡ g x) → (xs : List X) → map f xs ≡ map g xs
map_same f g h [] = refl
map_same {X} {Y} f g h (x ∷ xs) = ap₂ (λ (y : Y) (ys : List Y). y ∷ ys) (h x) (map_same f g h xs)

nth-map : {X Y : Type 0} (f : X → Y) (xs : List X) (i : ℕ) → slice_get (map f xs) i ≡ option_map f (slice_get xs i)
nth-map f [] i = refl
nth-map f (x ∷ xs) zero = refl
nth-map f (x ∷ xs) (suc i) = nth-map f xs i

-- every list is in order, also one past the end, which has no keys
each-in-order : {K : Type 0} (order : K → K → Ordering) (t : KeyTree K) → all_in_order order t ≡ true → (v : ℕ) → in_order order (keys_at t v) ≡ true
each-in-order order [] e v = refl
each-in-order order (b ∷ t) e zero = (and_parts (in_order order b.1) (all_in_order order t) e).0
each-in-order order (b ∷ t) e (suc v) = each-in-order order t (and_parts (in_order order b.1) (all_in_order order t) e).1 v

module _ {K P : Type 0} where
  keys-listed : (bs : List (Branch K P)) (v : ℕ) → keys_at (key_tree bs) v ≡ get_or (key_lists bs) v []
  keys-listed [] v = refl
  keys-listed (b ∷ bs) zero = refl
  keys-listed (b ∷ bs) (suc v) = keys-listed bs v

  -- the keys of the points in some slots, with and without payloads
  kept-keys : (c : ℕ → Bool) (ps : List (Point K P)) → keys_of (map entry_of (filter (λ p. c p.slot) ps)) ≡ map (λ p. p.1) (filter (λ p. c p.0) (map bare ps))
  kept-keys c [] = refl
  kept-keys c (p ∷ ps) =
      let rest = filter (λ (q : Point K P). c q.slot) ps in
      let bares = filter (λ (q : BarePoint K). c q.0) (map bare ps) in
      let ih = kept-keys c ps in
      elim (c p.slot) as (λ b. keys_of (map entry_of (cond b (p ∷ rest) rest)) ≡ map (λ (q : BarePoint K). q.1) (cond b (bare p ∷ bares) bares)) [
        | true ↦ ap (λ (ks : List K). p.key ∷ ks) ih
        | false ↦ ih
      ]

  -- the keys sieved from points, with and without payloads
  sieved-tree : (ps : List (Point K P)) → key_tree (sieved ps) ≡ sieved_keys (map bare ps)
  unfolding sieved
  sieved-tree ps =
      map-map (λ (b : Branch K P). (b.parent, keys_of b.entries)) (λ v. record { parent = sieve_parent v; entries = sifted ps v }) (range_with_len 0 sieve_lists)
      ∙ map_same _ (sieved_list (map bare ps)) (λ v. ap (λ (ks : List K). (sieve_parent v, ks)) (kept-keys (covers v) ps)) (range_with_len 0 sieve_lists)

  -- lists whose keys are those sieved from points
  sieved-keys : (reg : List (Branch K P)) (ps : List (Point K P)) → key_lists reg ≡ key_lists (sieved ps) → (v : ℕ) → keys_at (key_tree reg) v ≡ keys_at (sieved_keys (map bare ps)) v
  sieved-keys reg ps e v =
      keys-listed reg v
      ∙ ap (λ (kss : List (List K)). get_or kss v []) e
      ∙ sym (keys-listed (sieved ps) v)
      ∙ ap (λ (u : KeyTree K). keys_at u v) (sieved-tree ps)

module _ {K : Type 0} (order : K → K → Ordering) (t u : KeyTree K) (same : (v : ℕ) → keys_at t v ≡ keys_at u v) where
  -- counted spans are told by the keys alone
  same-spans : (a b : ℕ) (low high : K) → counted_spans order t a b low high ≡ counted_spans order u a b low high
  same-spans a b low high =
      map_same _ _ (λ v. ap (λ (ks : List K). (v, place order Low low ks, place order High high ks)) (same v)) (chosen_lists a b)

  same-order : all_in_order order t ≡ true → (v : ℕ) → in_order order (keys_at u v) ≡ true
  same-order e v = sym (ap (in_order order) (same v)) ∙ each-in-order order t e v

module _ {K P : Type 0} (order : K → K → Ordering) (laws : LawfulOrder order) (reg : List (Branch K P)) (shape : SieveShaped (key_tree reg)) (rising : all_in_order order (key_tree reg) ≡ true) (a b : ℕ) (up : a ≤ b) (top : b < slot_count) (low high : K) where
  pub hold-rectangle : HoldRectangle order reg a b low high (ranged_spans order (key_tree reg) a b low high)
  hold-rectangle points e i p at =
      let ps = map bare points in
      let same = sieved-keys reg points e in
      let spans : slots.spans order (key_tree reg) a b low high ≡ slots.spans order (sieved_keys ps) a b low high =
      spans-counted K order laws (key_tree reg) shape a b low high
      ∙ same-spans order (key_tree reg) (sieved_keys ps) same a b low high
      ∙ sym (spans-counted K order laws (sieved_keys ps) (sieve-shaped ps) a b low high) in
      count_map (holds_point points i p) (λ (s : slots.Span). span s.0 s.1 s.2) (slots.spans order (key_tree reg) a b low high)
      ∙ ap (count (holds ps i p.slot)) spans
      ∙ rectangle-of-lists K order laws ps (λ v l. same-order order (key_tree reg) (sieved_keys ps) same rising v) a b up top low high i (bare p)
      (nth-map bare points i ∙ ap (option_map bare) at)
