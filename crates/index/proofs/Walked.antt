-- Lookups and offers of an index, from those of the walk over its memory. Assumes nothing.
use Rattle.std.proofs.Common.{◌≡◌, ℕ, ◌<◌, ◌≤◌, length, Ok, Err, Option, Ordering, sym, refl, ap, ◌∙◌, subst, arith}
use Rattle.faults.specs.Refusals.{fault}
use Rattle.faults.specs.declared.Fault.{Fault}
use Rattle.faults.specs.declared.Reason.TheVariants.{NoSuchList}
use Rattle.orders.specs.declared.KeyOrder.{Ghosts}
use Rattle.orders.specs.declared.side.Side.{Side}
use Rattle.orders.specs.declared.side.Side.TheVariants.{Low, High}
use Rattle.orders.specs.Laws.{LawfulOrder}
use Rattle.cascade.proofs.Walking.{lookup-within}
use Rattle.cascade.specs.Trees.{KeyTree}
use Rattle.cascade.specs.Walks.{comparisons}
use Rattle.layout.specs.KeyTrees.{key_tree}
use Rattle.register.specs.Answers.{lookup_read, offer_read, Stops, Spans}
use Rattle.register.specs.Questions.{unless}
use Rattle.register.specs.Register.{looked, look_up_answer, offered, offer_answer}
use Rattle.register.specs.declared.answers.Lookup.{Lookup}
use Rattle.register.specs.declared.answers.Offer.{Offer}
use Rattle.walking.specs.Walked.{looked_up, offered_at}
use Rattle.index.specs.Counts.{LookupCounts, OfferCounts}
use Rattle.index.specs.Held.{machine_of}
use Rattle.index.specs.declared.Index.{Index}
use Rattle.index.proofs.Amending.{no-list, some-list}
use Rattle.index.proofs.Looking.{looks, offers}
use Rattle.index.proofs.Sounding.{tree_of}

module _ {K P : Type 0} {g : Ghosts K} (order : K → K → Ordering) (i : Index K P g) (list : ℕ) where
  abbrev t : KeyTree K
  t = i.layout.tree

  -- there is no such list
  pub no-lookup : (side : Side) (q : K) → i.table.len ≤ list → Err (fault NoSuchList list 0) ≡ look_up_answer order (machine_of i).register list side q
  no-lookup side q h = sym (ap (λ (o : Option Fault). unless o (looked order (machine_of i).register list side q)) (no-list i list h))

  pub no-offer : (neutral : P) (joined : P → P → P) (q : K) → i.table.len ≤ list → Err (fault NoSuchList list 0) ≡ offer_answer order neutral joined (machine_of i).register list q
  no-offer neutral joined q h = sym (ap (λ (o : Option Fault). unless o (offered order neutral joined (machine_of i).register list q)) (no-list i list h))

  module _ (h : list < i.table.len) where
    pub there : list < length t
    there = let n = i.lists in omega arith

    module _ (laws : LawfulOrder order) where
      -- what a lookup counts is bounded
      within : (side : Side) (q : K) (n : ℕ) → n ≡ comparisons order t side q list → LookupCounts order t list side q n
      within side q n e = record { counted = e; bounded = let b = (lookup-within K order laws t i.smaller list there side q).1 in omega arith }

      module _ (side : Side) (q : K) (l : Lookup) (is : l ≡ looked_up order t list side q) where
        pub look-answer : Ok (lookup_read l) ≡ look_up_answer order (machine_of i).register list side q
        look-answer =
            ap (λ (s : Stops). Ok s) (ap lookup_read is ∙ looks order laws t i.smaller i.memory.payloads.now i.loaded list there side q)
            ∙ sym (ap (λ (o : Option Fault). unless o (looked order (machine_of i).register list side q)) (some-list i list h))

        pub look-counts : LookupCounts order (key_tree (machine_of i).register) list side q l.comparisons
        look-counts = subst (λ (u : KeyTree K). LookupCounts order u list side q l.comparisons) (sym (tree_of i)) (within side q l.comparisons (ap (λ (x : Lookup). x.comparisons) is))

      module _ (neutral : P) (joined : P → P → P) (q : K) (o : Offer P) (is : o ≡ offered_at order neutral joined t i.memory.payloads.now list q) where
        pub offer-answer : Ok (offer_read o) ≡ offer_answer order neutral joined (machine_of i).register list q
        offer-answer =
            ap (λ (s : Spans P). Ok s) (ap offer_read is ∙ offers order laws t i.smaller i.memory.payloads.now i.loaded list there neutral joined q)
            ∙ sym (ap (λ (x : Option Fault). unless x (offered order neutral joined (machine_of i).register list q)) (some-list i list h))

        pub offer-counts : OfferCounts order (key_tree (machine_of i).register) list q o.comparisons
        offer-counts =
            let e = ap (λ (x : Offer P). x.comparisons) is in
            let low = (within Low q _ refl).bounded in
            let high = (within High q _ refl).bounded in
            subst (λ (u : KeyTree K). OfferCounts order u list q o.comparisons) (sym (tree_of i)) (record { counted = e; bounded = omega (arith, e, low, high) })
