-- Counting a sheet line by line gives its job count. Assumes nothing.
use Rattle.std.proofs.Common.{◌≡◌, ℕ, ◌+◌, ◌≤◌, Bool, cond, List, [], ◌∷◌, ◌++◌, length, Some, None, Ok, count_by, Option, Result, sym, refl, ap, ◌∙◌, subst, arith}
use Rattle.std.proofs.lemmas.List.{append_assoc, append-nil, length-append, length_push}
use Rattle.std.proofs.lemmas.List.Sums.{sum_by-cons, sum_by_push}
use Rattle.std.proofs.lemmas.Bool.{le-leb}
use Rattle.std.proofs.lemmas.Slice.Zip.{AllZip-long}
use Rattle.std.specs.List.{AllZip}
use Rattle.faults.specs.declared.Fault.{Fault}
use Rattle.terms.specs.declared.key.Term.{Term}
use Rattle.terms.specs.declared.marks.Marks.{Marks}
use Rattle.layout.specs.KeyTrees.{key_tree}
use Rattle.register.specs.Questions.{unless, list_fault}
use Rattle.register.specs.Register.{Register}
use Rattle.jobs.specs.Jobs.{longest_sheet, is_offered, is_withheld, is_absent, is_unreadable, share_of, OneMore, Adds, Becomes, job_fault, JobOf}
use Rattle.jobs.specs.Sheets.{lines_of}
use Rattle.jobs.specs.declared.job.JobCount.{JobCount}
use Rattle.jobs.specs.declared.verdict.Verdict.{Verdict}
use Rattle.jobs.specs.declared.verdict.Verdict.TheVariants.{Absent, Offered, Withheld}
use Rattle.jobs.proofs.Splitting.{few-lines}

-- lists with a relation between their elements
module _ {X Y : Type 0} (R : X → Y → Type 0) where
  each-push : (xs : List X) (ys : List Y) (x : X) (y : Y) → AllZip R xs ys → R x y → AllZip R (xs ++ x ∷ []) (ys ++ y ∷ [])
  each-push [] [] x y e r = (r, tt)
  each-push [] (z ∷ zs) x y e r = absurd e
  each-push (w ∷ ws) [] x y e r = absurd e
  each-push (w ∷ ws) (z ∷ zs) x y e r = (e.0, each-push ws zs x y e.1 r)

-- an outcome is of one of the four kinds
abbrev bit : (Option Verdict → Bool) → Option Verdict → ℕ
bit f o = cond (f o) 1 0

one-kind : (o : Option Verdict) → bit is_offered o + bit is_withheld o + bit is_absent o + bit is_unreadable o ≡ 1
one-kind None = refl
one-kind (Some Absent) = refl
one-kind (Some (Offered s)) = refl
one-kind (Some (Withheld w)) = refl

four-kinds : (os : List (Option Verdict)) → count_by is_offered os + count_by is_withheld os + count_by is_absent os + count_by is_unreadable os ≡ length os
four-kinds [] = refl
four-kinds (o ∷ os) =
    let ih = four-kinds os in
    let k = one-kind o in
    let a = sum_by-cons (bit is_offered) o os in
    let b = sum_by-cons (bit is_withheld) o os in
    let d = sum_by-cons (bit is_absent) o os in
    let e = sum_by-cons (bit is_unreadable) o os in
    omega arith

push : (f : Option Verdict → Bool) (os : List (Option Verdict)) (o : Option Verdict) (n m : ℕ) → n ≡ count_by f os → m ≡ n + bit f o → m ≡ count_by f (os ++ o ∷ [])
push f os o n m e more = more ∙ ap (λ (k : ℕ). k + bit f o) e ∙ sym (sum_by_push (bit f) os o)

-- the lines before those that are left are counted
pub record Upto (reg : Register Term Marks) (list : ℕ) (sheet : List ℕ) (left : List (List ℕ)) (count : JobCount) : Type 0 where
  pub done : List (List ℕ)
  pub outcomes : List (Option Verdict)
  pub split : lines_of sheet ≡ done ++ left
  pub each : AllZip (Becomes reg list) done outcomes
  pub lines : count.lines ≡ length outcomes
  pub offered : count.offered ≡ count_by is_offered outcomes
  pub withheld : count.withheld ≡ count_by is_withheld outcomes
  pub absent : count.absent ≡ count_by is_absent outcomes
  pub unreadable : count.unreadable ≡ count_by is_unreadable outcomes

module _ (reg : Register Term Marks) (list : ℕ) (sheet : List ℕ) where
  pub none_yet : (left : List (List ℕ)) (count : JobCount) → left ≡ lines_of sheet → count.lines ≡ 0 → count.offered ≡ 0 → count.withheld ≡ 0 → count.absent ≡ 0 → count.unreadable ≡ 0
      → Upto reg list sheet left count
  none_yet left count e n o w a u = record { done = []; outcomes = []; split = sym e; each = tt; lines = n; offered = o; withheld = w; absent = a; unreadable = u }

  module _ (left : List (List ℕ)) (count : JobCount) (i : Upto reg list sheet left count) where
    pub adds : Adds count
    adds =
        let k = four-kinds i.outcomes in
        omega (arith, i.lines, i.offered, i.withheld, i.absent, i.unreadable, k)

    -- the counts stay small
    pub counted : count.lines + length left ≤ length sheet
    counted =
        let s = ap length i.split ∙ length-append i.done left in
        let e = AllZip-long (Becomes reg list) i.done i.outcomes i.each in
        let f = few-lines sheet in
        omega (arith, s, e, f, i.lines)

    -- one line on
    pub onward : (line : List ℕ) (others : List (List ℕ)) → left ≡ line ∷ others
        → (o : Option Verdict) → Becomes reg list line o → (after : JobCount) → OneMore o count after → Upto reg list sheet others after
    onward line others e o b after more = record {
      done = i.done ++ line ∷ [];
      outcomes = i.outcomes ++ o ∷ [];
      split = i.split ∙ ap (λ (ls : List (List ℕ)). i.done ++ ls) e ∙ sym (append_assoc i.done (line ∷ []) others);
      each = each-push (Becomes reg list) i.done i.outcomes line o i.each b;
      lines = more.lines ∙ ap (λ (n : ℕ). n + 1) i.lines ∙ sym (length_push i.outcomes o);
      offered = push is_offered i.outcomes o count.offered after.offered i.offered more.offered;
      withheld = push is_withheld i.outcomes o count.withheld after.withheld i.withheld more.withheld;
      absent = push is_absent i.outcomes o count.absent after.absent i.absent more.absent;
      unreadable = push is_unreadable i.outcomes o count.unreadable after.unreadable i.unreadable more.unreadable;
    }

    -- at the end
    pub finished : left ≡ [] → (share : ℕ) → share ≡ share_of count.offered count.lines
        → JobOf reg list sheet (record { lines = count.lines; offered = count.offered; withheld = count.withheld; absent = count.absent; unreadable = count.unreadable; share = share })
    finished e share s =
        let whole : lines_of sheet ≡ i.done = i.split ∙ ap (λ (ls : List (List ℕ)). i.done ++ ls) e ∙ append-nil i.done in
        record {
          outcomes = i.outcomes;
          each = subst (λ (ls : List (List ℕ)). AllZip (Becomes reg list) ls i.outcomes) (sym whole) i.each;
          lines = i.lines ∙ AllZip-long (Becomes reg list) i.done i.outcomes i.each ∙ sym (ap length whole);
          offered = i.offered;
          withheld = i.withheld;
          absent = i.absent;
          unreadable = i.unreadable;
          adds = adds;
          share = s;
        }

-- the questions are answered, once the sheet is short enough and the list is there
granted : (o : Option Fault) → ◌≡◌ {A = Result (Unit {0}) Fault} (Ok tt) (unless o tt) → o ≡ None
granted None e = refl
granted (Some f) e = cc

pub no-fault : (reg : Register Term Marks) (list : ℕ) (sheet : List ℕ) → length sheet ≤ longest_sheet
    → ◌≡◌ {A = Result (Unit {0}) Fault} (Ok tt) (unless (list_fault (key_tree reg) list) tt) → job_fault reg list sheet ≡ None
no-fault reg list sheet short e = rw (le-leb (length sheet) longest_sheet short) (granted (list_fault (key_tree reg) list) e)
