use Rattle.std.proofs.Common.{◌≡◌, ℕ, suc, ◌+◌, ◌-◌, leb, length, take, Err, sum_by, sym, ap, ◌∙◌, arith}
use Rattle.std.proofs.lemmas.List.{get_or-take, length-take-le}
use Rattle.std.proofs.lemmas.List.Sums.{sum_by_more}
use Rattle.std.proofs.lemmas.Bool.{leb-true}
use Rattle.std.proofs.lemmas.Bool.Decides.{nat_tests}
use Rattle.std.proofs.lemmas.Result.{err_from_is_err_and}
use Rattle.faults.specs.Refusals.{fault}
use Rattle.faults.specs.declared.Reason.TheVariants.{TooManyEntries}
use Rattle.register.specs.Limits.{most_entries}
use Rattle.register.specs.Questions.{ask}
use Rattle.plan.specs.Columns.{no_run, nth_run, entries_asked}
use Rattle.plan.specs.declared.table.ListRun.{ListRun}
use Rattle.plan.proofs.Asking.{ask-yes, ask-more, ask-stop, refuse, granted-none, refused-some}
use Rattle.plan.proofs.lists.Lists.ask_entries.Goals as goal

-- what is left is asked of the next number as the whole is of the sum
asked-left : (x d k l m : ℕ) → x ≡ k → d + k ≡ m → d + l ≡ most_entries → leb m most_entries ≡ leb x l
asked-left x d k l m e s t = grind (arith, nat_tests)

pub loop-v-preserved : goal.loop-v-preserved
loop-v-preserved c =
    let s = c.args.self.now in
    let v = c.loop-v.v in
    let few = s.few in
    let n = (nth_run c.lists-list-items.result.now v).count in
    let left = most_entries - c.loop-v.entries in
    let l : length c.lists-list-items.result.now ≡ s.len = ap length c.lists-list-items.ensures ∙ length-take-le s.len s.runs (omega arith) in
    let is : nth_run c.lists-list-items.result.now v ≡ nth_run s.runs v = ap (λ rs. nth_run rs v) c.lists-list-items.ensures ∙ get_or-take s.len s.runs v no_run (omega arith) in
    let k : n ≡ (nth_run s.runs v).count = ap (λ (r : ListRun). r.count) is in
    let m = sum_by_more (λ (r : ListRun). r.count) s.runs v no_run (omega arith) in
    let e : suc v ≡ v + 1 = omega arith in
    let w : sum_by (λ (r : ListRun). r.count) (take (suc v) s.runs) ≡ sum_by (λ (r : ListRun). r.count) (take (v + 1) s.runs) = ap (λ (n : ℕ). sum_by (λ (r : ListRun). r.count) (take n s.runs)) e in
    let test = asked-left n c.loop-v.entries (nth_run s.runs v).count left (sum_by (λ (r : ListRun). r.count) (take (suc v) s.runs)) k (omega arith) (omega arith) in
    let same : ask (leb (sum_by (λ (r : ListRun). r.count) (take (suc v) s.runs)) most_entries) (fault TooManyEntries v 0) ≡ ask (leb n left) c.new.result =
    ap (λ b. ask b (fault TooManyEntries v 0)) test ∙ ap (ask (leb n left)) (sym c.new.ensures) in
    let yes = granted-none (ask (leb n left) c.new.result) c.in_ok-ask.ensures in
    let fits = leb-true n left (ask-yes (leb n left) c.new.result yes) in (
      omega arith,
      omega arith,
      ask-more (λ u. ask (leb (sum_by (λ (r : ListRun). r.count) (take (suc u) s.runs)) most_entries) (fault TooManyEntries u 0)) v s.len (omega arith) (same ∙ yes) ∙ c.loop-v.invariant.2,
    )

pub returns-in_err-ask : goal.returns-in_err-ask
returns-in_err-ask c =
    let s = c.args.self.now in
    let v = c.loop-v.v in
    let few = s.few in
    let n = (nth_run c.lists-list-items.result.now v).count in
    let left = most_entries - c.loop-v.entries in
    let l : length c.lists-list-items.result.now ≡ s.len = ap length c.lists-list-items.ensures ∙ length-take-le s.len s.runs (omega arith) in
    let is : nth_run c.lists-list-items.result.now v ≡ nth_run s.runs v = ap (λ rs. nth_run rs v) c.lists-list-items.ensures ∙ get_or-take s.len s.runs v no_run (omega arith) in
    let k : n ≡ (nth_run s.runs v).count = ap (λ (r : ListRun). r.count) is in
    let m = sum_by_more (λ (r : ListRun). r.count) s.runs v no_run (omega arith) in
    let e : suc v ≡ v + 1 = omega arith in
    let w : sum_by (λ (r : ListRun). r.count) (take (suc v) s.runs) ≡ sum_by (λ (r : ListRun). r.count) (take (v + 1) s.runs) = ap (λ (n : ℕ). sum_by (λ (r : ListRun). r.count) (take n s.runs)) e in
    let test = asked-left n c.loop-v.entries (nth_run s.runs v).count left (sum_by (λ (r : ListRun). r.count) (take (suc v) s.runs)) k (omega arith) (omega arith) in
    let same : ask (leb (sum_by (λ (r : ListRun). r.count) (take (suc v) s.runs)) most_entries) (fault TooManyEntries v 0) ≡ ask (leb n left) c.new.result =
    ap (λ b. ask b (fault TooManyEntries v 0)) test ∙ ap (ask (leb n left)) (sym c.new.ensures) in
    let f = c.in_err-ask.field-0.0 in
    let r = err_from_is_err_and c.from_residual.result c.from_residual.ensures.1 in
    r.1 ∙ ap (λ e. Err e) r.2
    ∙ refuse (entries_asked s.len s.runs) f
    (sym c.loop-v.invariant.2
    ∙ ask-stop (λ u. ask (leb (sum_by (λ (r : ListRun). r.count) (take (suc u) s.runs)) most_entries) (fault TooManyEntries u 0)) v s.len f (omega arith)
    (same ∙ refused-some (ask (leb n left) c.new.result) f c.in_err-ask.ensures))
