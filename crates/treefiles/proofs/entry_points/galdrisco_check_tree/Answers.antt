use Rattle.std.proofs.Common.{◌≡◌, ℕ, List, Some, None, Ok, Err, Result, refl, rules}
use Rattle.std.proofs.lemmas.Option.{MatchOption-at_some, MatchOption-at_none}
use Rattle.std.specs.Result.{result_err}
use Rattle.faults.specs.Refusals.{number_of}
use Rattle.faults.specs.declared.Fault.{Fault}
use Rattle.treefiles.specs.Format.{TermList}
use Rattle.treefiles.specs.Loading.{checked, refusal}
use Rattle.treefiles.specs.Reader.{read}
use Rattle.treefiles.proofs.entry_points.galdrisco_check_tree.Goals as goal

numbered : (r : Result (List TermList) Fault) (n : ℕ) → (result_err (checked r) ≡ None → n ≡ 0) → ((f : Fault) → result_err (checked r) ≡ Some f → n ≡ number_of f.reason) → n ≡ refusal r
numbered (Ok tree) n none some = none refl
numbered (Err f) n none some = some f refl

pub returns : goal.returns
returns c =
    let k = c.check.ensures in
    let o = c.err.ensures.value in
    numbered (read c.args.file.now) c.map_or.result
    (λ e. let s : c.err.result ≡ None = cc in MatchOption-at_none _ _ s c.map_or.ensures)
    (λ f e. let s : c.err.result ≡ Some f = cc in let p = MatchOption-at_some _ _ f s c.map_or.ensures in search rules)
