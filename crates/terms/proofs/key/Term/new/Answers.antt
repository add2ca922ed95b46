use Rattle.std.proofs.Common.{◌≤◌, length, rules, sym, ◌∙◌}
use Rattle.terms.proofs.Texts.{no_zero, filled-long, filled-front, filled-back}
use Rattle.terms.proofs.key.Term.new.Goals as goal

pub invariant_of-result : goal.invariant_of-result
invariant_of-result c =
    let text = c.args.text.now in
    let short : length text ≤ 32 = search rules in
    let after = c.copy_from_slice.ensures.after in
    record {
      sized = rw after (filled-long text short);
      some = search rules;
      short = search rules;
      full = λ k h. rw after (rw (filled-front text short k h) (no_zero text (sym c.first_zero.ensures ∙ c.in_default.is) k h));
      rest = λ k h. rw after (filled-back text short k h);
    }
