-- Verdicts on terms.
use Rattle.std.specs.Prelude.{ℕ, Bool, cond, not, Result, ◌==◌, bit_and}
use Rattle.faults.specs.declared.Fault.{Fault}
use Rattle.terms.specs.Order.{term_order}
use Rattle.terms.specs.Unions.{no_marks, union_of_marks}
use Rattle.terms.specs.declared.key.Term.{Term}
use Rattle.terms.specs.declared.marks.Marks.{Marks}
use Rattle.register.specs.Answers.{map_ok}
use Rattle.register.specs.Register.{Register, offer_answer}
use Rattle.jobs.specs.declared.verdict.Cause.TheVariants.{Withdrawn, Ban}
use Rattle.jobs.specs.declared.verdict.Standing.TheVariants.{Preferred, Plain}
use Rattle.jobs.specs.declared.verdict.Verdict.{Verdict}
use Rattle.jobs.specs.declared.verdict.Verdict.TheVariants.{Absent, Offered, Withheld}

-- the weights of the bits of marks that a verdict asks for
abbrev pub withdrawn : ℕ
withdrawn = 1

abbrev pub banned : ℕ
banned = 2

abbrev pub preferred : ℕ
preferred = 4

-- is the bit of this weight among the marks
abbrev pub marked : ℕ → Marks → Bool
marked weight marks = not (bit_and marks.bits weight == 0)

-- the verdict on a term, by the number of its entries and their joined marks; the first case that holds
abbrev pub verdict_of : ℕ → Marks → Verdict
verdict_of entries marks =
    cond (entries == 0) Absent
    (cond (marked withdrawn marks) (Withheld Withdrawn)
    (cond (marked banned marks) (Withheld Ban)
    (cond (marked preferred marks) (Offered Preferred) (Offered Plain))))

-- the verdict on a key at an end list: that of its offer there, or the offer's refusal
abbrev pub verdict_answer : Register Term Marks → (list : ℕ) → Term → Result Verdict Fault
verdict_answer reg list key = map_ok (λ s. verdict_of s.entries s.payload) (offer_answer term_order no_marks union_of_marks reg list key)
