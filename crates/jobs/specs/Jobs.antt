-- Job counts: what becomes of the lines of a sheet at an end list, and how many lines come to what.
use Rattle.std.specs.List.{AllZip}
use Rattle.std.specs.Prelude.{◌≡◌, ℕ, ◌+◌, ◌*◌, ◌/◌, Bool, true, false, cond, List, length, Some, None, Ok, Err, count_by, Option, Result, ◌==◌, nat_le}
use Rattle.faults.specs.Refusals.{fault}
use Rattle.faults.specs.declared.Fault.{Fault}
use Rattle.faults.specs.declared.Reason.TheVariants.{SheetTooLong}
use Rattle.terms.specs.Keys.{text_of, key_fault}
use Rattle.terms.specs.declared.key.Term.{Term}
use Rattle.terms.specs.declared.marks.Marks.{Marks}
use Rattle.layout.specs.KeyTrees.{key_tree}
use Rattle.register.specs.Questions.{ask, or_else, list_fault}
use Rattle.register.specs.Register.{Register}
use Rattle.jobs.specs.Sheets.{lines_of}
use Rattle.jobs.specs.Verdicts.{verdict_answer}
use Rattle.jobs.specs.declared.job.JobCount.{JobCount}
use Rattle.jobs.specs.declared.verdict.Verdict.{Verdict}
use Rattle.jobs.specs.declared.verdict.Verdict.TheVariants.{Absent, Offered, Withheld}

-- how many bytes a sheet has at the most
abbrev pub longest_sheet : ℕ
longest_sheet = 65535

-- what a line comes to
abbrev pub is_unreadable : Option Verdict → Bool
is_unreadable None = true
is_unreadable (Some v) = false

abbrev pub is_absent : Option Verdict → Bool
is_absent None = false
is_absent (Some Absent) = true
is_absent (Some (Offered s)) = false
is_absent (Some (Withheld c)) = false

abbrev pub is_offered : Option Verdict → Bool
is_offered None = false
is_offered (Some Absent) = false
is_offered (Some (Offered s)) = true
is_offered (Some (Withheld c)) = false

abbrev pub is_withheld : Option Verdict → Bool
is_withheld None = false
is_withheld (Some Absent) = false
is_withheld (Some (Offered s)) = false
is_withheld (Some (Withheld c)) = true

-- the share of the offered lines in hundredths, rounded down; 0 where there are no lines
abbrev pub share_of : (offered lines : ℕ) → ℕ
share_of offered lines = cond (lines == 0) 0 (100 * offered / lines)

-- one line more is counted
pub record OneMore (outcome : Option Verdict) (before after : JobCount) : Type 0 where
  pub lines : after.lines ≡ before.lines + 1
  pub offered : after.offered ≡ before.offered + cond (is_offered outcome) 1 0
  pub withheld : after.withheld ≡ before.withheld + cond (is_withheld outcome) 1 0
  pub absent : after.absent ≡ before.absent + cond (is_absent outcome) 1 0
  pub unreadable : after.unreadable ≡ before.unreadable + cond (is_unreadable outcome) 1 0

-- every line is counted as one of the four
abbrev pub Adds : JobCount → Type 0
Adds count = count.offered + count.withheld + count.absent + count.unreadable ≡ count.lines

module _ (reg : Register Term Marks) (list : ℕ) where
  -- a line is the text of a term key, which has this verdict
  pub record ReadAs (line : List ℕ) (verdict : Verdict) : Type 0 where
    pub readable : key_fault line ≡ None
    pub key : Term
    pub text : text_of key ≡ line
    pub judged : verdict_answer reg list key ≡ Ok verdict

  -- what becomes of a line: it is the text of no key, or its key has a verdict
  abbrev pub Becomes : List ℕ → Option Verdict → Type 0
  Becomes line None = (f : Fault) × (key_fault line ≡ Some f)
  Becomes line (Some v) = ReadAs line v

  -- the same with the refusal: no such list
  abbrev pub Judges : List ℕ → Result (Option Verdict) Fault → Type 0
  Judges line (Ok outcome) = Becomes line outcome
  Judges line (Err f) = list_fault (key_tree reg) list ≡ Some f

  -- the questions before a count: is the sheet at most 65,535 bytes long, does the end list exist
  abbrev pub job_fault : (sheet : List ℕ) → Option Fault
  job_fault sheet =
      or_else (ask (nat_le (length sheet) longest_sheet) (fault SheetTooLong (length sheet) 0))
      (list_fault (key_tree reg) list)

  -- the count of a sheet: each line has its outcome, and the outcomes are counted by their kind
  pub record JobOf (sheet : List ℕ) (count : JobCount) : Type 0 where
    pub outcomes : List (Option Verdict)
    pub each : AllZip Becomes (lines_of sheet) outcomes
    pub lines : count.lines ≡ length (lines_of sheet)
    pub offered : count.offered ≡ count_by is_offered outcomes
    pub withheld : count.withheld ≡ count_by is_withheld outcomes
    pub absent : count.absent ≡ count_by is_absent outcomes
    pub unreadable : count.unreadable ≡ count_by is_unreadable outcomes
    pub adds : Adds count
    pub share : count.share ≡ share_of count.offered count.lines

  -- what a count comes to: the first question that gets a "no", or the count of the sheet
  abbrev pub Counts : (sheet : List ℕ) → Result JobCount Fault → Type 0
  Counts sheet (Ok count) = (job_fault sheet ≡ None) × JobOf sheet count
  Counts sheet (Err f) = job_fault sheet ≡ Some f
