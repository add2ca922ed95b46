-- What a whole job comes to: a file, a sheet and the number of an end list; and how it is reported to a C program.
use Rattle.std.specs.Prelude.{◌≡◌, ℕ, ◌⊎◌, List, Ok, Err, Result}
use Rattle.faults.specs.Refusals.{number_of}
use Rattle.orders.specs.declared.entry.Entry.{Entry}
use Rattle.shelves.specs.Tables.{stored}
use Rattle.shelves.specs.declared.rows.ListRow.{ListRow}
use Rattle.terms.specs.declared.key.Term.{Term}
use Rattle.terms.specs.declared.marks.Marks.{Marks}
use Rattle.treefiles.specs.Format.{TermList}
use Rattle.treefiles.specs.Loading.{checked}
use Rattle.treefiles.specs.Reader.{read}
use Rattle.jobs.specs.declared.job.JobCount.{JobCount}
use Rattle.service.specs.Jobs.{TreeCounts}
use Rattle.service.specs.Loading.{FileOf}
use Rattle.service.specs.declared.entry_points.JobReport.{JobReport}
use Rattle.service.specs.declared.refusal.Refusal.{Refusal}
use Rattle.service.specs.declared.refusal.Refusal.TheVariants.{Fault, NoMemory}

-- the file is that of a tree, and this is the count of the sheet on its lists, or the refusal
pub record OnTree (file sheet : List ℕ) (list : ℕ) (answer : Result JobCount Refusal) : Type 0 where
  pub tree : List TermList
  pub lists : List ListRow
  pub entries : List (Entry Term Marks)
  pub loaded : FileOf tree file lists entries
  pub counts : TreeCounts (stored lists entries) list sheet answer

-- a file that is no tree's is refused by the file questions, before all else. Whether there is memory enough is left open
abbrev pub FileCounts : (file sheet : List ℕ) → (list : ℕ) → Result JobCount Refusal → Type 0
FileCounts file sheet list (Ok count) = OnTree file sheet list (Ok count)
FileCounts file sheet list (Err (Fault f)) = (checked (read file) ≡ Err f) ⊎ OnTree file sheet list (Err (Fault f))
FileCounts file sheet list (Err NoMemory) = Unit {0}

-- in the place of a refusal's number: there was not enough memory
abbrev pub lack_of_memory : ℕ
lack_of_memory = 255

abbrev pub count_report : JobCount → JobReport
count_report c = record {
  refusal = 0;
  lines = c.lines;
  offered = c.offered;
  withheld = c.withheld;
  absent = c.absent;
  unreadable = c.unreadable;
  share = c.share;
}

-- a refusal's number, and no count
abbrev pub refusal_report : ℕ → JobReport
refusal_report n = record { refusal = n; lines = 0; offered = 0; withheld = 0; absent = 0; unreadable = 0; share = 0 }

abbrev pub report_of : Result JobCount Refusal → JobReport
report_of (Ok c) = count_report c
report_of (Err (Fault f)) = refusal_report (number_of f.reason)
report_of (Err NoMemory) = refusal_report lack_of_memory

-- a report of just what the job comes to
pub record Reports (file sheet : List ℕ) (list : ℕ) (report : JobReport) : Type 0 where
  pub answer : Result JobCount Refusal
  pub counts : FileCounts file sheet list answer
  pub told : report ≡ report_of answer
