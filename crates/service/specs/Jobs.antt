-- What the count of a sheet on a tree comes to.
use Rattle.std.specs.Prelude.{◌≡◌, ℕ, List, Some, None, Ok, Err, Result}
use Rattle.jobs.specs.Jobs.{job_fault, JobOf}
use Rattle.jobs.specs.declared.job.JobCount.{JobCount}
use Rattle.layout.specs.KeyTrees.{key_tree}
use Rattle.register.specs.Questions.{or_else, lists_fault}
use Rattle.register.specs.Register.{Register}
use Rattle.terms.specs.Order.{term_order}
use Rattle.terms.specs.declared.key.Term.{Term}
use Rattle.terms.specs.declared.marks.Marks.{Marks}
use Rattle.service.specs.declared.refusal.Refusal.{Refusal}
use Rattle.service.specs.declared.refusal.Refusal.TheVariants.{Fault, NoMemory}

-- the first question that gets a "no", those of the build first, or the count of the sheet. Whether there is enough memory is
-- left open
abbrev pub TreeCounts : Register Term Marks → (list : ℕ) → (sheet : List ℕ) → Result JobCount Refusal → Type 0
TreeCounts reg list sheet (Ok count) = (or_else (lists_fault term_order (key_tree reg)) (job_fault reg list sheet) ≡ None) × JobOf reg list sheet count
TreeCounts reg list sheet (Err (Fault f)) = or_else (lists_fault term_order (key_tree reg)) (job_fault reg list sheet) ≡ Some f
TreeCounts reg list sheet (Err NoMemory) = Unit {0}
