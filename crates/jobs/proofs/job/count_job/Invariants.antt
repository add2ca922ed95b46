use Rattle.index.specs.Held.{machine_of}
use Rattle.jobs.specs.Left.{left}
use Rattle.jobs.proofs.Counting.{Upto}
use Rattle.jobs.proofs.job.count_job.Given as goal

abbrev pub invariant-loop-line : goal.invariant-loop-line
invariant-loop-line l = Upto (machine_of l.index).register l.list l.sheet (left l.line-iterator) l.count
