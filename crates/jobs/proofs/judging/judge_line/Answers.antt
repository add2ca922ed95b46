use Rattle.std.proofs.Common.{sym}
use Rattle.jobs.proofs.judging.judge_line.Goals as goal

pub returns : goal.returns
returns c = record {
  readable = c.in-Ok.ensures.0;
  key = c.in-Ok.key;
  text = c.in-Ok.ensures.1;
  judged = sym c.in_ok-found.ensures;
}
