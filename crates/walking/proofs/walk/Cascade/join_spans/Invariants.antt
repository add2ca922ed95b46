use Rattle.walking.proofs.Joining.{Joined}
use Rattle.walking.proofs.walk.Cascade.join_spans.Given as goal

abbrev pub invariant-loop-span : goal.invariant-loop-span
invariant-loop-span g l = Joined g.P.Payload.neutral g.P.Payload.joined l.self.table.now.runs l.self.payloads.now l.spans l.span-index l.entries l.payload
