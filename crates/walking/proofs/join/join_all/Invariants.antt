use Rattle.std.proofs.Common.{◌≡◌, take, fold}
use Rattle.walking.proofs.join.join_all.Given as goal

abbrev pub invariant-loop-payload : goal.invariant-loop-payload
invariant-loop-payload g l = l.all ≡ fold g.P.Payload.joined l.initial.all (take l.payload-index l.payloads)
