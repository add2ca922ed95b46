-- A tree can be shared with another thread, since what lies in memory of it has no bytes. Assumes nothing.
use denote.RattleType.{RattleType}
use denote.Param.Send.{IsSend, IsSync, part_keyless}
use Rattle.layout.specs.contracts.tree.Tree.{the_row}
use Rattle.layout.specs.contracts.tree.Tree.TheInside as inside

inside_send : (K : RattleType) → IsSend (inside.the_row K)
inside_send K = record { owned = λ d vs. ((λ vss. (tt, ((λ uss. (tt, tt)), tt))), tt); leaving = λ k f vs. tt }

pub sync : (K : RattleType) → IsSync (the_row K)
sync K = record { shared = λ d b o κ x. ((λ q. part_keyless (inside.the_row K) (inside_send K) q x.0 b o), tt) }
