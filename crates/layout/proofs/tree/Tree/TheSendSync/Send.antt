-- A tree can be moved to another thread, since it has no bytes and owns nothing. Assumes nothing.
use denote.RattleType.{RattleType}
use denote.Param.Send.{IsSend}
use Rattle.layout.specs.contracts.tree.Tree.{the_row}

pub send : (K : RattleType) → IsSend (the_row K)
send K = record { owned = λ d vs. (λ x. (((λ vss. (tt, ((λ uss. (tt, tt)), tt))), tt), tt)); leaving = λ k f vs. tt }
