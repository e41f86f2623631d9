use Rattle.std.proofs.Common.{arith}
use Rattle.referee.proofs.Kept.{kept_pass, pass_refused}
use Rattle.referee.proofs.game.Game.pass.Goals as goal

pub returns-then-self-ge-LAST_PASSES : goal.returns-then-self-ge-LAST_PASSES
returns-then-self-ge-LAST_PASSES c = λ size start ms s. pass_refused s (omega arith)

pub returns : goal.returns
returns c = λ size start ms s. kept_pass c.other-self.result s (omega arith) c.other-self.ensures
