use Rattle.std.proofs.Common.{arith}
use Rattle.referee.proofs.Kept.{left_to_move, left_over}
use Rattle.referee.proofs.game.Game.finished.Goals as goal

pub returns-then-self-lt-LAST_PASSES : goal.returns-then-self-lt-LAST_PASSES
returns-then-self-lt-LAST_PASSES c = λ size start ms s. left_to_move s (omega arith)

pub returns-else-self-lt-LAST_PASSES : goal.returns-else-self-lt-LAST_PASSES
returns-else-self-lt-LAST_PASSES c = λ size start ms s. left_over s (omega arith)
