use Rattle.judge.specs.AnyBoard.{StaysSafeOver}
use Rattle.judge.proofs.Alive.{stays_safe_over}
use Rattle.judge.proofs.any_board.stays_safe_over.Goals as goal

pub returns : goal.returns
unfolding StaysSafeOver
returns c = stays_safe_over
