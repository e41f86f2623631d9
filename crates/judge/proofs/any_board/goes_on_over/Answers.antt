use Rattle.judge.specs.AnyBoard.{GoesOnOver}
use Rattle.judge.proofs.OneJudgement.{goes_on_over}
use Rattle.judge.proofs.any_board.goes_on_over.Goals as goal

pub returns : goal.returns
unfolding GoesOnOver
returns c = goes_on_over
