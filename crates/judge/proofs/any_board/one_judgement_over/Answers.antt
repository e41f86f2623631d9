use Rattle.judge.specs.AnyBoard.{OneJudgementOver}
use Rattle.judge.proofs.OneJudgement.{one_judgement_over}
use Rattle.judge.proofs.any_board.one_judgement_over.Goals as goal

pub returns : goal.returns
unfolding OneJudgementOver
returns c = one_judgement_over
