use Rattle.judge.specs.Promise.{OneJudgement}
use Rattle.judge.proofs.OneJudgement.{one_judgement}
use Rattle.judge.proofs.statements.one_judgement.Goals as goal

pub returns : goal.returns
unfolding OneJudgement
returns c = one_judgement
