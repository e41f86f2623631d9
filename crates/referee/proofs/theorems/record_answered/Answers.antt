use Rattle.referee.specs.Statements.{RecordAnswered}
use Rattle.referee.proofs.Laws.{record_answered}
use Rattle.referee.proofs.theorems.record_answered.Goals as goal

pub returns : goal.returns
unfolding RecordAnswered
returns c = record_answered
