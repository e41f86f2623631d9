use Rattle.referee.specs.Statements.{RecordCut}
use Rattle.referee.proofs.Laws.{record_cut}
use Rattle.referee.proofs.theorems.record_cut.Goals as goal

pub returns : goal.returns
unfolding RecordCut
returns c = record_cut
