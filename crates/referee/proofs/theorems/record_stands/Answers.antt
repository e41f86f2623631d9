use Rattle.referee.specs.Statements.{RecordStands}
use Rattle.referee.proofs.Laws.{record_stands}
use Rattle.referee.proofs.theorems.record_stands.Goals as goal

pub returns : goal.returns
unfolding RecordStands
returns c = record_stands
