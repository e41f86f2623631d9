use Rattle.referee.specs.Statements.{RecordUnique}
use Rattle.referee.proofs.Laws.{record_unique}
use Rattle.referee.proofs.theorems.record_unique.Goals as goal

pub returns : goal.returns
unfolding RecordUnique
returns c = record_unique
