use Rattle.capture.specs.Statements.{StaysOrRow}
use Rattle.capture.proofs.Fate.{stays_or_row}
use Rattle.capture.proofs.theorems.stays_or_row.Goals as goal

pub returns : goal.returns
unfolding StaysOrRow
returns c = stays_or_row
