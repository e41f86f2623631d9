use Rattle.capture.specs.Statements.{MarkOrRow}
use Rattle.capture.proofs.Fate.{mark_or_row}
use Rattle.capture.proofs.theorems.mark_or_row.Goals as goal

pub returns : goal.returns
unfolding MarkOrRow
returns c = mark_or_row
