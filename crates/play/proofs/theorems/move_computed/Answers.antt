use Rattle.play.specs.Moves.{MoveComputed}
use Rattle.play.proofs.theorems.move_computed.Goals as goal
use Rattle.play.proofs.Statements.{move_computed}

pub returns : goal.returns
unfolding MoveComputed
returns c = move_computed
