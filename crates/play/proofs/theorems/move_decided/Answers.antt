use Rattle.play.specs.Moves.{MoveDecided}
use Rattle.play.proofs.theorems.move_decided.Goals as goal
use Rattle.play.proofs.Statements.{move_decided}

pub returns : goal.returns
unfolding MoveDecided
returns c = move_decided
