use Rattle.play.specs.Moves.{MoveUnique}
use Rattle.play.proofs.theorems.move_unique.Goals as goal
use Rattle.play.proofs.Statements.{move_unique}

pub returns : goal.returns
unfolding MoveUnique
returns c = move_unique
