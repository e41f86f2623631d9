use Rattle.play.specs.Moves.{MoveMade}
use Rattle.play.proofs.theorems.move_made.Goals as goal
use Rattle.play.proofs.Statements.{move_made}

pub returns : goal.returns
unfolding MoveMade
returns c = move_made
