use Rattle.grid.specs.Statements.{SquareHandsOut}
use Rattle.grid.proofs.Square.{hands}
use Rattle.grid.proofs.theorems.neighbours_are_exact.Goals as goal

pub returns : goal.returns
unfolding SquareHandsOut
returns c = hands
