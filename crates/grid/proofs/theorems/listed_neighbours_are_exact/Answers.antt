use Rattle.grid.specs.Statements.{SquareLists}
use Rattle.grid.proofs.Handed.{lists}
use Rattle.grid.proofs.theorems.listed_neighbours_are_exact.Goals as goal

pub returns : goal.returns
unfolding SquareLists
returns c = lists
