use Rattle.grid.specs.Statements.{SquareGraph}
use Rattle.grid.proofs.Square.{graph}
use Rattle.grid.proofs.theorems.square_is_graph.Goals as goal

pub returns : goal.returns
unfolding SquareGraph
returns c = graph
