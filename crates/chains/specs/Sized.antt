-- Boards by their size. Assumes nothing: these are definitions.
use Rattle.std.specs.Prelude.{ℕ, List}
use Rattle.grid.specs.Graph.{Near}
use Rattle.grid.specs.Grid.{points, near}
use Rattle.grid.specs.declared.size.Size.{Size}
use Rattle.chains.specs.Board.{Board}
use Rattle.chains.specs.Views.{view}
use Rattle.chains.specs.declared.colour.Colour.{Colour}

-- how many points a board of that size has
abbrev pub count_of : Size → ℕ
count_of size = points size.width size.height

-- and which of them are neighbours
abbrev pub near_of : Size → Near
near_of size = near size.width size.height

-- the board that the bytes write, as the side of that colour sees it
abbrev pub seen : Size → List ℕ → Colour → Board
seen size cells = view (count_of size) cells
