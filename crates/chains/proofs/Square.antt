-- Standing on the square board is standing on the board of its points and neighbours.
use Rattle.std.proofs.Common.{ℕ}
use Rattle.grid.specs.Grid.{near, points}
use Rattle.chains.specs.Board.{Board}
use Rattle.chains.specs.Stands.{Stands, Stand}

-- a board that stands on the square grid stands on its graph
pub stands_stand : {w h : ℕ} {b : Board} → Stands w h b → Stand (points w h) (near w h) b
stands_stand s = record { inside = s.inside; mine_breathe = s.mine_breathe; yours_breathe = s.yours_breathe }

-- and back
pub stand_stands : {w h : ℕ} {b : Board} → Stand (points w h) (near w h) b → Stands w h b
stand_stands s = record { inside = s.inside; mine_breathe = s.mine_breathe; yours_breathe = s.yours_breathe }
