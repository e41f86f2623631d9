-- The statements that name a width and a height, from their general forms: the square board is a board of the general kind.
use Rattle.grid.specs.Grid.{points, near}
use Rattle.grid.proofs.Square.{graph}
use Rattle.chains.proofs.Square.{stands_stand, stand_stands}
use Rattle.play.proofs.Moves as moves
use Rattle.judge.specs.Promise.{StaysSafe, GoesOn}
use Rattle.judge.specs.AnyBoard.{StaysSafeOver}
use Rattle.judge.proofs.Alive.{stays_safe_over}

-- what stays on a board that can stand is held by safe marks
pub stays_safe : StaysSafe
unfolding StaysSafe StaysSafeOver
stays_safe w h b stands p m stays = stays_safe_over (points w h) (near w h) (graph w h) b (stands_stand stands) p m stays

-- boards that can stand go on standing
pub goes_on : GoesOn
unfolding GoesOn
goes_on w h b d x stands inside played = stand_stands (moves.goes_on (graph w h) (stands_stand stands) played)
