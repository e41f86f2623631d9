-- The statements on moves, proved.
use Rattle.play.specs.Moves.{MoveMade, MoveComputed, MoveUnique, MoveDecided}
use Rattle.play.proofs.Moves.{after_played, played_after, played_unique, played_or_not}

-- on an empty point the computed board is the board of the move exactly if the new stone breathes on it
pub move_made : MoveMade
unfolding MoveMade
move_made n near g b x e = (λ h. after_played g b x e h, λ p. p.breathes)

-- every board of a move is the computed one
pub move_computed : MoveComputed
unfolding MoveComputed
move_computed n near g b d x p q = played_after g p q

-- two boards of one move agree at every point
pub move_unique : MoveUnique
unfolding MoveUnique
move_unique near b d e x p k q = played_unique p k q

-- a move has a board or it has none
pub move_decided : MoveDecided
unfolding MoveDecided
move_decided n near g b x = played_or_not g b x
