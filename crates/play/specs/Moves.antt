-- What is promised of moves on a board of any shape. Each statement is a type whose proof is owed. Assumes nothing.
use Rattle.std.specs.Prelude.{◌≡◌, ℕ, ◌⊎◌}
use Rattle.grid.specs.Graph.{Near, Graph}
use Rattle.chains.specs.Board.{none, yours, Board, Breathes}
use Rattle.play.specs.Played.{Played}
use Rattle.play.specs.After.{after}

-- on an empty point the computed board is the board of the move exactly if the new stone breathes on it
unfoldable pub MoveMade : Type 0
MoveMade = (n : ℕ) (near : Near) → Graph n near → (b : Board) (x : ℕ) → b x ≡ none →
    (Breathes near (after n near b x) yours x → Played near b x (after n near b x)) × (Played near b x (after n near b x) → Breathes near (after n near b x) yours x)

-- every board of a move is the computed one, at every point
unfoldable pub MoveComputed : Type 0
MoveComputed = (n : ℕ) (near : Near) → Graph n near → (b d : Board) (x : ℕ) → Played near b x d → (q : ℕ) → d q ≡ after n near b x q

-- two boards of one move agree at every point, whatever the neighbours
unfoldable pub MoveUnique : Type 0
MoveUnique = (near : Near) (b d e : Board) (x : ℕ) → Played near b x d → Played near b x e → (q : ℕ) → d q ≡ e q

-- a move has a board or it has none
unfoldable pub MoveDecided : Type 0
MoveDecided = (n : ℕ) (near : Near) → Graph n near → (b : Board) (x : ℕ) → ((d : Board) × Played near b x d) ⊎ ((d : Board) → Played near b x d → ⊥)
