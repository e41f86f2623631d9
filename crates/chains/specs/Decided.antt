-- Being linked and breathing are decided, on a board of any shape. Each statement is a type whose proof is owed. Assumes nothing.
use Rattle.std.specs.Prelude.{ℕ, Bool, ◌⊎◌}
use Rattle.grid.specs.Graph.{Near, Graph}
use Rattle.chains.specs.Board.{State, Board, Breathes}
use Rattle.chains.specs.Linked.{Linked}

-- two points are linked or they are not
unfoldable pub LinkedDecided : Type 0
LinkedDecided = (n : ℕ) (near : Near) → Graph n near → (t : ℕ → Bool) (p q : ℕ) → Linked near t p q ⊎ (Linked near t p q → ⊥)

-- a chain has a liberty or it has none
unfoldable pub BreathDecided : Type 0
BreathDecided = (n : ℕ) (near : Near) → Graph n near → (b : Board) (c : State) (p : ℕ) → Breathes near b c p ⊎ (Breathes near b c p → ⊥)
