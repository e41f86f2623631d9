-- Boards that can stand. Assumes nothing: these are definitions.
use Rattle.std.specs.Prelude.{◌≡◌, ℕ, ◌<◌, ◌≢◌}
use Rattle.grid.specs.Graph.{Near}
use Rattle.grid.specs.Grid.{near, points}
use Rattle.chains.specs.Board.{none, mine, yours, Board, Breathes}

-- a board that can stand: off the grid there is nothing, and every stone breathes
pub record Stands (w h : ℕ) (b : Board) : Type 0 where
  pub inside : (p : ℕ) → b p ≢ none → p < points w h
  pub mine_breathe : (p : ℕ) → b p ≡ mine → Breathes (near w h) b mine p
  pub yours_breathe : (p : ℕ) → b p ≡ yours → Breathes (near w h) b yours p

-- the same for a board of any shape with n points
pub record Stand (n : ℕ) (near : Near) (b : Board) : Type 0 where
  pub inside : (p : ℕ) → b p ≢ none → p < n
  pub mine_breathe : (p : ℕ) → b p ≡ mine → Breathes near b mine p
  pub yours_breathe : (p : ℕ) → b p ≡ yours → Breathes near b yours p
