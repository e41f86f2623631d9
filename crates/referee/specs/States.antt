-- What a referee remembers of a record between its moves. Assumes nothing: these are definitions.
use Rattle.std.specs.Prelude.{◌≡◌, ℕ, zero, suc, List, Some, None, Option}
use Rattle.grid.specs.Graph.{Near}
use Rattle.chains.specs.Board.{Board}
use Rattle.chains.specs.Views.{other}
use Rattle.chains.specs.declared.colour.Colour.{Colour}
use Rattle.chains.specs.declared.colour.Colour.TheVariants.{Black, White}
use Rattle.play.specs.After.{after}
use Rattle.referee.specs.declared.moves.Move.{Move}
use Rattle.referee.specs.declared.moves.Move.TheVariants.{Pass, At}
use Rattle.referee.specs.declared.outcome.Outcome.{Outcome}
use Rattle.referee.specs.declared.outcome.Answer.{Answer}
use Rattle.referee.specs.Rules.{seen, mover, move_at, passes_before, Restores, Course, taken_before}

-- the board that a move makes, if it makes one
abbrev pub next_board : ℕ → Near → Colour → Board → Move → Board
next_board n near c b Pass = b
next_board n near c b (At x) = seen (other c) (after n near (seen (other c) b) x)

-- the board that a ko could bring back after a move
abbrev pub before_move : Move → Board → Option Board
before_move Pass b = None
before_move (At x) b = Some b

-- the boards before each move, computed
unfoldable pub boards_of : ℕ → Near → Board → List Move → ℕ → Board
boards_of n near start ms zero = start
boards_of n near start ms (suc k) = next_board n near (mover k) (boards_of n near start ms k) (move_at ms k)

-- what is known after k allowed moves: whose turn it is, the board, the board before the last move if that was a stone,
-- how many passes stand at the end, and how many stones of each colour were taken
pub record StateOf (n : ℕ) (near : Near) (start : Board) (ms : List Move) (k : ℕ) (side : Colour) (board : Board) (before : Option Board) (passes black white : ℕ) : Type 0 where
  pub course : Course n near start ms (boards_of n near start ms) k
  pub side_is : side ≡ mover k
  pub board_is : board ≡ boards_of n near start ms k
  pub ko_to : (d : Board) → Restores ms (boards_of n near start ms) k d → before ≡ Some d
  pub ko_from : (d : Board) → before ≡ Some d → Restores ms (boards_of n near start ms) k d
  pub passes_are : passes ≡ passes_before ms k
  pub black_are : black ≡ taken_before n Black (boards_of n near start ms) k
  pub white_are : white ≡ taken_before n White (boards_of n near start ms) k

-- the answer of an outcome and three counts
abbrev pub report : Outcome → ℕ → ℕ → ℕ → Answer
report o passes black white = record { outcome = o; passes = passes; black_taken = black; white_taken = white }
