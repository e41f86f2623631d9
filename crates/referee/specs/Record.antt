-- A whole record on a lent board: why it is turned away, and what is made of it. Assumes nothing: these are definitions.
use Rattle.std.specs.Prelude.{◌≡◌, ℕ, ◌%◌, ◌≤◌, List, length, drop, None, Option, ◌==◌, nat_le}
use Rattle.grid.specs.Grid.{points, near}
use Rattle.grid.specs.Refusals.{unless}
use Rattle.grid.specs.declared.size.Size.{Size}
use Rattle.chains.specs.Board.{Board}
use Rattle.chains.specs.Breath.{stand_refusal}
use Rattle.chains.specs.Sized.{count_of, seen}
use Rattle.chains.specs.Stands.{Stands}
use Rattle.chains.specs.Views.{points_refusal, view}
use Rattle.chains.specs.declared.colour.Colour.{Colour}
use Rattle.chains.specs.declared.colour.Colour.TheVariants.{Black}
use Rattle.play.specs.Stone.{or_below}
use Rattle.referee.specs.declared.game.Game.{Game}
use Rattle.referee.specs.declared.outcome.Answer.{Answer}
use Rattle.referee.specs.Game.{board_of, Written, Kept}
use Rattle.referee.specs.Moves.{moves_of}
use Rattle.referee.specs.Rules.{Same, Refereed}

-- the first line of the list by which a record is turned away as a whole: too little memory, an odd number of bytes of moves,
-- a byte that writes no point, a board that cannot stand
abbrev pub record_refusal : ℕ → ℕ → List ℕ → List ℕ → Option (ℕ × ℕ)
record_refusal w h board moves =
    unless (nat_le (points w h) (length board)) (12, 0)
    (unless (length moves % 2 == 0) (2, length moves)
    (or_below (points_refusal (points w h) board)
    (stand_refusal (points w h) (near w h) (board_of w h board))))

-- the board and the moves are not turned away, and this is kept before the first move
pub record Ready (size : Size) (board moves : List ℕ) (game : Game) : Type 0 where
  pub long : count_of size ≤ length board
  pub allowed : record_refusal size.width size.height board moves ≡ None
  pub sized : game.position.size ≡ size
  pub same : seen size game.position.cells Black ≡ seen size board Black
  pub stands : (colour : Colour) → Stands size.width size.height (seen size board colour)
  pub kept : Kept game.position.size (seen game.position.size game.position.cells Black) (moves_of moves) 0 game

-- a record is refereed: the answer and the board left are those of the rules, and no others
pub record RecordRefereed (w h : ℕ) (board moves : List ℕ) (answer : Answer) (left : List ℕ) : Type 0 where
  pub allowed : record_refusal w h board moves ≡ None
  pub rules : Refereed (points w h) (near w h) (board_of w h board) (moves_of moves) answer (board_of w h left)
  pub only : (other : Answer) (final : Board) → Refereed (points w h) (near w h) (board_of w h board) (moves_of moves) other final → (other ≡ answer) × Same final (board_of w h left)
  pub stands : (colour : Colour) → Stands w h (view (points w h) left colour)
  pub written : Written w h left
  pub past : drop (points w h) left ≡ drop (points w h) board
