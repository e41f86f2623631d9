-- How the referee's own variables stand for a record, and what each of its steps comes to. Assumes nothing: these are definitions.
use Rattle.std.specs.Prelude.{◌≡◌, ℕ, ◌+◌, ◌^◌, ◌<◌, ◌≤◌, List, length, Some, None, Option, Ok, Err, Result, slice_index, true}
use Rattle.grid.specs.Grid.{points}
use Rattle.grid.specs.declared.refusal.Refusal.{Refusal}
use Rattle.grid.specs.declared.size.Size.{Size}
use Rattle.chains.specs.Board.{Board}
use Rattle.chains.specs.Sized.{count_of, near_of, seen}
use Rattle.chains.specs.Views.{is_point, view}
use Rattle.chains.specs.declared.colour.Colour.{Colour}
use Rattle.chains.specs.declared.colour.Colour.TheVariants.{Black, White}
use Rattle.chains.specs.declared.position.Position.{Position}
use Rattle.referee.specs.declared.moves.Move.{Move}
use Rattle.referee.specs.declared.outcome.Outcome.{Outcome}
use Rattle.referee.specs.declared.outcome.Outcome.TheVariants.{Refused}
use Rattle.referee.specs.declared.outcome.Answer.{Answer}
use Rattle.referee.specs.declared.game.Taken.{Taken}
use Rattle.referee.specs.declared.game.Game.{Game}
use Rattle.referee.specs.declared.game.Ended.{Ended}
use Rattle.referee.specs.Rules.{move_at, Refereed}
use Rattle.referee.specs.States.{StateOf, report}

-- the board that cells write, as Black sees it
abbrev pub board_of : ℕ → ℕ → List ℕ → Board
board_of w h cells = view (points w h) cells Black

-- every cell of the board writes a point
abbrev pub Written : ℕ → ℕ → List ℕ → Type 0
Written w h cells = (p : ℕ) → p < points w h → is_point (slice_index cells p) ≡ true

-- a position of that size, if there is one
abbrev pub SizedSo : Size → Option Position → Type 0
SizedSo size None = Unit {0}
SizedSo size (Some position) = (position.size ≡ size) × (length position.cells ≡ 361)

-- the board that a ko would bring back, if there is one
abbrev pub ko_board : Size → Option Position → Option Board
ko_board size None = None
ko_board size (Some position) = Some (seen size position.cells Black)

-- what is kept after k allowed moves is what the record says of them
pub record Kept (size : Size) (start : Board) (ms : List Move) (k : ℕ) (game : Game) : Type 0 where
  pub sized : game.position.size ≡ size
  pub before_sized : SizedSo size game.before
  pub state : StateOf (count_of size) (near_of size) start ms k game.side (seen size game.position.cells Black) (ko_board size game.before) game.passes game.taken.black game.taken.white

-- what is kept, where the record has a move k and it is that one
pub record Facing (size : Size) (start : Board) (ms : List Move) (k : ℕ) (game : Game) (next : Move) : Type 0 where
  pub kept : Kept size start ms k game
  pub there : k < length ms
  pub move_is : move_at ms k ≡ next

-- so few stones are taken before move k that they can be counted
pub record Countable (k : ℕ) (game : Game) : Type 0 where
  pub black : game.taken.black ≤ 361 + k
  pub white : game.taken.white ≤ 361 + k
  pub few : k < 2 ^ 63

-- so many more stones of a colour are taken
abbrev pub taken_more : Colour → ℕ → Taken → Taken
taken_more Black more taken = record { black = taken.black + more; white = taken.white }
taken_more White more taken = record { black = taken.black; white = taken.white + more }

-- the answer of a record that ends so
abbrev pub answer_of : Ended → Answer
answer_of ended = report ended.outcome ended.game.passes ended.game.taken.black ended.game.taken.white

-- the record ends so, and the board that is kept is the one that is left
pub record RecordLeft (size : Size) (start : Board) (ms : List Move) (ended : Ended) : Type 0 where
  pub sized : ended.game.position.size ≡ size
  pub rules : Refereed (count_of size) (near_of size) start ms (answer_of ended) (seen size ended.game.position.cells Black)

-- the record ends with that outcome and what is kept
abbrev pub EndsSo : Size → Board → List Move → Game → Outcome → Type 0
EndsSo size start ms game outcome = RecordLeft size start ms (record { game = game; outcome = outcome })

-- what a move comes to: the next one is looked at, or the record ends before it
abbrev pub Turned : Size → Board → List Move → ℕ → Game → Result Game Refusal → Type 0
Turned size start ms k game (Ok next) = Kept size start ms (k + 1) next
Turned size start ms k game (Err e) = EndsSo size start ms game (Refused e)
