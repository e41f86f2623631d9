-- A row of moves while it is written, and what the board has come to. Assumes nothing: these are definitions.
use Rattle.std.specs.Prelude.{◌≡◌, ℕ, ◌<◌, ◌≤◌, Bool, true, ◌&&◌, List, take, drop, ◌≢◌}
use Rattle.grid.specs.Graph.{Near}
use Rattle.grid.specs.Grid.{points}
use Rattle.chains.specs.Board.{none, mine, Board}
use Rattle.chains.specs.Computed.{is_state, count}
use Rattle.chains.specs.Sized.{count_of, near_of, seen}
use Rattle.chains.specs.Stands.{Stands}
use Rattle.play.specs.Played.{Plays, Inside}
use Rattle.rooms.specs.Safe.{Marks, Safe}
use Rattle.judge.specs.Frame.{Frame}
use Rattle.judge.specs.Promise.{Shows}
use Rattle.capture.specs.Target.{Aimed}
use Rattle.capture.specs.declared.capturing.Row.{Row}
use Rattle.capture.specs.declared.target.Target.{Target}

-- the board that the row has led to, as the side sees it whose stones are taken
abbrev pub board_of : Row → Board
board_of row = seen row.position.size row.position.cells row.colour

-- the moves so far are on the board, they were played from board b one after the other while that side passes, and they have led to the row's board
pub record SoFar (b : Board) (row : Row) : Type 0 where
  pub stands : Stands row.position.size.width row.position.size.height (board_of row)
  pub plays : Plays (near_of row.position.size) b (take row.played row.moves) (board_of row)
  pub inside : Inside (count_of row.position.size) (take row.played row.moves)
  pub fits : row.played ≤ count_of row.position.size

-- from some board
abbrev pub SomeRow : Row → Type 0
SomeRow row = (b : Board) × SoFar b row

-- whatever board the row began with, it goes on to this one, on a board of the same size
pub record RowGoesOn (row later : Row) : Type 0 where
  pub sized : later.position.size ≡ row.position.size
  pub so_far : (b : Board) → SoFar b row → SoFar b later

-- the chain of c, which is mine on board b, is taken on board d, and only its liberties were played
pub record Captured (n : ℕ) (near : Near) (b : Board) (c : ℕ) (d : Board) : Type 0 where
  pub below : c < n
  pub was : b c ≡ mine
  pub frame : Frame near b c d
  pub gone : d c ≡ none

-- so it is from one board of the row to a later one
abbrev pub RowCaptures : ℕ → Row → Row → Type 0
RowCaptures c row later = Captured (count_of row.position.size) (near_of row.position.size) (board_of row) c (board_of later)

-- some chain is taken
abbrev pub SomeCaptured : Row → Row → Type 0
SomeCaptured row later = (c : ℕ) × RowCaptures c row later

-- no safe marks hold the stone at p
abbrev pub Unheld : Near → Board → ℕ → Type 0
Unheld near b p = (s : Marks) → Safe near b s → s p ≢ true

-- board d has come from board b, on which the chain was chosen, while only its liberties were played
pub record Phase (n : ℕ) (near : Near) (b : Board) (t : Target) (d : Board) : Type 0 where
  pub aimed : Aimed n near b t.chain t.chains t.rooms t.vital.words
  pub frame : Frame near b t.chain d

-- the row's board is such a one
abbrev pub InPhase : Board → Target → Row → Type 0
InPhase b t row = Phase (count_of row.position.size) (near_of row.position.size) b t (board_of row)

-- whether a point is empty on both boards
abbrev pub empty_both : Board → Board → ℕ → Bool
empty_both b d p = is_state none (b p) && is_state none (d p)

-- one move later: fewer points are empty on both boards
pub record Nearer (n : ℕ) (near : Near) (b : Board) (t : Target) (d e : Board) : Type 0 where
  pub phase : Phase n near b t e
  pub fewer : count (empty_both b e) n < count (empty_both b d) n

-- whatever the board was on which the chain was chosen
abbrev pub ComesNearer : Target → Row → Row → Type 0
ComesNearer t row later = (b : Board) → InPhase b t row → Nearer (count_of row.position.size) (near_of row.position.size) b t (board_of row) (board_of later)

-- a stone is on the row's board that no safe marks hold
pub record SomeUnheld (row : Row) : Type 0 where
  pub point : ℕ
  pub stone : board_of row point ≡ mine
  pub unheld : Unheld (near_of row.position.size) (board_of row) point

-- the first k entries are a row of moves on the board that takes the stone at p, and past them the entries are those that were lent
pub record RowShown (w h : ℕ) (b : Board) (p : ℕ) (lent moves : List ℕ) (k : ℕ) : Type 0 where
  pub shows : Shows w h b p (take k moves)
  pub inside : Inside (points w h) (take k moves)
  pub fits : k ≤ points w h
  pub past : drop k moves ≡ drop k lent
