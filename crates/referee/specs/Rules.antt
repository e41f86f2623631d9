-- The rules of a record: turns, passes, ko, the end and the refusals, by the list of its moves and the boards that come of them.
-- Assumes nothing: these are definitions.
use Rattle.std.specs.Prelude.{◌≡◌, ℕ, zero, suc, ◌+◌, ◌<◌, ◌≤◌, ◌&&◌, ◌≢◌, List, length, slice_index_or}
use Rattle.grid.specs.Graph.{Near}
use Rattle.grid.specs.Refusals.{number_of}
use Rattle.grid.specs.declared.refusal.Refusal.{Refusal}
use Rattle.grid.specs.declared.refusal.Refusal.TheVariants.{OffBoard, Occupied, Suicide, Ko, AfterEnd}
use Rattle.chains.specs.Board.{State, none, mine, yours, Board}
use Rattle.chains.specs.Computed.{is_state, count}
use Rattle.chains.specs.Views.{other}
use Rattle.chains.specs.declared.colour.Colour.{Colour}
use Rattle.chains.specs.declared.colour.Colour.TheVariants.{Black, White}
use Rattle.play.specs.Played.{Played}
use Rattle.referee.specs.declared.moves.Move.{Move}
use Rattle.referee.specs.declared.moves.Move.TheVariants.{Pass, At}
use Rattle.referee.specs.declared.outcome.Outcome.{Outcome}
use Rattle.referee.specs.declared.outcome.Outcome.TheVariants.{ToMove, Over, Refused}
use Rattle.referee.specs.declared.outcome.Answer.{Answer}

-- what stands on a point, to the other side
abbrev pub turned : State → State
turned none = none
turned mine = yours
turned yours = mine

-- what stands on a point as the side of that colour sees it, where it is written as Black sees it
abbrev pub as_seen : Colour → State → State
as_seen Black s = s
as_seen White s = turned s

-- the board as the side of that colour sees it; the boards of a record are written as Black sees them
abbrev pub seen : Colour → Board → Board
seen colour b q = as_seen colour (b q)

-- two boards agree at every point
abbrev pub Same : Board → Board → Type 0
Same b d = (q : ℕ) → b q ≡ d q

-- the side that makes move k: Black makes move 0, and the sides take turns, passes included
unfoldable pub mover : ℕ → Colour
mover zero = Black
mover (suc k) = other (mover k)

-- move k of the record
abbrev pub move_at : List Move → ℕ → Move
move_at ms k = slice_index_or ms k Pass

-- how many passes stand in a row after one more move
abbrev pub passes_with : Move → ℕ → ℕ
passes_with Pass passes = suc passes
passes_with (At x) passes = 0

-- how many passes stand in a row directly before move k
unfoldable pub passes_before : List Move → ℕ → ℕ
passes_before ms zero = 0
passes_before ms (suc k) = passes_with (move_at ms k) (passes_before ms k)

-- a stone of that side at x makes d of b, as the side sees it that does not move
abbrev pub PlayedBy : Near → Colour → Board → ℕ → Board → Type 0
PlayedBy near colour b x d = Played near (seen (other colour) b) x (seen (other colour) d)

-- the move of that side makes d of b: a pass leaves the board as it is
abbrev pub Makes : Near → Colour → Board → Move → Board → Type 0
Makes near colour b Pass d = Same d b
Makes near colour b (At x) d = PlayedBy near colour b x d

-- the move directly before move k was a stone, and d is the board before it
abbrev pub Restores : List Move → (ℕ → Board) → ℕ → Board → Type 0
Restores ms boards zero d = ⊥
Restores ms boards (suc k) d = (x : ℕ) × (move_at ms k ≡ At x) × Same d (boards k)

-- what is wrong with move k, where boards k is the board before it
pub data Fault (n : ℕ) (near : Near) (ms : List Move) (boards : ℕ → Board) (k : ℕ) : Refusal → Type 0 where
  -- its point is not there
  off_board : (x : ℕ) → move_at ms k ≡ At x → n ≤ x → Fault n near ms boards k (OffBoard k)
  -- a stone stands on its point
  occupied : (x : ℕ) → move_at ms k ≡ At x → boards k x ≢ none → Fault n near ms boards k (Occupied k)
  -- no board comes of it: its own chain would not breathe
  suicide : (x : ℕ) → move_at ms k ≡ At x → ((d : Board) → PlayedBy near (mover k) (boards k) x d → ⊥) → Fault n near ms boards k (Suicide k)
  -- the board that comes of it is the board before the other side's stone just played
  ko : (x : ℕ) (d : Board) → move_at ms k ≡ At x → PlayedBy near (mover k) (boards k) x d → Restores ms boards k d → Fault n near ms boards k (Ko k)
  -- stone or pass, it comes after two passes
  after_end : 2 ≤ passes_before ms k → Fault n near ms boards k (AfterEnd k)

-- the fault of move k that comes first in the list of refusals
pub record FirstFault (n : ℕ) (near : Near) (ms : List Move) (boards : ℕ → Board) (k : ℕ) (r : Refusal) : Type 0 where
  pub found : Fault n near ms boards k r
  pub first : (s : Refusal) → Fault n near ms boards k s → number_of r ≤ number_of s

-- move k is allowed, and makes boards (k + 1) of boards k
pub record Allowed (n : ℕ) (near : Near) (ms : List Move) (boards : ℕ → Board) (k : ℕ) : Type 0 where
  pub faultless : (r : Refusal) → Fault n near ms boards k r → ⊥
  pub makes : Makes near (mover k) (boards k) (move_at ms k) (boards (suc k))

-- the course of the first k moves: all are allowed, and boards j is the board after j of them
pub record Course (n : ℕ) (near : Near) (start : Board) (ms : List Move) (boards : ℕ → Board) (k : ℕ) : Type 0 where
  pub begins : Same (boards 0) start
  pub goes : (j : ℕ) → j < k → Allowed n near ms boards j

-- what comes after the first k moves, if these are allowed
pub data Ending (n : ℕ) (near : Near) (ms : List Move) (boards : ℕ → Board) (k : ℕ) : Outcome → Type 0 where
  -- no move, and it is a side's turn
  to_move : k ≡ length ms → passes_before ms k < 2 → Ending n near ms boards k (ToMove (mover k))
  -- no move, and the last two are passes
  over : k ≡ length ms → passes_before ms k ≡ 2 → Ending n near ms boards k Over
  -- a move with a fault
  refused : (r : Refusal) → k < length ms → FirstFault n near ms boards k r → Ending n near ms boards k (Refused r)

-- how many stones of that colour leave the board from b to d
unfoldable pub leaves : ℕ → Colour → Board → Board → ℕ
leaves n colour b d = count (λ q. is_state mine (seen colour b q) && is_state none (d q)) n

-- how many stones of that colour the moves before move k take
unfoldable pub taken_before : ℕ → Colour → (ℕ → Board) → ℕ → ℕ
taken_before n colour boards zero = 0
taken_before n colour boards (suc k) = taken_before n colour boards k + leaves n colour (boards k) (boards (suc k))

-- the record's answer and the board that is left: its moves are followed up to the first that is not allowed
pub record Refereed (n : ℕ) (near : Near) (start : Board) (ms : List Move) (answer : Answer) (final : Board) : Type 0 where
  pub boards : ℕ → Board
  pub moves : ℕ
  pub course : Course n near start ms boards moves
  pub ending : Ending n near ms boards moves answer.outcome
  pub left : Same final (boards moves)
  pub passes : answer.passes ≡ passes_before ms moves
  pub black : answer.black_taken ≡ taken_before n Black boards moves
  pub white : answer.white_taken ≡ taken_before n White boards moves
