-- A stone on a lent board: why it is refused, and what it makes of the bytes. Assumes nothing: these are definitions.
use Rattle.std.specs.Prelude.{◌≡◌, ℕ, ◌<◌, Bool, true, ◌&&◌, List, drop, Some, None, Option, nat_lt, slice_index}
use Rattle.grid.specs.Grid.{points, near}
use Rattle.grid.specs.Refusals.{listed, number_of, unless}
use Rattle.grid.specs.declared.refusal.Refusal.{Refusal}
use Rattle.chains.specs.Board.{State, none, mine, yours, Board}
use Rattle.chains.specs.Computed.{is_state, count, breathing}
use Rattle.chains.specs.Stands.{Stands}
use Rattle.chains.specs.Views.{stone_byte, other, is_point, points_refusal, view}
use Rattle.chains.specs.declared.colour.Colour.{Colour}
use Rattle.play.specs.After.{after}
use Rattle.play.specs.Played.{Played}

-- the byte by which a state is written, as the side of that colour sees it
abbrev pub byte_of : Colour → State → ℕ
byte_of colour none = 46
byte_of colour mine = stone_byte colour
byte_of colour yours = stone_byte (other colour)

-- the board that the bytes write, as the side sees it that does not move
abbrev pub faced : ℕ → ℕ → List ℕ → Colour → Board
faced w h bytes colour = view (points w h) bytes (other colour)

-- the board that a stone of that colour makes of it, as the same side sees it
abbrev pub made : ℕ → ℕ → List ℕ → Colour → ℕ → Board
made w h bytes colour point = after (points w h) (near w h) (faced w h bytes colour) point

-- the first line of a list that applies, and the lines below where none does
abbrev pub or_below : Option (ℕ × ℕ) → Option (ℕ × ℕ) → Option (ℕ × ℕ)
or_below (Some line) rest = Some line
or_below None rest = rest

-- the first line of the list by which a stone of that colour on that point is refused, as the move of that number
abbrev pub stone_refusal : ℕ → ℕ → List ℕ → Colour → ℕ → ℕ → Option (ℕ × ℕ)
stone_refusal w h bytes colour point turn =
    or_below (points_refusal (points w h) bytes)
    (unless (nat_lt point (points w h)) (5, turn)
    (unless (is_state none (faced w h bytes colour point)) (6, turn)
    (unless (breathing (points w h) (near w h) (made w h bytes colour point) yours point) (7, turn)
    None)))

-- a stone is refused by that line, and by the seventh only if no board is the board of the move
pub record StoneRefused (w h : ℕ) (bytes : List ℕ) (colour : Colour) (point turn : ℕ) (e : Refusal) : Type 0 where
  pub line : stone_refusal w h bytes colour point turn ≡ Some (listed e)
  pub no_board : number_of e ≡ 7 → (d : Board) → Played (near w h) (faced w h bytes colour) point d → ⊥

-- whether a stone of the side that does not move was taken off a point
abbrev pub is_taken : State → State → Bool
is_taken before after = is_state mine before && is_state none after

-- a stone is played: the board after is the board of the move, byte for byte, and so many stones were taken
pub record StonePlayed (w h : ℕ) (before : List ℕ) (colour : Colour) (point turn : ℕ) (left : List ℕ) (taken : ℕ) : Type 0 where
  pub allowed : stone_refusal w h before colour point turn ≡ None
  pub played : Played (near w h) (faced w h before colour) point (faced w h left colour)
  pub bytes : (p : ℕ) → p < points w h → slice_index left p ≡ byte_of (other colour) (made w h before colour point p)
  pub written : (p : ℕ) → p < points w h → is_point (slice_index left p) ≡ true
  pub past : drop (points w h) left ≡ drop (points w h) before
  pub captures : taken ≡ count (λ p. is_taken (faced w h before colour p) (faced w h left colour p)) (points w h)
  pub stands : (c : Colour) → Stands w h (view (points w h) before c) → Stands w h (view (points w h) left c)
