-- How a stone is taken, from the bytes of a board. Assumes nothing: these are definitions.
use Rattle.std.specs.Prelude.{◌≡◌, ℕ, not, List, ◌++◌, length, drop, Some, None, Option, nat_le}
use Rattle.grid.specs.Grid.{points, near}
use Rattle.grid.specs.Refusals.{listed, unless}
use Rattle.grid.specs.declared.refusal.Refusal.{Refusal}
use Rattle.grid.specs.declared.refusal.Refusal.TheVariants.{NotShown}
use Rattle.grid.specs.declared.refusal.Untaken.TheVariants.{Marked}
use Rattle.chains.specs.Board.{none, mine, Board}
use Rattle.chains.specs.Computed.{is_state}
use Rattle.chains.specs.Labels.{ChainLabels}
use Rattle.chains.specs.Views.{view}
use Rattle.chains.specs.declared.colour.Colour.{Colour}
use Rattle.chains.specs.declared.colour.Colour.TheVariants.{Black}
use Rattle.play.specs.Played.{Stays}
use Rattle.rooms.specs.Numbered.{RoomLabels}
use Rattle.capture.specs.Row.{RowShown}
use Rattle.notation.specs.Layout.{width_of, height_of, size_points, cells_of, points_lines, lent_lines}

-- the lines of the list on the size and on all lent memory, moves among it, before the lines below them
abbrev pub all_lent_lines : List ℕ → ℕ → ℕ → ℕ → ℕ → Option (ℕ × ℕ) → Option (ℕ × ℕ)
all_lent_lines bytes lent chains rooms moves rest = lent_lines bytes lent chains rooms (unless (nat_le (size_points bytes) moves) (12, 3) rest)

-- the line on a point without a stone: it is empty, as either side sees it
abbrev pub stone_line : Board → ℕ → Option (ℕ × ℕ)
stone_line b point = unless (not (is_state none (b point))) (11, 0) None

-- the first line on the points by which no row is shown, but for the last, that the stone is marked
abbrev pub show_points_refusal : List ℕ → ℕ → Option (ℕ × ℕ)
show_points_refusal bytes point = points_lines bytes (stone_line (view (size_points bytes) (cells_of bytes) Black) point)

-- and before it the lines on the size and on memory
abbrev pub show_bytes_refusal : List ℕ → ℕ → ℕ → ℕ → ℕ → ℕ → Option (ℕ × ℕ)
show_bytes_refusal bytes point lent chains rooms moves = all_lent_lines bytes lent chains rooms moves (show_points_refusal bytes point)

-- the chains of both colours and the rooms of the side of that colour are written, on the board that each side sees so, and nothing past the board
pub record LabelsSeen (w h : ℕ) (view : Colour → Board) (colour : Colour) (old_chains old_rooms chains rooms : List ℕ) : Type 0 where
  pub chained : (side : Colour) → ChainLabels (points w h) (near w h) (view side) chains
  pub roomed : RoomLabels (points w h) (near w h) (view colour) rooms
  pub chains_past : drop (points w h) chains ≡ drop (points w h) old_chains
  pub rooms_past : drop (points w h) rooms ≡ drop (points w h) old_rooms

-- on the board that each side sees so, the first of the moves are a row that takes the stone at the point, and the lent slices hold the chains and the rooms
pub record ShownSo (w h : ℕ) (view : Colour → Board) (point : ℕ) (chains rooms moves chains_after rooms_after moves_after : List ℕ) (count : ℕ) : Type 0 where
  pub colour : Colour
  pub stone : view colour point ≡ mine
  pub row : RowShown w h (view colour) point moves moves_after count
  pub labels : LabelsSeen w h view colour chains rooms chains_after rooms_after

-- the stone at the point stays, whatever the other side plays
pub record StaysSo (w h : ℕ) (view : Colour → Board) (point : ℕ) : Type 0 where
  pub colour : Colour
  pub stone : view colour point ≡ mine
  pub stays : Stays (near w h) (view colour) point

-- refused by the first of these lines, or where none applies because the stone stays
pub data RefusedBy (lines : Option (ℕ × ℕ)) (stays : Type 0) (e : Refusal) : Type 0 where
  by_line : lines ≡ Some (listed e) → RefusedBy lines stays e
  by_mark : lines ≡ None → e ≡ NotShown Marked → stays → RefusedBy lines stays e

-- a row was shown from the bytes
pub record StoneShown (bytes : List ℕ) (point : ℕ) (before chains rooms moves : List ℕ) (count : ℕ) (after chains_after rooms_after moves_after : List ℕ) : Type 0 where
  pub good : show_bytes_refusal bytes point (length before) (length chains) (length rooms) (length moves) ≡ None
  pub holds : after ≡ cells_of bytes ++ drop (size_points bytes) before
  pub so : ShownSo (width_of bytes) (height_of bytes) (view (size_points bytes) (cells_of bytes)) point chains rooms moves chains_after rooms_after moves_after count
