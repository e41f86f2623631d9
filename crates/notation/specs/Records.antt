-- A record as bytes: a board, then two bytes for each move. Assumes nothing: these are definitions.
use Rattle.std.specs.Prelude.{◌≡◌, ℕ, ◌-◌, ◌%◌, ◌<◌, true, List, length, take, drop, None, Option, ◌==◌, nat_le, slice_index}
use Rattle.grid.specs.Grid.{near}
use Rattle.grid.specs.Refusals.{unless}
use Rattle.chains.specs.Views.{is_point, view}
use Rattle.chains.specs.declared.colour.Colour.TheVariants.{Black}
use Rattle.referee.specs.Moves.{moves_of}
use Rattle.referee.specs.Rules.{Refereed}
use Rattle.notation.specs.Layout.{width_of, height_of, size_points, cells_of, cells_refusal, read_lines}
use Rattle.notation.specs.declared.record.Answered.{Answered}

-- the bytes of the points
abbrev pub record_cells : List ℕ → List ℕ
record_cells bytes = take (size_points bytes) (cells_of bytes)

-- the bytes of the moves: what follows the points
abbrev pub record_moves : List ℕ → List ℕ
record_moves bytes = drop (size_points bytes) (cells_of bytes)

-- the first line of the list that turns the bytes of a record away, with so much memory lent for its points
abbrev pub record_bytes_refusal : List ℕ → ℕ → Option (ℕ × ℕ)
record_bytes_refusal bytes lent =
    read_lines bytes lent
    (unless (nat_le (size_points bytes) (length bytes - 2)) (2, length bytes - 2)
    (unless (length (record_moves bytes) % 2 == 0) (2, length (record_moves bytes))
    (cells_refusal (width_of bytes) (height_of bytes) (record_cells bytes))))

-- a record was refereed from the bytes: the answer and the board left are those of the rules
pub record RecordAnswered (bytes before : List ℕ) (answered : Answered) (after : List ℕ) : Type 0 where
  pub good : record_bytes_refusal bytes (length before) ≡ None
  pub width : answered.size.width ≡ width_of bytes
  pub height : answered.size.height ≡ height_of bytes
  pub rules : Refereed (size_points bytes) (near (width_of bytes) (height_of bytes)) (view (size_points bytes) (record_cells bytes) Black) (moves_of (record_moves bytes)) answered.answer (view (size_points bytes) after Black)
  pub written : (p : ℕ) → p < size_points bytes → is_point (slice_index after p) ≡ true
  pub past : drop (size_points bytes) after ≡ drop (size_points bytes) before
