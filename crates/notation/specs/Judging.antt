-- A board's judgement from its bytes. Assumes nothing: these are definitions.
use Rattle.std.specs.Prelude.{◌≡◌, ℕ, ◌≤◌, Bool, false, List, ◌++◌, length, get_or, drop, None, Option, slice_index_or}
use Rattle.grid.specs.declared.size.Size.{Size}
use Rattle.chains.specs.Board.{Board}
use Rattle.chains.specs.Labels.{ChainLabels}
use Rattle.chains.specs.Sized.{count_of, near_of, seen}
use Rattle.chains.specs.declared.colour.Colour.{Colour}
use Rattle.rooms.specs.Numbered.{RoomLabels}
use Rattle.judge.specs.Promise.{Judges}
use Rattle.notation.specs.Layout.{width_of, height_of, size_points, cells_of, points_lines, lent_lines}
use Rattle.notation.specs.declared.judging.Judged.{Judged}

-- the first line of the list that turns the bytes of a board away, with so much memory lent for points, chains and rooms
abbrev pub judge_bytes_refusal : List ℕ → ℕ → ℕ → ℕ → Option (ℕ × ℕ)
judge_bytes_refusal bytes lent chains rooms = lent_lines bytes lent chains rooms (points_lines bytes None)

-- the marks are the judgement of that colour on the board that each side sees so, and the lent slices hold the chains and the rooms
pub record JudgedSo (size : Size) (view : Colour → Board) (colour : Colour) (marked : List Bool) (chains rooms chains_after rooms_after : List ℕ) : Type 0 where
  pub right : Judges size.width size.height (view colour) (λ p. get_or marked p false)
  pub past : (p : ℕ) → count_of size ≤ p → slice_index_or marked p false ≡ false
  pub entries : length marked ≡ 361
  pub chained : (side : Colour) → ChainLabels (count_of size) (near_of size) (view side) chains_after
  pub roomed : RoomLabels (count_of size) (near_of size) (view colour) rooms_after
  pub chains_past : drop (count_of size) chains_after ≡ drop (count_of size) chains
  pub rooms_past : drop (count_of size) rooms_after ≡ drop (count_of size) rooms

-- a board was judged from the bytes
pub record BoardJudged (bytes : List ℕ) (colour : Colour) (before chains rooms : List ℕ) (judged : Judged) (after chains_after rooms_after : List ℕ) : Type 0 where
  pub good : judge_bytes_refusal bytes (length before) (length chains) (length rooms) ≡ None
  pub width : judged.size.width ≡ width_of bytes
  pub height : judged.size.height ≡ height_of bytes
  pub holds : after ≡ cells_of bytes ++ drop (size_points bytes) before
  pub so : JudgedSo judged.size (seen judged.size (cells_of bytes)) colour judged.marks.marked chains rooms chains_after rooms_after
