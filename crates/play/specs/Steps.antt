-- What is read of lent bytes before a stone is played on them, and which stones are counted. Assumes nothing: these are definitions.
use Rattle.std.specs.Prelude.{◌≡◌, ℕ, ◌<◌, ◌≤◌, Bool, true, false, ◌&&◌, List, length, take, ◌==◌, slice_index}
use Rattle.std.specs.List.{prefix_len}
use Rattle.grid.specs.Grid.{points}
use Rattle.chains.specs.Views.{is_point, is_stone}

-- the cells hold the points that the bytes write
pub record PointsRead (w h : ℕ) (bytes cells : List ℕ) : Type 0 where
  pub long : points w h ≤ length bytes
  pub front : points w h ≤ prefix_len is_point (take (points w h) bytes)
  pub same : (p : ℕ) → p < points w h → slice_index cells p ≡ slice_index bytes p
  pub good : (p : ℕ) → p < points w h → is_point (slice_index cells p) ≡ true

-- the point is there and no stone stands on it
pub record Free (w h : ℕ) (cells : List ℕ) (point : ℕ) : Type 0 where
  pub inside : point < points w h
  pub empty : is_stone (slice_index cells point) ≡ false

-- whether a byte of a stone became that of an empty point
abbrev pub byte_taken : ℕ → ℕ → ℕ → Bool
byte_taken gone before after = before == gone && after == 46
