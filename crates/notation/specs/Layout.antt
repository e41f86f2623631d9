-- A board as bytes: its width, its height, then a byte for each point in reading order. Assumes nothing: these are definitions.
use Rattle.std.specs.Prelude.{◌≡◌, ℕ, ◌+◌, ◌-◌, ◌≤◌, min, cond, ◌&&◌, List, ◌++◌, length, take, drop, None, Option, ◌==◌, nat_le, slice_index}
use Rattle.std.specs.List.{prefix_len}
use Rattle.grid.specs.Grid.{points, near}
use Rattle.grid.specs.Refusals.{unless}
use Rattle.grid.specs.Sizes.{side_fits}
use Rattle.grid.specs.declared.size.Size.{Size}
use Rattle.chains.specs.Breath.{first_breathless}
use Rattle.chains.specs.Sized.{count_of}
use Rattle.chains.specs.Views.{is_point, view}
use Rattle.chains.specs.declared.colour.Colour.TheVariants.{Black}
use Rattle.chains.specs.declared.position.Position.{Position}

-- a size byte that is missing counts as 0, which is no size
abbrev pub width_of : List ℕ → ℕ
width_of bytes = slice_index bytes 0

abbrev pub height_of : List ℕ → ℕ
height_of bytes = slice_index bytes 1

-- how many points a board of these bytes has by its size
abbrev pub size_points : List ℕ → ℕ
size_points bytes = points (width_of bytes) (height_of bytes)

-- the bytes after the size
abbrev pub cells_of : List ℕ → List ℕ
cells_of bytes = drop 2 bytes

-- how many points of a board, from the first on, have no stone without a liberty
abbrev pub calm_front : ℕ → ℕ → List ℕ → ℕ
calm_front w h cells = first_breathless (points w h) (near w h) (view (points w h) cells Black)

-- the lines of the list on the points of a board, of which there are as many as it asks for, before the lines below them
abbrev pub cells_lines : ℕ → ℕ → List ℕ → Option (ℕ × ℕ) → Option (ℕ × ℕ)
cells_lines w h cells rest =
    unless (nat_le (points w h) (prefix_len is_point cells)) (3, 2 + prefix_len is_point cells)
    (unless (nat_le (points w h) (calm_front w h cells)) (4, calm_front w h cells)
    rest)

-- the first of them that turns the points away
abbrev pub cells_refusal : ℕ → ℕ → List ℕ → Option (ℕ × ℕ)
cells_refusal w h cells = cells_lines w h cells None

-- the lines on the points, and before them the one on their count
abbrev pub points_lines : List ℕ → Option (ℕ × ℕ) → Option (ℕ × ℕ)
points_lines bytes rest =
    unless (length bytes - 2 == size_points bytes) (2, length bytes - 2)
    (cells_lines (width_of bytes) (height_of bytes) (cells_of bytes) rest)

-- the lines on the size, before the lines below them
abbrev pub size_lines : List ℕ → Option (ℕ × ℕ) → Option (ℕ × ℕ)
size_lines bytes rest = unless (side_fits (width_of bytes)) (1, 0) (unless (side_fits (height_of bytes)) (1, 1) rest)

-- the first of them that turns the size away
abbrev pub size_refusal : List ℕ → Option (ℕ × ℕ)
size_refusal bytes = size_lines bytes None

-- the lines on the size and on the memory lent for points, before the lines below them
abbrev pub read_lines : List ℕ → ℕ → Option (ℕ × ℕ) → Option (ℕ × ℕ)
read_lines bytes lent rest = size_lines bytes (unless (nat_le (size_points bytes) lent) (12, 0) rest)

-- and on the memory lent for chains and rooms
abbrev pub lent_lines : List ℕ → ℕ → ℕ → ℕ → Option (ℕ × ℕ) → Option (ℕ × ℕ)
lent_lines bytes lent chains rooms rest =
    read_lines bytes lent
    (unless (nat_le (size_points bytes) chains) (12, 1)
    (unless (nat_le (size_points bytes) rooms) (12, 2)
    rest))

-- none of them applies to bytes of a board of that size
pub record LentFor (bytes : List ℕ) (lent chains rooms : ℕ) (size : Size) : Type 0 where
  pub width : size.width ≡ width_of bytes
  pub height : size.height ≡ height_of bytes
  pub lent_long : count_of size ≤ lent
  pub chains_long : count_of size ≤ chains
  pub rooms_long : count_of size ≤ rooms
  pub no_line : (rest : Option (ℕ × ℕ)) → lent_lines bytes lent chains rooms rest ≡ rest

-- how many bytes the first of several boards has
abbrev pub first_length : List ℕ → ℕ
first_length bytes = cond (side_fits (width_of bytes) && side_fits (height_of bytes)) (min (2 + size_points bytes) (length bytes)) (length bytes)

-- the first line of the list that turns the bytes of a board away, with so much memory lent for its points
abbrev pub board_refusal : List ℕ → ℕ → Option (ℕ × ℕ)
board_refusal bytes lent = read_lines bytes lent (points_lines bytes None)

-- a board of that size was read from the bytes: the lent memory holds its points, and what it held past them
pub record BoardRead (bytes before : List ℕ) (size : Size) (after : List ℕ) : Type 0 where
  pub good : board_refusal bytes (length before) ≡ None
  pub width : size.width ≡ width_of bytes
  pub height : size.height ≡ height_of bytes
  pub holds : after ≡ cells_of bytes ++ drop (size_points bytes) before

-- the position was made of the points of a board of that size
pub record PointsOf (size : Size) (cells : List ℕ) (position : Position) : Type 0 where
  pub all : length cells ≡ count_of size
  pub good : count_of size ≤ prefix_len is_point cells
  pub sized : position.size ≡ size
  pub same : take (count_of size) position.cells ≡ cells

-- and can stand
pub record MadeOf (size : Size) (cells : List ℕ) (position : Position) : Type 0 where
  pub all : length cells ≡ count_of size
  pub no_line : (rest : Option (ℕ × ℕ)) → cells_lines size.width size.height cells rest ≡ rest
  pub sized : position.size ≡ size
  pub same : take (count_of size) position.cells ≡ cells
