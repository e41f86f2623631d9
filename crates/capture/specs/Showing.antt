-- Showing how a stone is taken: why not, and what is written. Assumes nothing: these are definitions.
use Rattle.std.specs.Prelude.{◌≡◌, ℕ, ◌≤◌, ◌⊎◌, List, length, drop, is_some, Some, None, Option, nat_le}
use Rattle.grid.specs.Refusals.{listed, unless}
use Rattle.grid.specs.declared.refusal.Refusal.{Refusal}
use Rattle.grid.specs.declared.refusal.Refusal.TheVariants.{NotShown}
use Rattle.grid.specs.declared.refusal.Untaken.TheVariants.{Marked}
use Rattle.grid.specs.declared.size.Size.{Size}
use Rattle.chains.specs.Board.{mine}
use Rattle.chains.specs.Breath.{first_breathless}
use Rattle.chains.specs.Labels.{ChainLabels}
use Rattle.chains.specs.Sized.{count_of, near_of, seen}
use Rattle.chains.specs.Stands.{Stands}
use Rattle.chains.specs.Views.{standing}
use Rattle.chains.specs.declared.colour.Colour.{Colour}
use Rattle.chains.specs.declared.colour.Colour.TheVariants.{Black}
use Rattle.play.specs.Played.{Stays}
use Rattle.rooms.specs.Numbered.{RoomLabels}
use Rattle.capture.specs.Row.{RowShown}

-- the lent memory is too short, or a stone has no liberty: the first line that applies, and else the lines below.
-- Which stones have liberties is the same seen from either side
abbrev pub memory_refusal : Size → List ℕ → ℕ → ℕ → ℕ → Option (ℕ × ℕ) → Option (ℕ × ℕ)
memory_refusal size cells chains rooms moves rest =
    unless (nat_le (count_of size) chains) (12, 1)
    (unless (nat_le (count_of size) rooms) (12, 2)
    (unless (nat_le (count_of size) moves) (12, 3)
    (unless (nat_le (count_of size) (first_breathless (count_of size) (near_of size) (seen size cells Black))) (4, first_breathless (count_of size) (near_of size) (seen size cells Black))
    rest)))

-- and then that no stone stands at the point
abbrev pub show_refusal : Size → List ℕ → ℕ → ℕ → ℕ → ℕ → Option (ℕ × ℕ)
show_refusal size cells point chains rooms moves = memory_refusal size cells chains rooms moves (unless (is_some (standing (count_of size) cells point)) (11, 0) None)

-- the lent memory reaches over the board, and the board can stand
pub record Fitting (size : Size) (cells : List ℕ) (chains rooms moves : ℕ) : Type 0 where
  pub chains_long : count_of size ≤ chains
  pub rooms_long : count_of size ≤ rooms
  pub moves_long : count_of size ≤ moves
  pub stands : (colour : Colour) → Stands size.width size.height (seen size cells colour)
  pub no_line : (rest : Option (ℕ × ℕ)) → memory_refusal size cells chains rooms moves rest ≡ rest

-- none of these lines applies: the stone at the point has that colour
pub record Admitted (size : Size) (cells : List ℕ) (point chains rooms moves : ℕ) (colour : Colour) : Type 0 where
  pub fitting : Fitting size cells chains rooms moves
  pub no_line : show_refusal size cells point chains rooms moves ≡ None
  pub there : standing (count_of size) cells point ≡ Some colour
  pub stone : seen size cells colour point ≡ mine

-- the chains of both colours and the rooms of the side of that colour are written, and nothing past the board
pub record LabelsWritten (size : Size) (cells : List ℕ) (colour : Colour) (old_chains old_rooms chains rooms : List ℕ) : Type 0 where
  pub chained : (side : Colour) → ChainLabels (count_of size) (near_of size) (seen size cells side) chains
  pub roomed : RoomLabels (count_of size) (near_of size) (seen size cells colour) rooms
  pub chains_past : drop (count_of size) chains ≡ drop (count_of size) old_chains
  pub rooms_past : drop (count_of size) rooms ≡ drop (count_of size) old_rooms

-- no line of the list applies, the stone at the point has that colour, and the first k entries of the moves are a row that takes it
pub record Shown (size : Size) (cells : List ℕ) (point : ℕ) (old_chains old_rooms old_moves chains rooms moves : List ℕ) (k : ℕ) : Type 0 where
  pub colour : Colour
  pub no_line : show_refusal size cells point (length old_chains) (length old_rooms) (length old_moves) ≡ None
  pub there : standing (count_of size) cells point ≡ Some colour
  pub row : RowShown size.width size.height (seen size cells colour) point old_moves moves k
  pub labels : LabelsWritten size cells colour old_chains old_rooms chains rooms

-- the refusal of a stone that can't be taken though its side passes for ever
pub record IsMarked (size : Size) (cells : List ℕ) (point : ℕ) (colour : Colour) (e : Refusal) : Type 0 where
  pub is : e ≡ NotShown Marked
  pub stays : Stays (near_of size) (seen size cells colour) point

-- no line of the list applies, and the stone at the point is such a one
pub record MarkedStone (size : Size) (cells : List ℕ) (point chains rooms moves : ℕ) (e : Refusal) : Type 0 where
  pub colour : Colour
  pub no_line : show_refusal size cells point chains rooms moves ≡ None
  pub there : standing (count_of size) cells point ≡ Some colour
  pub marked : IsMarked size cells point colour e

-- why no row is shown: the first line that applies, or that the stone is marked
abbrev pub Unshown : Size → List ℕ → ℕ → ℕ → ℕ → ℕ → Refusal → Type 0
Unshown size cells point chains rooms moves e = (Some (listed e) ≡ show_refusal size cells point chains rooms moves) ⊎ MarkedStone size cells point chains rooms moves e
