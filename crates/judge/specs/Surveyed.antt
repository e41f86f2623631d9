-- What is written of a board that can stand before its rounds begin. Assumes nothing: these are definitions.
use Rattle.std.specs.Prelude.{ℕ, List}
use Rattle.grid.specs.declared.size.Size.{Size}
use Rattle.chains.specs.Labels.{ChainLabels}
use Rattle.chains.specs.Sized.{count_of, near_of, seen}
use Rattle.chains.specs.Stands.{Stands}
use Rattle.chains.specs.declared.colour.Colour.{Colour}
use Rattle.rooms.specs.Numbered.{RoomLabels}
use Rattle.rooms.specs.Tables.{set_of}
use Rattle.rooms.specs.declared.room_set.RoomSet.{RoomSet}
use Rattle.judge.specs.Round.{RoomSets}

-- the board can stand, the labels are those of its chains and of the rooms of that colour, and the sets are those of each chain
pub record Surveyed (size : Size) (cells : List ℕ) (colour : Colour) (chains rooms : List ℕ) (vital walls : List RoomSet) : Type 0 where
  pub stands : Stands size.width size.height (seen size cells colour)
  pub chained : ChainLabels (count_of size) (near_of size) (seen size cells colour) chains
  pub parted : RoomLabels (count_of size) (near_of size) (seen size cells colour) rooms
  pub sets : RoomSets (count_of size) (near_of size) (seen size cells colour) chains rooms (set_of vital) (set_of walls)
