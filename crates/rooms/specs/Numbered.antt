-- The striking by numbers: a chain and a room go by their first points, and what is left of both is kept in sets of numbers.
-- Assumes nothing: these are definitions.
use Rattle.std.specs.Prelude.{◌≡◌, ℕ, ◌<◌, ◌≤◌, true, ◌&&◌, List, slice_index, slice_index_or}
use Rattle.grid.specs.Graph.{Near}
use Rattle.chains.specs.Board.{mine, Board}
use Rattle.chains.specs.Computed.{is_state}
use Rattle.rooms.specs.Bits.{member}
use Rattle.rooms.specs.Regions.{not_mine, OneRoom}
use Rattle.rooms.specs.Safe.{Marks}
use Rattle.rooms.specs.Striking.{Wall, VitalTo, WallsIn, SoundSoFar}

-- the entry of each point without a stone of mine is the first point of its room, and that of a stone of mine 65,535;
-- so points have one entry exactly if they are of one room
pub record RoomLabels (n : ℕ) (near : Near) (b : Board) (labels : List ℕ) : Type 0 where
  pub own : (p : ℕ) → p < n → b p ≡ mine → slice_index labels p ≡ 65535
  pub linked : (y : ℕ) → y < n → not_mine b y ≡ true → OneRoom near b y (slice_index labels y)
  pub least : (y z : ℕ) → y < n → OneRoom near b y z → slice_index labels y ≤ z
  pub one_entry : (y z : ℕ) → y < n → OneRoom near b y z → slice_index labels y ≡ slice_index labels z
  pub same_room : (y z : ℕ) → y < n → z < n → not_mine b y ≡ true → not_mine b z ≡ true → slice_index labels y ≡ slice_index labels z → OneRoom near b y z

-- a room, by its first point
pub record IsFirst (n : ℕ) (b : Board) (labels : List ℕ) (i : ℕ) : Type 0 where
  pub below : i < n
  pub clear : not_mine b i ≡ true
  pub first : slice_index_or labels i 0 ≡ i

-- the set holds exactly the rooms that are vital to the chain of c
pub record VitalRooms (n : ℕ) (near : Near) (b : Board) (labels : List ℕ) (c : ℕ) (words : List ℕ) : Type 0 where
  pub is_room : (i : ℕ) → member words i ≡ true → IsFirst n b labels i
  pub sound : (i : ℕ) → member words i ≡ true → VitalTo near b c i
  pub complete : (y : ℕ) → y < n → VitalTo near b c y → member words (slice_index labels y) ≡ true

-- the set holds exactly the rooms that have the chain of c for a wall
pub record WallRooms (n : ℕ) (near : Near) (b : Board) (labels : List ℕ) (c : ℕ) (words : List ℕ) : Type 0 where
  pub is_room : (i : ℕ) → member words i ≡ true → IsFirst n b labels i
  pub sound : (i : ℕ) → member words i ≡ true → Wall near b c i
  pub complete : (y : ℕ) → y < n → Wall near b c y → member words (slice_index labels y) ≡ true

-- the stones of mine whose chain is in the set
abbrev pub kept_by : Board → List ℕ → List ℕ → Marks
kept_by b labels words p = is_state mine (b p) && member words (slice_index labels p)

-- the points whose room is in the set
abbrev pub open_by : List ℕ → List ℕ → Marks
open_by labels words y = member words (slice_index labels y)

-- between two strikes: nothing safe was struck, and open rooms have only chains that are kept for walls
pub record Going (n : ℕ) (near : Near) (b : Board) (chains rooms kept open_rooms : List ℕ) : Type 0 where
  pub sound : SoundSoFar n near b (kept_by b chains kept) (open_by rooms open_rooms)
  pub walls : (y : ℕ) → y < n → open_by rooms open_rooms y ≡ true → WallsIn near b (kept_by b chains kept) y
