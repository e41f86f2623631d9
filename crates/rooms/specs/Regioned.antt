-- The rooms of the judged side, in two lent slices and in sets. Assumes nothing: these are definitions.
use Rattle.std.specs.Prelude.{◌≡◌, ℕ, cond, ◌≢◌, List, drop, ◌==◌, slice_index}
use Rattle.grid.specs.declared.size.Size.{Size}
use Rattle.chains.specs.Board.{mine}
use Rattle.chains.specs.Labels.{ChainLabels}
use Rattle.chains.specs.Sized.{count_of, near_of, seen}
use Rattle.chains.specs.declared.colour.Colour.{Colour}
use Rattle.rooms.specs.Numbered.{RoomLabels, VitalRooms, WallRooms}
use Rattle.rooms.specs.Tables.{set_of, holds}
use Rattle.rooms.specs.declared.region_sets.Regions.{Regions}

-- the byte of a point without the other side's stones: an own stone has its own, and every other point is empty
abbrev pub own_byte : ℕ → ℕ → ℕ
own_byte own byte = cond (byte == own) own 46

-- after both slices were written: the chains of both colours, the rooms of the judged side, nothing past the board,
-- and the set for the first point of each own chain holds exactly the rooms that are vital to it, or that have it for a wall
pub record Regioned (size : Size) (cells : List ℕ) (colour : Colour) (old_chains old_rooms chains rooms : List ℕ) (regions : Regions) : Type 0 where
  pub chained : (c : Colour) → ChainLabels (count_of size) (near_of size) (seen size cells c) chains
  pub roomed : RoomLabels (count_of size) (near_of size) (seen size cells colour) rooms
  pub chains_past : drop (count_of size) chains ≡ drop (count_of size) old_chains
  pub rooms_past : drop (count_of size) rooms ≡ drop (count_of size) old_rooms
  pub vital : (p : ℕ) → seen size cells colour p ≡ mine →
      VitalRooms (count_of size) (near_of size) (seen size cells colour) rooms p (set_of regions.vital (slice_index chains p))
  pub walls : (p : ℕ) → seen size cells colour p ≡ mine →
      WallRooms (count_of size) (near_of size) (seen size cells colour) rooms p (set_of regions.walls (slice_index chains p))

-- no own stone has c for its chain
abbrev pub NoChain : Size → List ℕ → Colour → List ℕ → ℕ → Type 0
NoChain size cells colour chains c = (p : ℕ) → seen size cells colour p ≡ mine → slice_index chains p ≢ c

-- the same where sets are written over: those of all numbers that are no own chain hold what they held
pub record RegionsWritten (size : Size) (cells : List ℕ) (colour : Colour) (old_chains old_rooms chains rooms : List ℕ) (old_regions regions : Regions) : Type 0 where
  pub regioned : Regioned size cells colour old_chains old_rooms chains rooms regions
  pub vital_rest : (c i : ℕ) → NoChain size cells colour chains c → holds regions.vital c i ≡ holds old_regions.vital c i
  pub walls_rest : (c i : ℕ) → NoChain size cells colour chains c → holds regions.walls c i ≡ holds old_regions.walls c i
