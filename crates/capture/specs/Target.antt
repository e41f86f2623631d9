-- The chain that is taken next, and which of its liberties is played next. Assumes nothing: these are definitions.
use Rattle.std.specs.Prelude.{◌≡◌, ℕ, ◌<◌, Bool, true, false, ◌&&◌, ◌⊎◌, List, Some, None, Option, ◌==◌, nat_lt, slice_index, slice_index_or}
use Rattle.grid.specs.Graph.{Near}
use Rattle.chains.specs.Board.{mine, Board}
use Rattle.chains.specs.Labels.{ChainLabels}
use Rattle.chains.specs.Views.{is_stone}
use Rattle.rooms.specs.Bits.{member}
use Rattle.rooms.specs.Numbered.{RoomLabels, VitalRooms}
use Rattle.rooms.specs.Regions.{FewRooms}
use Rattle.rooms.specs.Safe.{Marks, Safe}
use Rattle.capture.specs.declared.target.Target.{Target}

-- what is written of a board: the labels of its chains and rooms, and for each chain of mine, under its label, the set of its vital rooms
pub record Surveyed (n : ℕ) (near : Near) (b : Board) (chains rooms : List ℕ) (sets : ℕ → List ℕ) : Type 0 where
  pub chain_labels : ChainLabels n near b chains
  pub room_labels : RoomLabels n near b rooms
  pub vital_rooms : (p : ℕ) → b p ≡ mine → VitalRooms n near b rooms p (sets (slice_index chains p))

-- a chain of mine with at most one vital room, by its first point, and what was written of the board when it was chosen
pub record Aimed (n : ℕ) (near : Near) (b : Board) (chain : ℕ) (chains rooms vital : List ℕ) : Type 0 where
  pub below : chain < n
  pub stone : b chain ≡ mine
  pub few : FewRooms near b chain
  pub named : slice_index_or chains chain 0 ≡ chain
  pub chain_labels : ChainLabels n near b chains
  pub room_labels : RoomLabels n near b rooms
  pub vital_rooms : VitalRooms n near b rooms chain vital

-- whether the point had the label when the chains were labelled
abbrev pub has_label : List ℕ → ℕ → ℕ → Bool
has_label chains chain q = nat_lt q 361 && slice_index chains q == chain

-- the point is beside a stone that had the label when the chains were labelled
pub record Touch (near : Near) (chains : List ℕ) (chain p : ℕ) : Type 0 where
  pub stone : ℕ
  pub next : near p stone ≡ true
  pub label : slice_index_or chains stone 0 ≡ chain

-- and is empty now
pub record OpenTouch (near : Near) (cells chains : List ℕ) (chain p : ℕ) : Type 0 where
  pub empty : is_stone (slice_index cells p) ≡ false
  pub touch : Touch near chains chain p

-- such a point whose room was not vital to the chain, or any where the rooms of all such points were vital
pub record NextLiberty (n : ℕ) (near : Near) (cells chains rooms vital : List ℕ) (chain p : ℕ) : Type 0 where
  pub below : p < n
  pub free : OpenTouch near cells chains chain p
  pub choice : (member vital (slice_index rooms p) ≡ false) ⊎ ((z : ℕ) → z < n → OpenTouch near cells chains chain z → member vital (slice_index rooms z) ≡ true)

-- the liberty that is found, or that there is none
abbrev pub NextOrNone : ℕ → Near → List ℕ → List ℕ → List ℕ → List ℕ → ℕ → Option ℕ → Type 0
NextOrNone n near cells chains rooms vital chain None = (z : ℕ) → z < n → OpenTouch near cells chains chain z → ⊥
NextOrNone n near cells chains rooms vital chain (Some p) = NextLiberty n near cells chains rooms vital chain p

-- safe marks hold each stone of mine
abbrev pub AllHeld : Near → Board → Type 0
AllHeld near b = (p : ℕ) → b p ≡ mine → (s : Marks) × Safe near b s × (s p ≡ true)

-- the chain that is taken next, or that all stones are held
abbrev pub AimedOrHeld : ℕ → Near → Board → Option Target → Type 0
AimedOrHeld n near b None = AllHeld near b
AimedOrHeld n near b (Some t) = Aimed n near b t.chain t.chains t.rooms t.vital.words
