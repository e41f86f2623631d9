-- The rounds of the judge, by numbers: a chain and a room go by their first points, and what is left of both is kept in sets of numbers.
-- For each chain there are the set of the rooms that are vital to it and the set of the rooms that have it for a wall.
-- Assumes nothing: these are definitions.
use Rattle.std.specs.Prelude.{◌≡◌, ℕ, ◌<◌, ◌≤◌, true, false, not, ◌&&◌, ◌⊎◌, List, slice_index}
use Rattle.grid.specs.Graph.{Near}
use Rattle.chains.specs.Board.{mine, Board}
use Rattle.rooms.specs.Bits.{member, shared_below}
use Rattle.rooms.specs.Numbered.{VitalRooms, WallRooms, Going}

-- one round, after the chains below k: those chains that have fewer than two vital rooms among the open ones are struck,
-- and then the rooms that have one of these for a wall
pub record Round (vital walls : ℕ → List ℕ) (kept open_rooms : List ℕ) (k : ℕ) (struck later_open : List ℕ) : Type 0 where
  pub below : (c : ℕ) → member struck c ≡ true → c < k
  pub was_kept : (c : ℕ) → member struck c ≡ true → member kept c ≡ true
  pub few : (c : ℕ) → member struck c ≡ true → shared_below 384 (vital c) open_rooms < 2
  pub others : (c : ℕ) → c < k → member kept c ≡ true → (member struck c ≡ true) ⊎ (2 ≤ shared_below 384 (vital c) open_rooms)
  pub was_open : (y : ℕ) → member later_open y ≡ true → member open_rooms y ≡ true
  pub no_wall : (c y : ℕ) → member struck c ≡ true → member later_open y ≡ true → member (walls c) y ≡ false
  pub rooms : (y : ℕ) → member open_rooms y ≡ true → (member later_open y ≡ true) ⊎ ((c : ℕ) × (member struck c ≡ true) × (member (walls c) y ≡ true))

-- rounds one after another over the chains below n, from the sets kept and open_rooms on
pub data Rounds (n : ℕ) (vital walls : ℕ → List ℕ) (kept open_rooms : List ℕ) : List ℕ → List ℕ → Type 0 where
  start : Rounds n vital walls kept open_rooms kept open_rooms
  more : {k o : List ℕ} (struck later_kept later_open : List ℕ) → Rounds n vital walls kept open_rooms k o → Round vital walls k o n struck later_open →
      ((c : ℕ) → member later_kept c ≡ (member k c && not (member struck c))) → Rounds n vital walls kept open_rooms later_kept later_open

-- no chain that is kept has fewer than two vital rooms among the open ones
abbrev pub Enough : ℕ → (ℕ → List ℕ) → List ℕ → List ℕ → Type 0
Enough n vital kept open_rooms = (c : ℕ) → c < n → member kept c ≡ true → 2 ≤ shared_below 384 (vital c) open_rooms

-- for each stone of mine the sets of its chain are those of its vital rooms and of the rooms that it is a wall of
pub record RoomSets (n : ℕ) (near : Near) (b : Board) (chains rooms : List ℕ) (vital walls : ℕ → List ℕ) : Type 0 where
  pub vital_rooms : (p : ℕ) → b p ≡ mine → VitalRooms n near b rooms p (vital (slice_index chains p))
  pub wall_rooms : (p : ℕ) → b p ≡ mine → WallRooms n near b rooms p (walls (slice_index chains p))

-- between two rounds: nothing safe was struck, open rooms have only chains that are kept for walls, and a chain that is kept is one of mine, by its first point
pub record Judging (n : ℕ) (near : Near) (b : Board) (chains rooms kept open_rooms : List ℕ) : Type 0 where
  pub going : Going n near b chains rooms kept open_rooms
  pub first : (c : ℕ) → member kept c ≡ true → (b c ≡ mine) × (slice_index chains c ≡ c)
