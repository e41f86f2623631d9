-- Striking: chains that have too few rooms and rooms that have a struck chain among their walls are struck, until nothing is struck any more.
-- The state is two sets: the stones whose chain is kept, and the points whose room is open (not struck). Assumes nothing: these are definitions.
use Rattle.std.specs.Prelude.{◌≡◌, ℕ, ◌<◌, true, false, ◌⊎◌}
use Rattle.grid.specs.Graph.{Near}
use Rattle.chains.specs.Board.{none, mine, Board}
use Rattle.rooms.specs.Regions.{not_mine, OneRoom, Beside, AllBeside}
use Rattle.rooms.specs.Safe.{Marks, Safe}

-- the chain of c is one of the walls of the room of y: some point of the room, empty or not, is beside it
pub record Wall (near : Near) (b : Board) (c y : ℕ) : Type 0 where
  pub point : ℕ
  pub inside : OneRoom near b y point
  pub beside : Beside near b c point

-- the room of y is vital to the chain of c: it has an empty point, and every empty point of it is beside the chain
pub record VitalTo (near : Near) (b : Board) (c y : ℕ) : Type 0 where
  pub point : ℕ
  pub inside : OneRoom near b y point
  pub is : b point ≡ none
  pub all : AllBeside near b c y

-- the walls of the room of y are all among the marks
abbrev pub WallsIn : Near → Board → Marks → ℕ → Type 0
WallsIn near b s y = (c : ℕ) → Wall near b c y → s c ≡ true

-- nothing safe was struck: the stones of safe marks are all kept, and every room whose walls are all among safe marks is open
pub record SoundSoFar (n : ℕ) (near : Near) (b : Board) (kept rooms : Marks) : Type 0 where
  pub stones_kept : (s : Marks) → Safe near b s → (p : ℕ) → s p ≡ true → kept p ≡ true
  pub rooms_open : (s : Marks) → Safe near b s → (y : ℕ) → y < n → not_mine b y ≡ true → WallsIn near b s y → rooms y ≡ true

-- two open rooms that are vital to the chain of c
pub record TwoOpen (n : ℕ) (near : Near) (b : Board) (rooms : Marks) (c : ℕ) : Type 0 where
  pub one : ℕ
  pub two : ℕ
  pub one_below : one < n
  pub two_below : two < n
  pub one_open : rooms one ≡ true
  pub two_open : rooms two ≡ true
  pub one_vital : VitalTo near b c one
  pub two_vital : VitalTo near b c two
  pub apart : OneRoom near b one two → ⊥

-- any two open rooms that are vital to the chain of c are one room
abbrev pub FewOpen : ℕ → Near → Board → Marks → ℕ → Type 0
FewOpen n near b rooms c =
    (y z : ℕ) → y < n → z < n → rooms y ≡ true → rooms z ≡ true → VitalTo near b c y → VitalTo near b c z → OneRoom near b y z

-- a step that strikes chains: what was kept is kept, or is of a chain without two open rooms
abbrev pub ChainsStruck : ℕ → Near → Board → Marks → Marks → Marks → Type 0
ChainsStruck n near b rooms kept later = (p : ℕ) → kept p ≡ true → (later p ≡ true) ⊎ FewOpen n near b rooms p

-- a step that strikes rooms: what was open is open, or has a wall that is not kept
abbrev pub RoomsStruck : ℕ → Near → Board → Marks → Marks → Marks → Type 0
RoomsStruck n near b kept rooms later =
    (y : ℕ) → y < n → rooms y ≡ true → (later y ≡ true) ⊎ ((c : ℕ) × Wall near b c y × (kept c ≡ false))

-- the marks are whole chains of mine
pub record Whole (near : Near) (b : Board) (kept : Marks) : Type 0 where
  pub stones : (p : ℕ) → kept p ≡ true → b p ≡ mine
  pub whole : (p q : ℕ) → kept p ≡ true → near p q ≡ true → b q ≡ mine → kept q ≡ true

-- nothing more can be struck: each chain that is kept has two open rooms, and each open room has only chains that are kept for walls
pub record Settled (n : ℕ) (near : Near) (b : Board) (kept rooms : Marks) : Type 0 where
  pub two_rooms : (p : ℕ) → kept p ≡ true → TwoOpen n near b rooms p
  pub walls : (y : ℕ) → y < n → rooms y ≡ true → WallsIn near b kept y
