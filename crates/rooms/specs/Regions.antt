-- Rooms (regions) of a board and which of them are vital to a chain. Assumes nothing: these are definitions.
use Rattle.std.specs.Prelude.{◌≡◌, ℕ, Bool, true, false}
use Rattle.grid.specs.Graph.{Near}
use Rattle.chains.specs.Board.{State, none, mine, yours, Board, Joined}
use Rattle.chains.specs.Linked.{Linked}

-- no stone of mine stands there
abbrev pub not_mine : Board → ℕ → Bool
not_mine b p = clear (b p)
  where
    clear : State → Bool
    clear none = true
    clear mine = false
    clear yours = true

-- y and z lie in one room: a largest set of points without stones of mine that are joined over neighbours
abbrev pub OneRoom : Near → Board → ℕ → ℕ → Type 0
OneRoom near b y z = Linked near (not_mine b) y z

-- e is a neighbour of a stone of the chain of c
pub record Beside (near : Near) (b : Board) (c e : ℕ) : Type 0 where
  pub stone : ℕ
  pub chain : Joined near b mine c stone
  pub next : near stone e ≡ true

-- e is a liberty of the chain of c
pub record Liberty (near : Near) (b : Board) (c e : ℕ) : Type 0 where
  pub beside : Beside near b c e
  pub is : b e ≡ none

-- every empty point of the room of y is beside the chain of c
abbrev pub AllBeside : Near → Board → ℕ → ℕ → Type 0
AllBeside near b c y = (e : ℕ) → OneRoom near b y e → b e ≡ none → Beside near b c e

-- an empty point of the room of y that is not beside the chain of c
pub record Spare (near : Near) (b : Board) (c y : ℕ) : Type 0 where
  pub point : ℕ
  pub inside : OneRoom near b y point
  pub is : b point ≡ none
  pub away : Beside near b c point → ⊥

-- two liberties of the chain of c in two rooms that are vital to it
pub record TwoRooms (near : Near) (b : Board) (c : ℕ) : Type 0 where
  pub one : ℕ
  pub two : ℕ
  pub one_liberty : Liberty near b c one
  pub two_liberty : Liberty near b c two
  pub one_vital : AllBeside near b c one
  pub two_vital : AllBeside near b c two
  pub apart : OneRoom near b one two → ⊥

-- the chain of c has at most one room that is vital to it: any two liberties in such rooms lie in one room
abbrev pub FewRooms : Near → Board → ℕ → Type 0
FewRooms near b c = (y z : ℕ) → Liberty near b c y → Liberty near b c z → AllBeside near b c y → AllBeside near b c z → OneRoom near b y z
