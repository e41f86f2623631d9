-- Boards by their bytes, and how they are judged. A statement is a type whose proof is owed. Assumes nothing.
use Rattle.std.specs.Prelude.{ℕ, false, ◌||◌, List, [], ◌∷◌, codes, ◌==◌}
use Rattle.grid.specs.Grid.{points}
use Rattle.chains.specs.Views.{view}
use Rattle.chains.specs.declared.colour.Colour.TheVariants.{Black, White}
use Rattle.rooms.specs.Safe.{Marks}
use Rattle.judge.specs.Promise.{Judges}

-- the points of a list, as marks
abbrev pub listed : List ℕ → Marks
listed [] p = false
listed (x ∷ xs) p = p == x || listed xs p

-- the listed stones of black are those that can't be taken though black passes for ever, and white has none
pub record Judged (w h : ℕ) (bytes : List ℕ) (marks : List ℕ) : Type 0 where
  pub for_black : Judges w h (view (points w h) bytes Black) (listed marks)
  pub for_white : Judges w h (view (points w h) bytes White) (listed [])

-- how three small boards are judged: the points that are marked for black on each, and none for white
pub record ThreeBoards (one two three : List ℕ) : Type 0 where
  pub two_stones : Judged 5 1 (codes ".X.X.") one
  pub far_stones : Judged 6 1 (codes ".X..X.") two
  pub diamond : Judged 3 3 (codes ".X.X.X.X.") three
