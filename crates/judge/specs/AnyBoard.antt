-- The same promises for a board of any shape: n points and which of them are neighbours. The square board's are cases of these.
-- Each statement is a type whose proof is owed. Assumes nothing.
use Rattle.std.specs.Prelude.{◌≡◌, ℕ, ◌≤◌, true, ◌⊎◌, List, length}
use Rattle.grid.specs.Graph.{Near, Graph}
use Rattle.chains.specs.Board.{none, mine, Board}
use Rattle.chains.specs.Stands.{Stand}
use Rattle.play.specs.Played.{Played, Stays, Plays, Inside}
use Rattle.rooms.specs.Safe.{Marks, Safe}

-- the marks are exactly the stones that can't be taken though their side passes for ever
unfoldable pub JudgesOver : Near → Board → Marks → Type 0
JudgesOver near b s = (p : ℕ) → ((s p ≡ true) → Stays near b p × (b p ≡ mine)) × (Stays near b p → b p ≡ mine → s p ≡ true)

-- the moves in a row take the stone at p
unfoldable pub ShowsOver : Near → Board → ℕ → List ℕ → Type 0
ShowsOver near b p xs = (d : Board) × Plays near b xs d × (d p ≡ none)

-- what stays is marked by some safe marks
unfoldable pub StaysSafeOver : Type 0
StaysSafeOver = (n : ℕ) (near : Near) → Graph n near → (b : Board) → Stand n near b → (p : ℕ) → b p ≡ mine → Stays near b p → (s : Marks) × Safe near b s × (s p ≡ true)

-- two judgements that are right mark the same
unfoldable pub OneJudgementOver : Type 0
OneJudgementOver = (near : Near) (b : Board) (s t : Marks) → JudgesOver near b s → JudgesOver near b t → (p : ℕ) → s p ≡ t p

-- boards that can stand go on standing
unfoldable pub GoesOnOver : Type 0
GoesOnOver = (n : ℕ) (near : Near) → Graph n near → (b d : Board) (x : ℕ) → Stand n near b → Played near b x d → Stand n near d

-- each stone of mine is held by safe marks, or is taken by a row of moves on the board, at most one for each point
unfoldable pub AliveOrTaken : Type 0
AliveOrTaken = (n : ℕ) (near : Near) → Graph n near → (b : Board) → Stand n near b → (p : ℕ) → b p ≡ mine →
    ((s : Marks) × Safe near b s × (s p ≡ true)) ⊎ ((xs : List ℕ) × Inside n xs × (length xs ≤ n) × ShowsOver near b p xs)
