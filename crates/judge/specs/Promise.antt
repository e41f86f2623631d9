-- What is promised of judgements on the square board. Each is a statement, a type whose proof is owed. Assumes nothing.
use Rattle.std.specs.Prelude.{◌≡◌, ℕ, ◌<◌, Bool, true, false, List}
use Rattle.grid.specs.Graph.{Near}
use Rattle.grid.specs.Grid.{near, points}
use Rattle.chains.specs.Board.{none, mine, Board}
use Rattle.chains.specs.Stands.{Stands}
use Rattle.play.specs.Played.{Played, Comes, Stays, Plays}
use Rattle.rooms.specs.Safe.{Marks, Safe}

-- THE MAIN PROMISE: the judge marks exactly the stones that can't be taken though their side passes for ever
unfoldable pub Judges : ℕ → ℕ → Board → Marks → Type 0
Judges w h b s = (p : ℕ) → ((s p ≡ true) → Stays (near w h) b p × (b p ≡ mine)) × (Stays (near w h) b p → b p ≡ mine → s p ≡ true)

-- and shows of every other stone how it is taken
unfoldable pub Shows : ℕ → ℕ → Board → ℕ → List ℕ → Type 0
Shows w h b p xs = (d : Board) × Plays (near w h) b xs d × (d p ≡ none)

-- 1. safe marks stay
unfoldable pub SafeStays : Type 0
SafeStays = (near : Near) (b : Board) (s : Marks) → Safe near b s → (p : ℕ) → s p ≡ true → Stays near b p

-- 2. and what stays is marked by some safe marks, on every board that can stand
unfoldable pub StaysSafe : Type 0
StaysSafe = (w h : ℕ) (b : Board) → Stands w h b → (p : ℕ) → b p ≡ mine → Stays (near w h) b p → (s : Marks) × Safe (near w h) b s × (s p ≡ true)

-- 3. marks that are safe may be put together
unfoldable pub either : Marks → Marks → Marks
either s t p = pick_one (s p) (t p)
  where
    pick_one : Bool → Bool → Bool
    pick_one true b = true
    pick_one false b = b

unfoldable pub Together : Type 0
Together = (near : Near) (b : Board) (s t : Marks) → Safe near b s → Safe near b t → Safe near b (either s t)

-- 4. one judgement: two judges that are right mark the same
unfoldable pub OneJudgement : Type 0
OneJudgement = (w h : ℕ) (b : Board) (s t : Marks) → Judges w h b s → Judges w h b t → (p : ℕ) → s p ≡ t p

-- 5. whatever the other side has played meanwhile, the same marks are safe marks of the new board
unfoldable pub StaysSo : Type 0
StaysSo = (near : Near) (b d : Board) (s : Marks) → Safe near b s → Comes near b d → Safe near d s

-- 6. boards that can stand go on standing
unfoldable pub GoesOn : Type 0
GoesOn = (w h : ℕ) (b d : Board) (x : ℕ) → Stands w h b → x < points w h → Played (near w h) b x d → Stands w h d
