-- Judge and shower leave no stone out. Each statement is a type whose proof is owed. Assumes nothing.
use Rattle.std.specs.Prelude.{◌≡◌, ℕ, ◌≤◌, true, false, ◌⊎◌, List, length}
use Rattle.grid.specs.Grid.{points, near}
use Rattle.chains.specs.Board.{mine, Board}
use Rattle.chains.specs.Stands.{Stands}
use Rattle.play.specs.Played.{Stays, Inside}
use Rattle.rooms.specs.Safe.{Marks}
use Rattle.judge.specs.Promise.{Judges, Shows}

-- a row of moves on the board that takes the stone at p, at most one move for each point
pub record RowFor (w h : ℕ) (b : Board) (p : ℕ) : Type 0 where
  pub row : List ℕ
  pub inside : Inside (points w h) row
  pub fits : length row ≤ points w h
  pub shows : Shows w h b p row

-- each stone of a board that can stand stays and no row takes it, or it does not stay and a row takes it
unfoldable pub StaysOrRow : Type 0
StaysOrRow = (w h : ℕ) (b : Board) → Stands w h b → (p : ℕ) → b p ≡ mine →
    (Stays (near w h) b p × (RowFor w h b p → ⊥)) ⊎ ((Stays (near w h) b p → ⊥) × RowFor w h b p)

-- each stone has the judge's mark and no row takes it, or it has none and a row takes it
unfoldable pub MarkOrRow : Type 0
MarkOrRow = (w h : ℕ) (b : Board) (s : Marks) → Stands w h b → Judges w h b s → (p : ℕ) → b p ≡ mine →
    ((s p ≡ true) × (RowFor w h b p → ⊥)) ⊎ ((s p ≡ false) × RowFor w h b p)
