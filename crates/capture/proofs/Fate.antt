-- Each stone is marked or taken by a row, never both.
use Rattle.std.proofs.Common.{◌≡◌, ℕ, true, false, inl, inr}
use Rattle.std.proofs.lemmas.Bool.{cases_Bool, both_ways}
use Rattle.grid.specs.Graph.{Near}
use Rattle.grid.specs.Grid.{points, near}
use Rattle.grid.proofs.Square.{graph}
use Rattle.chains.specs.Board.{mine, Board}
use Rattle.chains.proofs.Square.{stands_stand}
use Rattle.chains.proofs.States.{none_mine}
use Rattle.play.specs.Played.{Stays}
use Rattle.play.proofs.Rows.{plays_comes}
use Rattle.rooms.specs.Safe.{Marks, Safe}
use Rattle.judge.specs.AnyBoard.{AliveOrTaken, ShowsOver}
use Rattle.judge.specs.Promise.{Judges, Shows, SafeStays}
use Rattle.judge.proofs.Alive.{alive_or_taken}
use Rattle.judge.proofs.Sound.{safe_stays}
use Rattle.capture.specs.Row.{Unheld}
use Rattle.capture.specs.Statements.{RowFor, StaysOrRow, MarkOrRow}

-- a row that takes the stone leads to a board on which it does not stand
pub row_against : {w h : ℕ} {b : Board} {p : ℕ} → RowFor w h b p → Stays (near w h) b p → ⊥
unfolding Stays Shows
row_against r stays = let (d, plays, gone) = r.shows in none_mine gone (stays d (plays_comes plays))

-- what safe marks hold stays
pub held_stays : {near : Near} (b : Board) (s : Marks) (p : ℕ) → Safe near b s → s p ≡ true → Stays near b p
unfolding SafeStays
held_stays {near} b s p safe h = safe_stays near b s safe p h

-- what the judge does not mark is not held by safe marks
pub unmarked_unheld : (w h : ℕ) (b : Board) (s : Marks) (p : ℕ) → Judges w h b s → b p ≡ mine → s p ≡ false → Unheld (near w h) b p
unfolding Judges
unmarked_unheld w h b s p j m f t safe held = both_ways (s p) f ((j p).1 (held_stays b t p safe held) m)

-- what the judge marks stays
pub marked_stays : (w h : ℕ) (b : Board) (s : Marks) (p : ℕ) → Judges w h b s → s p ≡ true → Stays (near w h) b p
unfolding Judges
marked_stays w h b s p j e = ((j p).0 e).0

pub stays_or_row : StaysOrRow
unfolding StaysOrRow AliveOrTaken ShowsOver Shows
stays_or_row w h b stands p m =
    elim (alive_or_taken (points w h) (near w h) (graph w h) b (stands_stand stands) p m) [
      | inl (s, safe, held) ↦ (let stays = held_stays b s p safe held in inl (stays, λ r. row_against r stays))
      | inr (xs, inside, fits, shows) ↦
          (let r : RowFor w h b p = record { row = xs; inside = inside; fits = fits; shows = shows } in inr (λ stays. row_against r stays, r))
    ]

pub mark_or_row : MarkOrRow
unfolding MarkOrRow StaysOrRow Judges
mark_or_row w h b s stands j p m =
    elim (stays_or_row w h b stands p m) [
      | inl (stays, apart) ↦ inl ((j p).1 stays m, apart)
      | inr (goes, row) ↦ elim (cases_Bool (s p)) [ inl e ↦ absurd (goes ((j p).0 e).0) | inr e ↦ inr (e, row) ]
    ]
