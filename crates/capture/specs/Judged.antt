-- A position with the marks of one colour: what they are, and why no row is shown. Assumes nothing: these are definitions.
use Rattle.std.specs.Prelude.{◌≡◌, ℕ, ◌≤◌, Bool, false, not, List, length, get_or, None, Option, nat_le, slice_index_or}
use Rattle.grid.specs.Refusals.{unless}
use Rattle.grid.specs.declared.size.Size.{Size}
use Rattle.chains.specs.Board.{mine}
use Rattle.chains.specs.Breath.{first_breathless}
use Rattle.chains.specs.Computed.{is_state}
use Rattle.chains.specs.Sized.{count_of, near_of, seen}
use Rattle.chains.specs.declared.colour.Colour.{Colour}
use Rattle.chains.specs.declared.colour.Colour.TheVariants.{Black}
use Rattle.chains.specs.declared.position.Position.{Position}
use Rattle.judge.specs.Promise.{Judges}
use Rattle.judge.specs.Refused.{judge_refusal}
use Rattle.judge.specs.declared.judgement.Marks.{Marks}
use Rattle.capture.specs.Showing.{LabelsWritten}

-- no stone is the first without a liberty: the board can stand
abbrev pub all_breathe : Size → List ℕ → Bool
all_breathe size cells = nat_le (count_of size) (first_breathless (count_of size) (near_of size) (seen size cells Black))

-- no line of the list applies: the marks are the judgement of that colour and none lies past the board, and the labels are written
pub record MarksMade (position : Position) (colour : Colour) (old_chains old_rooms chains rooms : List ℕ) (marks : Marks) : Type 0 where
  pub no_line : judge_refusal position.size position.cells old_chains old_rooms ≡ None
  pub right : Judges position.size.width position.size.height (seen position.size position.cells colour) (λ p. get_or marks.marked p false)
  pub past : (p : ℕ) → count_of position.size ≤ p → slice_index_or marks.marked p false ≡ false
  pub entries : length marks.marked ≡ 361
  pub labels : LabelsWritten position.size position.cells colour old_chains old_rooms chains rooms

-- why no row is shown: too little memory lent for the moves, no stone of the colour at the point, or a marked one
abbrev pub row_refusal : Position → Colour → Marks → ℕ → ℕ → Option (ℕ × ℕ)
row_refusal position colour marks point moves =
    unless (nat_le (count_of position.size) moves) (12, 3)
    (unless (is_state mine (seen position.size position.cells colour point)) (11, 0)
    (unless (not (slice_index_or marks.marked point false)) (11, 1)
    None))
