-- Auditing marks that come from elsewhere: why not, and what each verdict says. Assumes nothing: these are definitions.
use Rattle.std.specs.Prelude.{◌≡◌, ℕ, ◌<◌, Bool, true, false, cond, not, List, length, Some, None, Option, ◌==◌, nat_le, slice_index}
use Rattle.std.specs.List.{prefix_len}
use Rattle.grid.specs.Grid.{points, near}
use Rattle.grid.specs.Refusals.{unless}
use Rattle.grid.specs.declared.size.Size.{Size}
use Rattle.chains.specs.Board.{mine, Board}
use Rattle.chains.specs.Sized.{count_of, seen}
use Rattle.chains.specs.declared.colour.Colour.{Colour}
use Rattle.chains.specs.declared.colour.Colour.TheVariants.{Black, White}
use Rattle.play.specs.Played.{Stays}
use Rattle.rooms.specs.Safe.{Marks}
use Rattle.judge.specs.Promise.{Judges}
use Rattle.capture.specs.Row.{RowShown}
use Rattle.capture.specs.Showing.{memory_refusal, Fitting, LabelsWritten}
use Rattle.capture.specs.declared.audit.Verdict.{Verdict}
use Rattle.capture.specs.declared.audit.Verdict.TheVariants.{Right, Missing, TooMany, NoStone}

-- the number of a colour
abbrev pub numbered : Colour → ℕ
numbered Black = 0
numbered White = 1

-- the colour of a number
abbrev pub colour_numbered : ℕ → Option Colour
colour_numbered number = cond (number == 0) (Some Black) (cond (number == 1) (Some White) None)

-- a byte of marks is 0 or 1
abbrev pub is_mark : ℕ → Bool
is_mark byte = nat_le byte 1

-- the points whose byte is 1
abbrev pub marked_by : List ℕ → Marks
marked_by marks p = slice_index marks p == 1

-- whether a byte is not the mark that was judged
abbrev pub is_wrong : ℕ × Bool → Bool
is_wrong (byte, judged) = cond (byte == 1) (not judged) judged

-- why marks are not audited: the lines on memory and board, then a colour that is none, a count of bytes that is not that of the points, and the first byte that is no mark
abbrev pub audit_refusal : Size → List ℕ → ℕ → List ℕ → ℕ → ℕ → ℕ → Option (ℕ × ℕ)
audit_refusal size cells number marks chains rooms moves =
    memory_refusal size cells chains rooms moves
    (unless (nat_le number 1) (10, 0)
    (unless (length marks == count_of size) (10, length marks)
    (unless (nat_le (length marks) (prefix_len is_mark marks)) (10, prefix_len is_mark marks)
    None)))

-- none of these lines applies, and the number is that of the colour
pub record Auditable (size : Size) (cells : List ℕ) (number : ℕ) (marks : List ℕ) (chains rooms moves : ℕ) (colour : Colour) : Type 0 where
  pub fitting : Fitting size cells chains rooms moves
  pub no_line : audit_refusal size cells number marks chains rooms moves ≡ None
  pub number_of : numbered colour ≡ number
  pub long : length marks ≡ count_of size

-- the marks on the points below k are those of the judgement
pub record RightBelow (w h : ℕ) (b : Board) (s : Marks) (k : ℕ) : Type 0 where
  pub right : (q : ℕ) → q < k → ((s q ≡ true) → Stays (near w h) b q × (b q ≡ mine)) × (Stays (near w h) b q → b q ≡ mine → s q ≡ true)

-- at p, the first point that is not right, a stone that stays has no mark
pub record MarkMissing (w h : ℕ) (b : Board) (s : Marks) (p : ℕ) : Type 0 where
  pub below : p < points w h
  pub before : RightBelow w h b s p
  pub unmarked : s p ≡ false
  pub stone : b p ≡ mine
  pub stays : Stays (near w h) b p

-- at p, the first point that is not right, a stone has a mark that the first k entries of the moves take
pub record MarkTooMany (w h : ℕ) (b : Board) (s : Marks) (p : ℕ) (lent moves : List ℕ) (k : ℕ) : Type 0 where
  pub below : p < points w h
  pub before : RightBelow w h b s p
  pub marked : s p ≡ true
  pub stone : b p ≡ mine
  pub row : RowShown w h b p lent moves k

-- at p, the first point that is not right, there is a mark and no stone of the colour
pub record MarkOnNone (w h : ℕ) (b : Board) (s : Marks) (p : ℕ) : Type 0 where
  pub below : p < points w h
  pub before : RightBelow w h b s p
  pub marked : s p ≡ true
  pub no_stone : b p ≡ mine → ⊥

-- what a verdict says; only a row is written into the moves
abbrev pub VerdictSays : ℕ → ℕ → Board → Marks → List ℕ → List ℕ → Verdict → Type 0
VerdictSays w h b s lent moves Right = Judges w h b s × (moves ≡ lent)
VerdictSays w h b s lent moves (Missing p) = MarkMissing w h b s p × (moves ≡ lent)
VerdictSays w h b s lent moves (TooMany p k) = MarkTooMany w h b s p lent moves k
VerdictSays w h b s lent moves (NoStone p) = MarkOnNone w h b s p × (moves ≡ lent)

-- a verdict is true, and it is "right" if the marks are the judgement
pub record VerdictExact (w h : ℕ) (b : Board) (s : Marks) (lent moves : List ℕ) (v : Verdict) : Type 0 where
  pub says : VerdictSays w h b s lent moves v
  pub exact : Judges w h b s → v ≡ Right

-- no line of the list applies, the verdict is exact, and the labels are written
pub record Audited (size : Size) (cells : List ℕ) (number : ℕ) (marks old_chains old_rooms old_moves chains rooms moves : List ℕ) (v : Verdict) : Type 0 where
  pub colour : Colour
  pub number_of : numbered colour ≡ number
  pub no_line : audit_refusal size cells number marks (length old_chains) (length old_rooms) (length old_moves) ≡ None
  pub verdict : VerdictExact size.width size.height (seen size cells colour) (marked_by marks) old_moves moves v
  pub labels : LabelsWritten size cells colour old_chains old_rooms chains rooms
