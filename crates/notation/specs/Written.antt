-- Boards written as bytes, and why none were. Assumes nothing: these are definitions.
use Rattle.std.specs.Prelude.{◌≡◌, ℕ, List, ◌∷◌, ◌++◌, length, take, drop, Some, None, Option, codes, nat_le}
use Rattle.grid.specs.Grid.{points}
use Rattle.grid.specs.Refusals.{listed, unless, refusal_text}
use Rattle.notation.specs.Layout.{cells_of, size_points, cells_refusal}
use Rattle.notation.specs.declared.failure.Failure.{Failure}
use Rattle.notation.specs.declared.failure.Failure.TheVariants.{Refused, NoMemory}

-- it failed by that refusal, or for want of memory where there is none
abbrev pub FailsBy : Option (ℕ × ℕ) → Failure → Type 0
FailsBy refusal (Refused e) = refusal ≡ Some (listed e)
FailsBy refusal NoMemory = refusal ≡ None

-- how it is printed
abbrev pub failure_text : Failure → List ℕ
failure_text (Refused e) = refusal_text e
failure_text NoMemory = codes "out of memory"

-- the first line of the list by which a board is not written
abbrev pub write_refusal : ℕ → ℕ → List ℕ → Option (ℕ × ℕ)
write_refusal w h cells = unless (nat_le (points w h) (length cells)) (12, 0) (cells_refusal w h (take (points w h) cells))

-- the bytes of a board
abbrev pub board_bytes : ℕ → ℕ → List ℕ → List ℕ
board_bytes w h cells = w ∷ (h ∷ take (points w h) cells)

-- the first line by which a board is not written and read again into so much memory
abbrev pub reread_refusal : ℕ → ℕ → List ℕ → ℕ → Option (ℕ × ℕ)
reread_refusal w h cells lent = unless (nat_le (points w h) lent) (12, 0) (write_refusal w h cells)

-- a refusal leaves the lent memory as it was; where memory is wanting, the board was read into it before
abbrev pub LeftBy : Failure → List ℕ → List ℕ → List ℕ → Type 0
LeftBy (Refused e) bytes before after = after ≡ before
LeftBy NoMemory bytes before after = after ≡ cells_of bytes ++ drop (size_points bytes) before
