-- The list of refusals: each case's number and the place that it names. Assumes nothing: these are definitions.
use Rattle.std.specs.Prelude.{ℕ, Bool, cond, List, ◌++◌, Some, Option, codes, decimal}
use Rattle.grid.specs.declared.refusal.Side.TheVariants.{Width, Height}
use Rattle.grid.specs.declared.refusal.Lent.TheVariants.{Points, Chains, Rooms, Moves}
use Rattle.grid.specs.declared.refusal.Untaken.TheVariants.{NoStone, Marked}
use Rattle.grid.specs.declared.refusal.Refusal.{Refusal}
use Rattle.grid.specs.declared.refusal.Refusal.TheVariants.{BadSide, Count, BadByte, NoLiberty, OffBoard, Occupied, Suicide, Ko, AfterEnd, BadMarks, NotShown, TooShort}

abbrev pub number_of : Refusal → ℕ
number_of (BadSide s) = 1
number_of (Count n) = 2
number_of (BadByte n) = 3
number_of (NoLiberty n) = 4
number_of (OffBoard n) = 5
number_of (Occupied n) = 6
number_of (Suicide n) = 7
number_of (Ko n) = 8
number_of (AfterEnd n) = 9
number_of (BadMarks n) = 10
number_of (NotShown u) = 11
number_of (TooShort l) = 12

abbrev pub place_of : Refusal → ℕ
place_of (BadSide Width) = 0
place_of (BadSide Height) = 1
place_of (Count n) = n
place_of (BadByte n) = n
place_of (NoLiberty n) = n
place_of (OffBoard n) = n
place_of (Occupied n) = n
place_of (Suicide n) = n
place_of (Ko n) = n
place_of (AfterEnd n) = n
place_of (BadMarks n) = n
place_of (NotShown NoStone) = 0
place_of (NotShown Marked) = 1
place_of (TooShort Points) = 0
place_of (TooShort Chains) = 1
place_of (TooShort Rooms) = 2
place_of (TooShort Moves) = 3

-- a refusal as the list has it: its number, then its place
abbrev pub listed : Refusal → ℕ × ℕ
listed e = (number_of e, place_of e)

-- a line of the list: unless the test holds, that is the refusal; else the lines below it decide
abbrev pub unless : Bool → ℕ × ℕ → Option (ℕ × ℕ) → Option (ℕ × ℕ)
unless test line rest = cond test rest (Some line)

-- how a refusal is printed: by its number and its place
abbrev pub refusal_text : Refusal → List ℕ
refusal_text e = codes "refused " ++ (decimal (number_of e) ++ (codes " at " ++ decimal (place_of e)))
