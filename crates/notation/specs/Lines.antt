-- The lines that the programs print. Assumes nothing: these are definitions.
use Rattle.std.specs.Prelude.{ℕ, zero, suc, ◌*◌, Bool, cond, List, [], ◌∷◌, ◌++◌, map, take, drop, codes, decimal, nat_lt}
use Rattle.chains.specs.Views.{stone_byte, is_point}
use Rattle.chains.specs.declared.colour.Colour.{Colour}

-- a point is printed as it is written; a byte that is no point as a question mark
abbrev pub shown : ℕ → ℕ
shown byte = cond (is_point byte) byte 63

-- a row of the board; a row that is not there is empty
abbrev pub row_text : ℕ → ℕ → List ℕ → ℕ → List ℕ
row_text w h cells row = cond (nat_lt row h) (map shown (take w (drop (row * w) cells))) []

-- points one after another, a space before each
abbrev pub points_text : List ℕ → List ℕ
points_text [] = []
points_text (p ∷ ps) = (32 ∷ decimal p) ++ points_text ps

-- the points below n that are chosen, in order
abbrev pub chosen : (ℕ → Bool) → ℕ → List ℕ
chosen t zero = []
chosen t (suc n) = chosen t n ++ cond (t n) (n ∷ []) []

-- no points are printed as a word
abbrev pub some_text : List ℕ → List ℕ
some_text [] = codes " none"
some_text (p ∷ ps) = points_text (p ∷ ps)

-- a colour's marked points
abbrev pub marks_text : Colour → (ℕ → Bool) → ℕ → List ℕ
marks_text colour marked n = stone_byte colour ∷ some_text (chosen marked n)

-- a chain by its first point, and the moves that take it
abbrev pub taken_text : Colour → ℕ → List ℕ → List ℕ
taken_text colour first moves = stone_byte colour ∷ ((32 ∷ decimal first) ++ (codes " taken by" ++ points_text moves))

-- how many stones of each colour are marked
abbrev pub counts_text : ℕ → ℕ → List ℕ
counts_text black white = codes "X " ++ (decimal black ++ (codes " O " ++ decimal white))
