-- The three small boards, each by a certificate that is computed.
use Rattle.std.proofs.Common.{◌≡◌, ℕ, true, List, [], ◌∷◌, codes, refl}
use Rattle.grid.specs.Grid.{near, points}
use Rattle.chains.specs.Computed.{any, through, reaches, has_liberty, breathing}
use Rattle.chains.specs.declared.colour.Colour.TheVariants.{Black, White}
use Rattle.play.specs.After.{after}
use Rattle.judge.specs.Boards.{Judged}
use Rattle.judge.proofs.Certificate.{Roomed, Turn, judged_test, stones_of, judged_right}

-- a board on which black has the marked stones with the given rooms, no other stone of black being left after the row of moves, and white has no stone
judged : (w h : ℕ) (bytes : List ℕ) (rs : List Roomed) (ts : List Turn) →
    judged_test (points w h) (near w h) Black bytes rs ts ≡ true → judged_test (points w h) (near w h) White bytes [] [] ≡ true → Judged w h bytes (stones_of rs)
judged w h bytes rs ts black white = record { for_black = judged_right w h Black bytes rs ts black; for_white = judged_right w h White bytes [] [] white }

abbrev roomed : ℕ → List ℕ → List ℕ → Roomed
roomed p one two = record { stone = p; one = one; two = two }

abbrev turn : ℕ → List ℕ → Turn
turn x bytes = record { move = x; bytes = bytes }

-- two stones, each with a room beside it and one between them
pub two_stones : Judged 5 1 (codes ".X.X.") (1 ∷ 3 ∷ [])
unfolding near any through reaches
two_stones = judged 5 1 (codes ".X.X.") (roomed 1 (0 ∷ []) (2 ∷ []) ∷ roomed 3 (2 ∷ []) (4 ∷ []) ∷ []) [] refl refl

-- with two points between them both are taken
pub far_stones : Judged 6 1 (codes ".X..X.") []
unfolding near any through reaches has_liberty breathing after
far_stones =
    judged 6 1 (codes ".X..X.") []
    (turn 2 (codes ".XO.X.") ∷ turn 0 (codes "O.O.X.") ∷ turn 3 (codes "O.OOX.") ∷ turn 5 (codes "O.OO.O") ∷ [])
    refl refl

-- four stones around a point, each with two of the corners
pub diamond : Judged 3 3 (codes ".X.X.X.X.") (1 ∷ 3 ∷ 5 ∷ 7 ∷ [])
unfolding near any through reaches
diamond =
    judged 3 3 (codes ".X.X.X.X.")
    (roomed 1 (0 ∷ []) (2 ∷ []) ∷ roomed 3 (0 ∷ []) (6 ∷ []) ∷ roomed 5 (2 ∷ []) (8 ∷ []) ∷ roomed 7 (6 ∷ []) (8 ∷ []) ∷ [])
    [] refl refl
