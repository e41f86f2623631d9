-- How a board hands out a point's neighbours by number. Assumes nothing: these are definitions.
use Rattle.std.specs.Prelude.{◌≡◌, ℕ, zero, suc, ◌+◌, ◌-◌, ◌%◌, ◌<◌, ◌≤◌, true, cond, List, [], ◌∷◌, Some, None, Option, ◌==◌, nat_le, nat_lt}
use Rattle.grid.specs.Graph.{Near}
use Rattle.grid.specs.Grid.{points}

-- the neighbours of p are what is handed out for the numbers below slots p: all of them, nothing else, none twice, the smaller point first
pub record HandsOut (near : Near) (slots : ℕ → ℕ) (hand : ℕ → ℕ → Option ℕ) : Type 0 where
  pub sound : (p k q : ℕ) → hand p k ≡ Some q → near p q ≡ true
  pub complete : (p q : ℕ) → near p q ≡ true → (k : ℕ) × (k < slots p) × (hand p k ≡ Some q)
  pub ordered : (p j k q r : ℕ) → j < k → hand p j ≡ Some q → hand p k ≡ Some r → q < r
  pub beyond : (p k : ℕ) → slots p ≤ k → hand p k ≡ None

-- on the square board a point has four numbers, and a point that is not there has none
abbrev pub slots : ℕ → ℕ → ℕ → ℕ
slots width height p = cond (nat_lt p (points width height)) 4 0

-- the number's neighbour, if it is there: 0 above, 1 to the left, 2 to the right, 3 below
abbrev pub hand : ℕ → ℕ → ℕ → ℕ → Option ℕ
hand width height p k =
    cond (nat_lt p (points width height))
    (cond (k == 0) (cond (nat_le width p) (Some (p - width)) None)
    (cond (k == 1) (cond (p % width == 0) None (Some (p - 1)))
    (cond (k == 2) (cond (p % width + 1 == width) None (Some (p + 1)))
    (cond (k == 3) (cond (nat_lt (p + width) (points width height)) (Some (p + width)) None)
    None))))
    None

-- what is handed out for the n numbers from k on, in their order
unfoldable pub handed : (ℕ → Option ℕ) → ℕ → ℕ → List ℕ
handed hand k zero = []
handed hand k (suc n) = elim (hand k) [ Some q ↦ q ∷ handed hand (k + 1) n | None ↦ handed hand (k + 1) n ]

-- the neighbours of p, the smaller point first
abbrev pub neighbours_of : ℕ → ℕ → ℕ → List ℕ
neighbours_of width height p = handed (hand width height p) 0 (slots width height p)
