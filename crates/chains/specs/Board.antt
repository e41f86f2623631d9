-- The board seen from one side: its own stones, the other's, and empty points; chains and their breath.
-- Assumes nothing: these are definitions.
use Rattle.std.specs.Prelude.{◌≡◌, ℕ, Bool, true, false}
use Rattle.grid.specs.Graph.{Near}

abbrev pub pick : {A : Type 0} → Bool → A → A → A
pick true a b = a
pick false a b = b

-- what stands on a point: nothing, a stone of the side that looks, or a stone of the other side
pub data State : Type 0 where
  none : State
  mine : State
  yours : State

abbrev pub Board : Type 0
Board = ℕ → State

-- stones of one state, joined by neighbours: a chain
pub data Joined (near : Near) (b : Board) (c : State) : ℕ → ℕ → Type 0 where
  at : {p : ℕ} → b p ≡ c → Joined near b c p p
  on : {p q : ℕ} (r : ℕ) → Joined near b c p q → near q r ≡ true → b r ≡ c → Joined near b c p r

-- the chain of p has an empty neighbour, a liberty
pub record Breathes (near : Near) (b : Board) (c : State) (p : ℕ) : Type 0 where
  pub stone : ℕ
  pub chain : Joined near b c p stone
  pub empty : ℕ
  pub next : near stone empty ≡ true
  pub is : b empty ≡ none
