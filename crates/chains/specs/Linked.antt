-- Points joined over neighbours, by whatever test they pass: stones of one colour, or points without a stone of one side.
-- Assumes nothing: these are definitions.
use Rattle.std.specs.Prelude.{◌≡◌, ℕ, Bool, true}
use Rattle.grid.specs.Graph.{Near}

-- q is reached from p over neighbours, every point on the way passing the test
pub data Linked (near : Near) (t : ℕ → Bool) : ℕ → ℕ → Type 0 where
  here : {p : ℕ} → t p ≡ true → Linked near t p p
  step : {p q : ℕ} (r : ℕ) → Linked near t p q → near q r ≡ true → t r ≡ true → Linked near t p r
