-- Boards of any shape: points numbered from 0 and which of them are neighbours. Assumes nothing: these are definitions.
use Rattle.std.specs.Prelude.{◌≡◌, ℕ, ◌<◌, Bool, true, ◌≢◌}

-- which points are neighbours
abbrev pub Near : Type 0
Near = ℕ → ℕ → Bool

-- a board of n points whose neighbours are the same read from both ends: all that the theory above asks of a board's shape
pub record Graph (n : ℕ) (near : Near) : Type 0 where
  pub symmetric : (p q : ℕ) → near p q ≡ true → near q p ≡ true
  pub inside : (p q : ℕ) → near p q ≡ true → p < n
  pub apart : (p q : ℕ) → near p q ≡ true → p ≢ q
