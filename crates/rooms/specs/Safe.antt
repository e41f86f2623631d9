-- What the judge looks for: chains with two rooms each. Assumes nothing: these are definitions.
use Rattle.std.specs.Prelude.{◌≡◌, ℕ, Bool, true, ◌≢◌, ◌⊎◌}
use Rattle.grid.specs.Graph.{Near}
use Rattle.chains.specs.Board.{none, mine, Board, Joined}

-- a set of points
abbrev pub Marks : Type 0
Marks = ℕ → Bool

-- a room among the marked stones: no stone of mine in it, and every neighbour of it is in it or a marked stone
pub record Room (near : Near) (b : Board) (s : Marks) (r : Marks) : Type 0 where
  pub clear : (p : ℕ) → r p ≡ true → b p ≢ mine
  pub closed : (p q : ℕ) → r p ≡ true → near p q ≡ true → (r q ≡ true) ⊎ (s q ≡ true)

-- it is vital to the chain of p: it has an empty point, and each of its empty points is beside that chain
pub record Vital (near : Near) (b : Board) (r : Marks) (p : ℕ) : Type 0 where
  pub some : ℕ
  pub inside : r some ≡ true
  pub empty : b some ≡ none
  pub beside : (e : ℕ) → r e ≡ true → b e ≡ none → (q : ℕ) × Joined near b mine p q × (near q e ≡ true)

-- the marks are safe: whole chains of mine, each with two rooms that are vital to it and have no point in common
pub record Safe (near : Near) (b : Board) (s : Marks) : Type 0 where
  pub stones : (p : ℕ) → s p ≡ true → b p ≡ mine
  pub whole : (p q : ℕ) → s p ≡ true → near p q ≡ true → b q ≡ mine → s q ≡ true
  pub one : (p : ℕ) → s p ≡ true → Marks
  pub two : (p : ℕ) → s p ≡ true → Marks
  pub one_room : (p : ℕ) (h : s p ≡ true) → Room near b s (one p h)
  pub two_room : (p : ℕ) (h : s p ≡ true) → Room near b s (two p h)
  pub one_vital : (p : ℕ) (h : s p ≡ true) → Vital near b (one p h) p
  pub two_vital : (p : ℕ) (h : s p ≡ true) → Vital near b (two p h) p
  pub apart : (p : ℕ) (h : s p ≡ true) (q : ℕ) → one p h q ≡ true → two p h q ≢ true
