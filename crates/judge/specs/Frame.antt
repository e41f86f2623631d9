-- What a board keeps while the other side plays on nothing but the liberties of one chain. Assumes nothing: these are definitions.
use Rattle.std.specs.Prelude.{◌≡◌, ℕ, true, ◌⊎◌}
use Rattle.grid.specs.Graph.{Near}
use Rattle.chains.specs.Board.{none, mine, yours, Board}
use Rattle.rooms.specs.Regions.{Beside}

-- how board d came from board b while only liberties of the chain of c were played
pub record Frame (near : Near) (b : Board) (c : ℕ) (d : Board) : Type 0 where
  pub yours_stay : (q : ℕ) → b q ≡ yours → d q ≡ yours
  pub mine_go : (q : ℕ) → b q ≡ mine → (d q ≡ mine) ⊎ (d q ≡ none)
  pub none_filled : (q : ℕ) → b q ≡ none → (d q ≡ none) ⊎ ((d q ≡ yours) × Beside near b c q)
  pub whole : (p q : ℕ) → near p q ≡ true → b p ≡ mine → b q ≡ mine → d p ≡ mine → d q ≡ mine
