-- What the other side may play while this side passes. Assumes nothing: these are definitions.
use Rattle.std.specs.Prelude.{◌≡◌, ℕ, ◌<◌, ◌≢◌, List, [], ◌∷◌, length, ◌==◌, slice_index}
use Rattle.grid.specs.Graph.{Near}
use Rattle.chains.specs.Board.{pick, none, mine, yours, Board, Breathes}

abbrev pub with_stone : ℕ → Board → Board
with_stone x b q = pick (q == x) yours (b q)

-- the other side plays at x: chains of mine without breath are taken off, and then the stone must breathe
pub record Played (near : Near) (b : Board) (x : ℕ) (d : Board) : Type 0 where
  pub was : b x ≡ none
  pub there : d x ≡ yours
  pub empty : (q : ℕ) → q ≢ x → b q ≡ none → d q ≡ none
  pub stands : (q : ℕ) → b q ≡ yours → d q ≡ yours
  pub breathing : (q : ℕ) → b q ≡ mine → Breathes near (with_stone x b) mine q → d q ≡ mine
  pub taken : (q : ℕ) → b q ≡ mine → (Breathes near (with_stone x b) mine q → ⊥) → d q ≡ none
  pub breathes : Breathes near d yours x

-- all that the other side can come to while this side passes
pub data Comes (near : Near) (b : Board) : Board → Type 0 where
  start : Comes near b b
  then : {c d : Board} (x : ℕ) → Comes near b c → Played near c x d → Comes near b d

-- the stone at p is never taken, whatever the other side plays
unfoldable pub Stays : Near → Board → ℕ → Type 0
Stays near b p = (d : Board) → Comes near b d → d p ≡ mine

-- moves of the other side in a row
pub data Plays (near : Near) : Board → List ℕ → Board → Type 0 where
  no_more : {b : Board} → Plays near b [] b
  then : {b c d : Board} {x : ℕ} {xs : List ℕ} → Played near b x c → Plays near c xs d → Plays near b (x ∷ xs) d

-- every move is a point of a board of n points
abbrev pub Inside : ℕ → List ℕ → Type 0
Inside n xs = (i : ℕ) → i < length xs → slice_index xs i < n
