-- Stones without breath, and the first of them. Assumes nothing: these are definitions.
use Rattle.std.specs.Prelude.{◌≡◌, ℕ, zero, suc, ◌<◌, ◌≤◌, Bool, true, cond, ◌||◌, ◌≢◌, None, Option, nat_le, nat_lt}
use Rattle.grid.specs.Graph.{Near}
use Rattle.grid.specs.Refusals.{unless}
use Rattle.chains.specs.Board.{State, none, Board, Joined, Breathes}
use Rattle.chains.specs.Computed.{is_state, breathing}

-- the point is empty, or its stone breathes
unfoldable pub calm : ℕ → Near → Board → ℕ → Bool
calm n near b p = is_state none (b p) || breathing n near b (b p) p

-- the first point below k that fails the test, or k where none does
unfoldable pub first_failing : (ℕ → Bool) → ℕ → ℕ
first_failing t zero = zero
first_failing t (suc k) = let r = first_failing t k in cond (nat_lt r k) r (cond (t k) (suc k) k)

-- the first point whose stone does not breathe, or n where all breathe
unfoldable pub first_breathless : ℕ → Near → Board → ℕ
first_breathless n near b = first_failing (calm n near b) n

-- why a board cannot stand: its first stone without breath
abbrev pub stand_refusal : ℕ → Near → Board → Option (ℕ × ℕ)
stand_refusal n near b = unless (nat_le n (first_breathless n near b)) (4, first_breathless n near b) None

-- the answer is true exactly if a stone stands at p and its chain breathes
pub record BreathesAt (near : Near) (b : Board) (p : ℕ) (answer : Bool) : Type 0 where
  pub stone : answer ≡ true → b p ≢ none
  pub sound : (c : State) → c ≢ none → b p ≡ c → answer ≡ true → Breathes near b c p
  pub complete : (c : State) → c ≢ none → b p ≡ c → Breathes near b c p → answer ≡ true

-- from the point `from` on, r is the first point whose stone does not breathe, or n where all breathe
pub record BreathlessFrom (n : ℕ) (near : Near) (b : Board) (from r : ℕ) : Type 0 where
  pub bound : r ≤ n
  pub before : (c : State) (q : ℕ) → from ≤ q → q < r → c ≢ none → b q ≡ c → Breathes near b c q
  pub stone : r < n → b r ≢ none
  pub breathless : (c : State) → r < n → c ≢ none → b r ≡ c → Breathes near b c r → ⊥

-- what holds if the points are looked at from the first on
abbrev pub FromStart : ℕ → Type 0 → Type 0
FromStart zero T = T
FromStart (suc from) T = Unit {0}

-- the stone at p does not breathe, every stone on a point before it does, and so it is the first stone of its chain
pub record FirstBreathless (near : Near) (b : Board) (p : ℕ) : Type 0 where
  pub stone : b p ≢ none
  pub breathless : (c : State) → c ≢ none → b p ≡ c → Breathes near b c p → ⊥
  pub before : (c : State) (q : ℕ) → q < p → c ≢ none → b q ≡ c → Breathes near b c q
  pub first : (c : State) (q : ℕ) → c ≢ none → Joined near b c p q → p ≤ q
