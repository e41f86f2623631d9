-- Chains and rooms by their first points. Assumes nothing: these are definitions.
use Rattle.std.specs.Prelude.{◌≡◌, ℕ, ◌<◌, ◌≤◌, Bool, ◌&&◌, ◌≢◌, List, ◌==◌, nat_lt, slice_index}
use Rattle.grid.specs.Graph.{Near}
use Rattle.chains.specs.Board.{State, none, Board, Joined}
use Rattle.chains.specs.Linked.{Linked}

-- the points below n whose class is c
abbrev pub of_class : ℕ → List ℕ → ℕ → ℕ → Bool
of_class n classes c q = nat_lt q n && slice_index classes q == c

-- r is the first of the points that are linked to p
pub record First (near : Near) (t : ℕ → Bool) (p r : ℕ) : Type 0 where
  pub linked : Linked near t p r
  pub least : (q : ℕ) → Linked near t p q → r ≤ q

-- the entry of each point is the first point that is linked to it over points of its class; points of the class that is left out have 65,535
pub record Labelled (n : ℕ) (near : Near) (classes : List ℕ) (left_out : ℕ) (labels : List ℕ) : Type 0 where
  pub out : (p : ℕ) → p < n → slice_index classes p ≡ left_out → slice_index labels p ≡ 65535
  pub first : (p : ℕ) → p < n → slice_index classes p ≢ left_out → First near (of_class n classes (slice_index classes p)) p (slice_index labels p)

-- the entry of each stone is the first point of its chain, and that of an empty point 65,535;
-- so stones have one entry exactly if they are of one chain
pub record ChainLabels (n : ℕ) (near : Near) (b : Board) (labels : List ℕ) : Type 0 where
  pub empty : (p : ℕ) → p < n → b p ≡ none → slice_index labels p ≡ 65535
  pub joined : (c : State) (p : ℕ) → c ≢ none → b p ≡ c → Joined near b c p (slice_index labels p)
  pub least : (c : State) (p q : ℕ) → c ≢ none → Joined near b c p q → slice_index labels p ≤ q
  pub one_entry : (c : State) (p q : ℕ) → c ≢ none → Joined near b c p q → slice_index labels p ≡ slice_index labels q
  pub one_chain : (c : State) (p q : ℕ) → c ≢ none → b p ≡ c → b q ≢ none → slice_index labels p ≡ slice_index labels q → Joined near b c p q
