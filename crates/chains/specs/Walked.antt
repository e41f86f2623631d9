-- What a walk over the points of one class writes. Assumes nothing: these are definitions.
use Rattle.std.specs.Prelude.{◌≡◌, ℕ, true, ◌≢◌, List, slice_index, slice_index_or}
use Rattle.grid.specs.Graph.{Near}
use Rattle.chains.specs.Linked.{Linked}
use Rattle.chains.specs.Labels.{of_class}

-- an entry is as it was, or the point had no label, is linked to p and now has the name
pub data KeptOrNamed (n : ℕ) (near : Near) (classes : List ℕ) (p name : ℕ) (old new : List ℕ) (q : ℕ) : Type 0 where
  kept : slice_index_or new q 0 ≡ slice_index old q → KeptOrNamed n near classes p name old new q
  named : slice_index_or old q 0 ≡ 65535 → slice_index new q ≡ name → Linked near (of_class n classes (slice_index classes p)) p q → KeptOrNamed n near classes p name old new q

-- a walk from p: its entry is the name, every other entry is as it was or newly named, and no neighbour of one class with a newly named point is left without a label
pub record Walked (n : ℕ) (near : Near) (classes : List ℕ) (p name : ℕ) (old new : List ℕ) : Type 0 where
  pub there : slice_index_or new p 0 ≡ name
  pub entries : (q : ℕ) → KeptOrNamed n near classes p name old new q
  pub closed : (q r : ℕ) → slice_index old q ≡ 65535 → slice_index new q ≢ 65535 → near q r ≡ true → slice_index classes r ≡ slice_index classes q → slice_index new r ≢ 65535
