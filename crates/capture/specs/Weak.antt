-- Chains that have fewer than two vital rooms, by their stones. Assumes nothing: these are definitions.
use Rattle.std.specs.Prelude.{ℕ, Bool, ◌&&◌, List, nat_lt, slice_index}
use Rattle.chains.specs.Board.{mine, Board}
use Rattle.chains.specs.Computed.{is_state}
use Rattle.rooms.specs.Bits.{shared_below}

-- whether a stone of mine stands at p and the set of the vital rooms of its chain has fewer than two
abbrev pub is_weak : Board → List ℕ → (ℕ → List ℕ) → ℕ → Bool
is_weak b chains sets p = is_state mine (b p) && nat_lt (shared_below 384 (sets (slice_index chains p)) (sets (slice_index chains p))) 2
