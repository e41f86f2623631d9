-- Chains that breathe, marked by their labels and then stone by stone. Assumes nothing: these are definitions.
use Rattle.std.specs.Prelude.{◌≡◌, ℕ, ◌<◌, Bool, true, false, ◌&&◌, ◌⊎◌, List, get_or, nat_lt, slice_index, slice_index_or}
use Rattle.grid.specs.Graph.{Near}
use Rattle.chains.specs.Board.{Board}
use Rattle.chains.specs.Breath.{BreathesAt}
use Rattle.chains.specs.Views.{is_stone}

-- a stone with that label beside the point x
pub record Beside (near : Near) (cells labels : List ℕ) (x r : ℕ) : Type 0 where
  pub stone : ℕ
  pub next : near x stone ≡ true
  pub is : is_stone (slice_index cells stone) ≡ true
  pub label : get_or labels stone 0 ≡ r

-- the marks after the labels of all stones beside x are marked
pub record MarkedBeside (near : Near) (cells labels : List ℕ) (x : ℕ) (old new : List Bool) : Type 0 where
  pub sound : (r : ℕ) → slice_index_or new r false ≡ true → (slice_index_or old r false ≡ true) ⊎ Beside near cells labels x r
  pub kept : (r : ℕ) → slice_index_or old r false ≡ true → slice_index_or new r false ≡ true
  pub complete : (q : ℕ) → near x q ≡ true → is_stone (slice_index cells q) ≡ true → slice_index_or new (slice_index labels q) false ≡ true

-- the marked labels are those of stones beside empty points below k
pub record MarkedBelow (near : Near) (cells labels : List ℕ) (k : ℕ) (marks : List Bool) : Type 0 where
  pub sound : (r : ℕ) → slice_index_or marks r false ≡ true → (x : ℕ) × (is_stone (slice_index cells x) ≡ false) × Beside near cells labels x r
  pub complete : (x q : ℕ) → x < k → is_stone (slice_index cells x) ≡ false → near x q ≡ true → is_stone (slice_index cells q) ≡ true → slice_index_or marks (slice_index labels q) false ≡ true

-- whether a stone stands on that point of n, with a label that is marked
abbrev pub stone_mark : ℕ → List ℕ → List ℕ → List Bool → ℕ → Bool
stone_mark n cells labels chains p = (nat_lt p n && is_stone (slice_index cells p)) && slice_index_or chains (slice_index labels p) false

-- the entry of each point is true exactly if a stone stands there whose chain breathes
abbrev pub BreathMarks : Near → Board → List Bool → Type 0
BreathMarks near b marks = (p : ℕ) → BreathesAt near b p (slice_index_or marks p false)
