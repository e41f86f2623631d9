-- Which size two sides make, and which of them is refused. Assumes nothing: these are definitions.
use Rattle.std.specs.Prelude.{◌≡◌, ℕ, true, false, Result, MatchResult}
use Rattle.grid.specs.declared.refusal.Refusal.{Refusal}
use Rattle.grid.specs.declared.refusal.Refusal.TheVariants.{BadSide}
use Rattle.grid.specs.declared.refusal.Side.TheVariants.{Width, Height}
use Rattle.grid.specs.declared.size.Size.{Size}
use Rattle.grid.specs.Sizes.{side_fits}

-- the size with this width and this height; else the width is refused, or the height where the width may stand
abbrev pub SizeOfSides : ℕ × ℕ → Result Size Refusal → Type 0
SizeOfSides sides r =
    MatchResult r
    (λ s. (side_fits sides.0 ≡ true) × (side_fits sides.1 ≡ true) × (s.width ≡ sides.0) × (s.height ≡ sides.1))
    (λ e. elim (side_fits sides.0) [
      | false ↦ e ≡ BadSide Width
      | true ↦ (side_fits sides.1 ≡ false) × (e ≡ BadSide Height)
    ])
