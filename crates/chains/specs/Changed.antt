-- Positions changed: a stone put, stones without breath taken off, points written into lent memory. Assumes nothing: these are definitions.
use Rattle.std.specs.Prelude.{ℕ, Bool, cond, not, ◌&&◌, List, length, None, Option, ◌==◌, nat_le, nat_lt, slice_set}
use Rattle.grid.specs.Refusals.{unless}
use Rattle.chains.specs.Views.{stone_byte}
use Rattle.chains.specs.declared.colour.Colour.{Colour}

-- the bytes of a board of n points with a stone of that colour on p; a point off the board changes nothing
abbrev pub cells_with : ℕ → List ℕ → ℕ → Colour → List ℕ
cells_with n cells p colour = cond (nat_lt p n) (slice_set cells p (stone_byte colour)) cells

-- what becomes of a byte: a stone of the kind that is taken off stays where it breathes
abbrev pub kept_byte : ℕ → ℕ → Bool → ℕ
kept_byte gone byte breathes = cond (byte == gone && not breathes) 46 byte

-- why n points cannot be written into lent memory: it is too short
abbrev pub memory_refusal : ℕ → List ℕ → Option (ℕ × ℕ)
memory_refusal n memory = unless (nat_le n (length memory)) (12, 0) None
