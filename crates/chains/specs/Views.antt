-- The bytes of a board, as each side sees them. Assumes nothing: these are definitions.
use Rattle.std.specs.Prelude.{ℕ, ◌+◌, Bool, cond, ◌||◌, List, length, take, Some, None, Option, ◌==◌, nat_le, nat_lt, slice_index}
use Rattle.std.specs.List.{prefix_len}
use Rattle.grid.specs.Refusals.{unless}
use Rattle.chains.specs.Board.{pick, State, none, mine, yours, Board}
use Rattle.chains.specs.declared.colour.Colour.{Colour}
use Rattle.chains.specs.declared.colour.Colour.TheVariants.{Black, White}

-- X is black and O white
abbrev pub stone_byte : Colour → ℕ
stone_byte Black = 88
stone_byte White = 79

abbrev pub other : Colour → Colour
other Black = White
other White = Black

-- a point is written . or X or O
abbrev pub is_point : ℕ → Bool
is_point byte = byte == 46 || (byte == 88 || byte == 79)

-- of these X and O are stones
abbrev pub is_stone : ℕ → Bool
is_stone byte = byte == 88 || byte == 79

-- the colour of the stone that a byte writes
abbrev pub colour_of : ℕ → Option Colour
colour_of byte = cond (byte == 88) (Some Black) (cond (byte == 79) (Some White) None)

-- the colour of the stone that stands on a point of a board of n points
abbrev pub standing : ℕ → List ℕ → ℕ → Option Colour
standing n bytes p = cond (nat_lt p n) (colour_of (slice_index bytes p)) None

-- why the bytes write no board of n points: too few of them, or one that writes no point, by its place after the two bytes of the size
abbrev pub points_refusal : ℕ → List ℕ → Option (ℕ × ℕ)
points_refusal n bytes =
    unless (nat_le n (length bytes)) (12, 0)
    (unless (nat_le n (prefix_len is_point (take n bytes))) (3, 2 + prefix_len is_point (take n bytes))
    None)

-- why the chains of a board of n points cannot be written: too few entries
abbrev pub chains_refusal : ℕ → List ℕ → Option (ℕ × ℕ)
chains_refusal n entries = unless (nat_le n (length entries)) (12, 1) None

-- what a byte says to the side of that colour
abbrev pub state_of : Colour → ℕ → State
state_of colour byte = pick (byte == stone_byte colour) mine (pick (byte == stone_byte (other colour)) yours none)

-- the board of n points that the bytes say, as the side of that colour sees it; past its points there is nothing
abbrev pub view : ℕ → List ℕ → Colour → Board
view n bytes colour p = pick (nat_lt p n) (state_of colour (slice_index bytes p)) none
