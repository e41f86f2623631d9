-- Which sizes a board may have. Assumes nothing: these are definitions.
use Rattle.std.specs.Prelude.{ℕ, Bool, ◌&&◌, nat_le}

-- a side has 1 to 19 points
abbrev pub side_fits : ℕ → Bool
side_fits side = nat_le 1 side && nat_le side 19
