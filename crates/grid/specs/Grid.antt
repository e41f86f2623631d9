-- The square grid: points in reading order, and which are neighbours. Assumes nothing: these are definitions.
use Rattle.std.specs.Prelude.{ℕ, ◌+◌, ◌*◌, ◌/◌, ◌%◌, Bool, ◌&&◌, ◌||◌, ◌==◌, nat_lt}

abbrev pub points : ℕ → ℕ → ℕ
points width height = width * height

abbrev pub beside : ℕ → ℕ → Bool
beside a b = a + 1 == b || b + 1 == a

-- neighbours lie in one row in columns beside each other, or in one column in rows beside each other
unfoldable pub near : ℕ → ℕ → ℕ → ℕ → Bool
near width height p q =
    (nat_lt p (points width height) && nat_lt q (points width height))
    && ((p / width == q / width && beside (p % width) (q % width)) || (p % width == q % width && beside (p / width) (q / width)))
