-- A board by the labels of its points. Assumes nothing: these are definitions.
use Rattle.std.specs.Prelude.{ℕ, Bool}
use Rattle.rooms.specs.Tables.{touches}
use Rattle.rooms.specs.declared.tables.Parted.{Parted}

-- whether a stone of the chain c is beside p
abbrev pub touch : Parted → ℕ → ℕ → Bool
touch parted = touches parted.size parted.chains.now parted.rooms.now
