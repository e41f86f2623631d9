-- The board after a stone of the other side, computed. Assumes nothing: these are definitions.
use Rattle.std.specs.Prelude.{ℕ, Bool}
use Rattle.grid.specs.Graph.{Near}
use Rattle.chains.specs.Board.{pick, State, none, mine, yours, Board}
use Rattle.play.specs.Played.{with_stone}
use Rattle.chains.specs.Computed.{breathing}

-- a stone of mine is left on the board exactly if it breathes; the rest stays
abbrev pub left_on : State → Bool → State
left_on none breath = none
left_on mine breath = pick breath mine none
left_on yours breath = yours

-- the stone is put, then every stone of mine that does not breathe is taken off
unfoldable pub after : ℕ → Near → Board → ℕ → Board
after n near b x q = left_on (with_stone x b q) (breathing n near (with_stone x b) mine q)
