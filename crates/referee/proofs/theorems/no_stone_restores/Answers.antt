use Rattle.referee.specs.Statements.{NoStoneRestores}
use Rattle.referee.proofs.Laws.{no_stone_restores}
use Rattle.referee.proofs.theorems.no_stone_restores.Goals as goal

pub returns : goal.returns
unfolding NoStoneRestores
returns c = no_stone_restores
