use Rattle.referee.specs.Statements.{FewPasses}
use Rattle.referee.proofs.Laws.{few_passes}
use Rattle.referee.proofs.theorems.few_passes.Goals as goal

pub returns : goal.returns
unfolding FewPasses
returns c = few_passes
