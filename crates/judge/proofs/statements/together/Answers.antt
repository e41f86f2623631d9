use Rattle.judge.specs.Promise.{Together}
use Rattle.judge.proofs.Union.{together}
use Rattle.judge.proofs.statements.together.Goals as goal

pub returns : goal.returns
unfolding Together
returns c = together
