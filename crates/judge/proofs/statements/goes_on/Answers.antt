use Rattle.judge.specs.Promise.{GoesOn}
use Rattle.judge.proofs.Square.{goes_on}
use Rattle.judge.proofs.statements.goes_on.Goals as goal

pub returns : goal.returns
unfolding GoesOn
returns c = goes_on
