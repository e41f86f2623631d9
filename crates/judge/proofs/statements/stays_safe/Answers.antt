use Rattle.judge.specs.Promise.{StaysSafe}
use Rattle.judge.proofs.Square.{stays_safe}
use Rattle.judge.proofs.statements.stays_safe.Goals as goal

pub returns : goal.returns
unfolding StaysSafe
returns c = stays_safe
