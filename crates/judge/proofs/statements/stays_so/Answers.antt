use Rattle.judge.specs.Promise.{StaysSo}
use Rattle.judge.proofs.Sound.{stays_so}
use Rattle.judge.proofs.statements.stays_so.Goals as goal

pub returns : goal.returns
unfolding StaysSo
returns c = stays_so
