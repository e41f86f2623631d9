use Rattle.judge.specs.Promise.{SafeStays}
use Rattle.judge.proofs.Sound.{safe_stays}
use Rattle.judge.proofs.statements.safe_stays.Goals as goal

pub returns : goal.returns
unfolding SafeStays
returns c = safe_stays
