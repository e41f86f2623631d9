use Rattle.chains.specs.Decided.{BreathDecided}
use Rattle.chains.proofs.theorems.breath_decided.Goals as goal
use Rattle.chains.proofs.Decided.{breath_decided}

pub returns : goal.returns
unfolding BreathDecided
returns c = breath_decided
