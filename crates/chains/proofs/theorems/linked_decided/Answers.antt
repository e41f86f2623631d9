use Rattle.chains.specs.Decided.{LinkedDecided}
use Rattle.chains.proofs.theorems.linked_decided.Goals as goal
use Rattle.chains.proofs.Decided.{linked_decided}

pub returns : goal.returns
unfolding LinkedDecided
returns c = linked_decided
