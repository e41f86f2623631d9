-- Being linked and breathing are decided.
use Rattle.chains.specs.Decided.{LinkedDecided, BreathDecided}
use Rattle.chains.proofs.Reach.{linked_or_not}
use Rattle.chains.proofs.Chain.{breathes_or_not}

-- two points are linked or they are not
pub linked_decided : LinkedDecided
unfolding LinkedDecided
linked_decided n near g t p q = linked_or_not g t p q

-- a chain has a liberty or it has none
pub breath_decided : BreathDecided
unfolding BreathDecided
breath_decided n near g b c p = breathes_or_not g b c p
