use Rattle.chains.specs.Sized.{seen}
use Rattle.chains.specs.declared.colour.Colour.TheVariants.{Black}
use Rattle.referee.proofs.Whole.{Following}
use Rattle.referee.proofs.record.follow.Given as goal

abbrev pub invariant-loop-number : goal.invariant-loop-number
invariant-loop-number l =
    Following l.initial.game.position.size (seen l.initial.game.position.size l.initial.game.position.cells Black) l.moves l.number-iterator.iter.rest.now l.number-iterator.iter.size l.number-iterator.count l.game
