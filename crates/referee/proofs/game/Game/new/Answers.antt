use Rattle.referee.proofs.Kept.{kept_new}
use Rattle.referee.proofs.game.Game.new.Goals as goal

pub returns-clause-kept : goal.returns-clause-kept
returns-clause-kept c = λ ms. kept_new c.args.position ms
