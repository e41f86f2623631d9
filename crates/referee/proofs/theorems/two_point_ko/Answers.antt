use Rattle.referee.specs.Statements.{TwoPointKo}
use Rattle.referee.proofs.TwoPoints.{two_point_ko}
use Rattle.referee.proofs.theorems.two_point_ko.Goals as goal

pub returns : goal.returns
unfolding TwoPointKo
returns c = two_point_ko
