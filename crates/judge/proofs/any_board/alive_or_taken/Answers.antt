use Rattle.judge.specs.AnyBoard.{AliveOrTaken}
use Rattle.judge.proofs.Alive.{alive_or_taken}
use Rattle.judge.proofs.any_board.alive_or_taken.Goals as goal

pub returns : goal.returns
unfolding AliveOrTaken
returns c = alive_or_taken
