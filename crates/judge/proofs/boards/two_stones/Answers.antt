use Rattle.judge.proofs.SmallBoards.{two_stones}
use Rattle.judge.proofs.boards.two_stones.Goals as goal

pub returns : goal.returns
returns c = two_stones
