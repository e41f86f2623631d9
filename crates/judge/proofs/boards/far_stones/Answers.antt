use Rattle.judge.proofs.SmallBoards.{far_stones}
use Rattle.judge.proofs.boards.far_stones.Goals as goal

pub returns : goal.returns
returns c = far_stones
