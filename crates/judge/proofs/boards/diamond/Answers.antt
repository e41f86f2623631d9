use Rattle.judge.proofs.SmallBoards.{diamond}
use Rattle.judge.proofs.boards.diamond.Goals as goal

pub returns : goal.returns
returns c = diamond
