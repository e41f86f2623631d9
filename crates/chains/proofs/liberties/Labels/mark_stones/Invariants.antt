use Rattle.chains.specs.Sized.{count_of}
use Rattle.chains.specs.Marks.{stone_mark}
use Rattle.chains.proofs.Marking.{StonesMarked}
use Rattle.chains.proofs.liberties.Labels.mark_stones.Given as goal

abbrev pub invariant-loop-p : goal.invariant-loop-p
invariant-loop-p l = StonesMarked (stone_mark (count_of l.self.size) l.self.cells.now l.self.labels.now l.chains) l.marks l.p
