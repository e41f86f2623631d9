use Rattle.chains.specs.Marks.{MarkedBelow}
use Rattle.chains.specs.Sized.{near_of}
use Rattle.chains.proofs.liberties.Labels.mark_chains.Given as goal

abbrev pub invariant-loop-p : goal.invariant-loop-p
invariant-loop-p l = MarkedBelow (near_of l.self.size) l.self.cells.now l.self.labels.now l.p l.marks
