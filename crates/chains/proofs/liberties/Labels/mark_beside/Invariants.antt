use Rattle.chains.specs.Sized.{near_of}
use Rattle.chains.proofs.Marking.{Marking}
use Rattle.chains.proofs.liberties.Labels.mark_beside.Given as goal

abbrev pub invariant-loop-q : goal.invariant-loop-q
invariant-loop-q l = Marking (near_of l.self.size) l.self.cells.now l.self.labels.now l.p l.initial.marks l.marks l.yielded
