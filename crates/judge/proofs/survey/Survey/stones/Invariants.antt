use Rattle.chains.specs.Sized.{seen}
use Rattle.chains.proofs.Marking.{StonesMarked}
use Rattle.rooms.specs.Numbered.{kept_by}
use Rattle.judge.proofs.survey.Survey.stones.Given as goal

abbrev pub invariant-loop-p : goal.invariant-loop-p
invariant-loop-p l = StonesMarked (kept_by (seen l.self.position.now.size l.self.position.now.cells l.self.colour) l.self.chains.now l.left.words) l.marks l.p
