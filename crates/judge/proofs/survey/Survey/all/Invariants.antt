use Rattle.chains.specs.Sized.{seen}
use Rattle.judge.proofs.Gathering.{Gathered}
use Rattle.judge.proofs.survey.Survey.all.Given as goal

-- the points before p are gone through
abbrev pub invariant-loop-p : goal.invariant-loop-p
invariant-loop-p l = Gathered (seen l.self.position.now.size l.self.position.now.cells l.self.colour) l.self.chains.now l.self.rooms.now l.p l.chains.words l.rooms.words
