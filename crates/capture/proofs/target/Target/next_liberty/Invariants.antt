use Rattle.chains.specs.Sized.{near_of}
use Rattle.capture.proofs.Seeking.{Seen}
use Rattle.capture.proofs.target.Target.next_liberty.Given as goal

abbrev pub invariant-loop-p : goal.invariant-loop-p
invariant-loop-p l = Seen (near_of l.position.size) l.position.cells l.self.chains l.self.rooms l.self.vital.words l.self.chain l.p l.last
