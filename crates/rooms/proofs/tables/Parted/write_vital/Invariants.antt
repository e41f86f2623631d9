use Rattle.rooms.specs.Tables.{touches}
use Rattle.rooms.proofs.Passes.{Finding}
use Rattle.rooms.proofs.tables.Parted.write_vital.Given as goal

abbrev pub invariant-loop-p : goal.invariant-loop-p
invariant-loop-p l = Finding (touches l.self.size l.self.chains.now l.self.rooms.now) l.self.chains.now l.self.rooms.now l.firsts l.initial.sets l.sets l.p
