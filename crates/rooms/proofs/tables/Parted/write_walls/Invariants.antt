use Rattle.rooms.specs.Tables.{touches}
use Rattle.rooms.proofs.Passes.{Walling}
use Rattle.rooms.proofs.tables.Parted.write_walls.Given as goal

abbrev pub invariant-loop-p : goal.invariant-loop-p
invariant-loop-p l = Walling (touches l.self.size l.self.chains.now l.self.rooms.now) l.self.rooms.now l.initial.sets l.sets l.p
