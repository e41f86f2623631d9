use Rattle.rooms.specs.Tables.{touches}
use Rattle.rooms.proofs.Passes.{Changed, keep_room}
use Rattle.rooms.proofs.tables.Parted.keep_beside.Given as goal

abbrev pub invariant-loop-q : goal.invariant-loop-q
invariant-loop-q l = Changed (keep_room (touches l.self.size l.self.chains.now l.self.rooms.now l.p) l.room) l.self.chains.now l.self.rooms.now l.initial.sets l.sets l.yielded
