use Rattle.rooms.proofs.Passes.{Changed, put_room}
use Rattle.rooms.proofs.tables.Parted.put_beside.Given as goal

abbrev pub invariant-loop-q : goal.invariant-loop-q
invariant-loop-q l = Changed (put_room l.room) l.self.chains.now l.self.rooms.now l.initial.sets l.sets l.yielded
