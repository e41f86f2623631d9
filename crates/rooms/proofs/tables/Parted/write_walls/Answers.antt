use Rattle.std.proofs.Common.{arith}
use Rattle.chains.specs.Sized.{count_of}
use Rattle.rooms.proofs.Passes.{walling_start, walling_step, walling_end}
use Rattle.rooms.proofs.tables.Parted.write_walls.Goals as goal

pub loop-p-init : goal.loop-p-init
loop-p-init c = walling_start

pub loop-p-preserved : goal.loop-p-preserved
loop-p-preserved c = walling_step c.loop-p.invariant c.wall_point.ensures

pub returns : goal.returns
returns c = record { bits = walling_end (count_of c.args.self.now.size) (omega arith) c.loop-p.invariant; rest = c.loop-p.invariant.rest }
