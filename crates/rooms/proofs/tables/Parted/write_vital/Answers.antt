use Rattle.std.proofs.Common.{arith, rules}
use Rattle.chains.specs.Sized.{count_of}
use Rattle.rooms.proofs.Passes.{finding_start, finding_step, finding_end}
use Rattle.rooms.proofs.tables.Parted.write_vital.Goals as goal

pub loop-p-init : goal.loop-p-init
loop-p-init c = finding_start

pub loop-p-preserved : goal.loop-p-preserved
loop-p-preserved c =
    finding_step c.vital_point.new.firsts c.args.self.now.paired c.args.self.now.size.few.1 (omega arith) c.loop-p.invariant (search rules) c.vital_point.ensures.first c.vital_point.ensures.bits

pub returns : goal.returns
returns c = record { bits = finding_end (count_of c.args.self.now.size) (omega arith) c.loop-p.invariant; rest = c.loop-p.invariant.rest }
