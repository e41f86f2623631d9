use Rattle.std.proofs.Common.{arith}
use Rattle.chains.specs.Sized.{count_of}
use Rattle.chains.proofs.Marking.{stones_start, stones_step, stones_end, no_mark_past}
use Rattle.chains.proofs.liberties.Labels.mark_stones.Goals as goal

pub loop-p-init : goal.loop-p-init
loop-p-init c = stones_start

pub loop-p-preserved : goal.loop-p-preserved
loop-p-preserved c = stones_step c.loop-p.invariant (omega arith) c.is_marked.ensures

pub returns : goal.returns
returns c =
    let labels = c.args.self.now in
    stones_end (no_mark_past (count_of labels.size) labels.cells.now labels.labels.now c.args.chains.now) c.loop-p.invariant (omega arith)
