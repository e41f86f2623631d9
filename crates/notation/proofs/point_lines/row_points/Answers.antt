use Rattle.notation.proofs.Points.{row_more}
use Rattle.notation.proofs.point_lines.row_points.Goals as goal

pub loop-point-preserved : goal.loop-point-preserved
loop-point-preserved c = row_more c.args.moves.now c.loop-point.point-index _ _ c.loop-point-test.true c.loop-point.invariant c.in_ok-write.ensures.bytes
