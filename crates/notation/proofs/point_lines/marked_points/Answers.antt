use Rattle.std.proofs.Common.{ℕ, Bool, false, get_or, string_bytes, ap, ◌∙◌}
use Rattle.notation.proofs.Points.{chosen_yes, chosen_no}
use Rattle.notation.proofs.point_lines.marked_points.Goals as goal
use Rattle.notation.proofs.point_lines.marked_points.Goals.{then-mark+in_ok-write, else-mark}

pub loop-point-preserved : goal.loop-point-preserved
loop-point-preserved c =
    elim c.if-mark.branch [
      | then-mark+in_ok-write w ↦
          chosen_yes marked c.loop-point.point-counter (string_bytes c.loop-point.text) (string_bytes c.if-mark.text) w.if-mark.true c.loop-point.invariant
          (ap string_bytes w.text-is ∙ w.in_ok-write.ensures.bytes)
      | else-mark w ↦ ap string_bytes w.text-is ∙ chosen_no marked c.loop-point.point-counter (string_bytes c.loop-point.text) w.if-mark.false c.loop-point.invariant
    ]
  where
    marked : ℕ → Bool
    marked p = get_or c.args.marked.now p false
