use Rattle.std.proofs.Common.{◌≡◌, false, get_or, string_bytes}
use Rattle.notation.specs.Lines.{points_text, chosen}
use Rattle.notation.proofs.point_lines.marked_points.Given as goal

abbrev pub invariant-loop-point : goal.invariant-loop-point
invariant-loop-point l = string_bytes l.text ≡ points_text (chosen (λ p. get_or l.marked p false) l.point-counter)
