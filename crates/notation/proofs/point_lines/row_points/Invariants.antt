use Rattle.std.proofs.Common.{◌≡◌, take, string_bytes}
use Rattle.notation.specs.Lines.{points_text}
use Rattle.notation.proofs.point_lines.row_points.Given as goal

abbrev pub invariant-loop-point : goal.invariant-loop-point
invariant-loop-point l = string_bytes l.text ≡ points_text (take l.point-index l.moves)
