use Rattle.std.proofs.Common.{◌≡◌}
use Rattle.chains.specs.Computed.{count}
use Rattle.chains.specs.Sized.{count_of, near_of, seen}
use Rattle.rooms.proofs.All.{all_mine}
use Rattle.capture.specs.Row.{board_of, SoFar}
use Rattle.capture.proofs.Rows.{Wanted}
use Rattle.capture.proofs.capturing.write_row.Given as goal

abbrev pub invariant-loop-regions : goal.invariant-loop-regions
invariant-loop-regions l =
    SoFar (seen l.fn.position.size l.fn.position.cells l.fn.colour) l.row × (l.row.position.size ≡ l.fn.position.size) × Wanted (near_of l.fn.position.size) (board_of l.row) l.point

abbrev pub decreases-loop-regions : goal.decreases-loop-regions
decreases-loop-regions l = count (all_mine (board_of l.row)) (count_of l.fn.position.size)
