use Rattle.grid.specs.Grid.{points, near}
use Rattle.chains.proofs.Labelling.{Labelling}
use Rattle.chains.proofs.labels.label_points.Given as goal

abbrev pub invariant-loop-p : goal.invariant-loop-p
invariant-loop-p l =
    Labelling (points l.size.width l.size.height) (near l.size.width l.size.height) l.classes l.left_out l.initial.labels l.labels l.p
