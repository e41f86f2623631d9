use Rattle.rooms.proofs.Passes.{none_held}
use Rattle.rooms.proofs.region_sets.no_sets.Goals as goal

pub returns : goal.returns
returns c d i = none_held 361 c.empty.result d i (c.empty.ensures i)
