use Rattle.std.proofs.Common.{ℕ, subst}
use Rattle.grid.specs.declared.size.Size.{Size}
use Rattle.grid.proofs.Square.{graph}
use Rattle.chains.specs.Labels.{Labelled}
use Rattle.chains.specs.Sized.{count_of, near_of}
use Rattle.rooms.proofs.Labels.{rooms_labelled}
use Rattle.rooms.proofs.region_sets.write_rooms.Goals as goal

pub returns-clause-roomed : goal.returns-clause-roomed
returns-clause-roomed c =
    let size = c.args.position.now.size in
    let classes = c.own_stones-classes.result in
    let labels = c.label.new.labels in
    rooms_labelled (graph size.width size.height) c.args.position.now.cells classes labels c.args.colour c.own_stones-classes.ensures
    (subst (λ (own : ℕ). Labelled (count_of size) (near_of size) classes own labels) c.byte.ensures
    (subst (λ (s : Size). Labelled (count_of s) (near_of s) classes c.byte.result labels) c.size.ensures c.in-Ok.ensures.answer.1))
