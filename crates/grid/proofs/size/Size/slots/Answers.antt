use Rattle.std.proofs.Common.{◌≡◌, rules}
use Rattle.grid.specs.Neighbours.{slots}
use Rattle.grid.proofs.Square.{all_handed}
use Rattle.grid.proofs.size.Size.slots.Goals as goal

pub returns-then-p-points : goal.returns-then-p-points
returns-then-p-points c =
    let v : 4 ≡ slots c.args.self.width c.args.self.height c.args.p = search rules in
    record { value = v; complete = all_handed _ _ _ 4 v }

pub returns-else-p-points : goal.returns-else-p-points
returns-else-p-points c =
    let v : 0 ≡ slots c.args.self.width c.args.self.height c.args.p = search rules in
    record { value = v; complete = all_handed _ _ _ 0 v }
