use Rattle.std.proofs.Common.{◌*◌, ◌≤◌, mul-le-mul}
use Rattle.grid.proofs.size.Size.of_sides.Goals as goal

pub invariant_of-result : goal.invariant_of-result
invariant_of-result c =
    let lower : 1 * 1 ≤ c.args.width * c.args.height = mul-le-mul c.requires.0 c.requires.2 in
    let upper : c.args.width * c.args.height ≤ 19 * 19 = mul-le-mul c.requires.1 c.requires.3 in
    record { ok = c.requires; few = (lower, upper) }
