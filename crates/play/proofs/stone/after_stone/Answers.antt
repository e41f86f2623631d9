use Rattle.std.proofs.Common.{◌≡◌, ◌-◌, ◌<◌, ◌≤◌, length, sym, ap, ◌∙◌, subst, arith, rules}
use Rattle.std.specs.Option.{is_some}
use Rattle.grid.specs.declared.size.Size.{Size}
use Rattle.chains.specs.Sized.{count_of}
use Rattle.play.proofs.Outcome.{stone_looked, stone_played, stone_not_breathing}
use Rattle.play.proofs.Refusing.{position_read, stone_stands, off_board, occupied}
use Rattle.play.proofs.stone.after_stone.Goals as goal

pub returns-then-point-points : goal.returns-then-point-points
returns-then-point-points c =
    let long : count_of c.args.position.size ≤ length c.args.position.cells = search rules in
    off_board (position_read c.args.position long) (subst (λ (s : Size). count_of s ≤ c.args.point) c.size.ensures (omega arith))

pub returns-then-is_some : goal.returns-then-is_some
returns-then-is_some c =
    let long : count_of c.args.position.size ≤ length c.args.position.cells = search rules in
    let inside : c.args.point < count_of c.args.position.size = subst (λ (s : Size). c.args.point < count_of s) c.size.ensures (omega arith) in
    occupied (position_read c.args.position long) inside
    (sym (stone_stands (count_of c.args.position.size) c.args.position.cells c.args.point inside) ∙ ap is_some (sym c.at.ensures) ∙ sym c.is_some.ensures ∙ c.if-is_some.true)

pub returns-then-not-breathes : goal.returns-then-not-breathes
returns-then-not-breathes c =
    let long : length c.args.position.cells ≡ 361 = search rules in
    let inside : c.args.point < count_of c.args.position.size = subst (λ (s : Size). c.args.point < count_of s) c.size.ensures (omega arith) in
    let empty = ap is_some (sym c.at.ensures) ∙ sym c.is_some.ensures ∙ c.if-is_some.false in
    let put = c.with_stone-placed.ensures in
    let left = c.without_breathless-after.ensures in
    stone_not_breathing
    (stone_looked c.args.position c.with_stone-placed.result c.without_breathless-after.result c.args.colour c.other.result long inside empty c.other.ensures put.sized put.put left.sized left.left c.if-not-breathes.ensures)

pub returns : goal.returns
returns c =
    let long : length c.args.position.cells ≡ 361 = search rules in
    let few : length c.without_breathless-after.result.cells ≡ 361 = search rules in
    let inside : c.args.point < count_of c.args.position.size = subst (λ (s : Size). c.args.point < count_of s) c.size.ensures (omega arith) in
    let empty = ap is_some (sym c.at.ensures) ∙ sym c.is_some.ensures ∙ c.if-is_some.false in
    let put = c.with_stone-placed.ensures in
    let left = c.without_breathless-after.ensures in
    let looked = stone_looked c.args.position c.with_stone-placed.result c.without_breathless-after.result c.args.colour c.other.result long inside empty c.other.ensures put.sized put.put left.sized left.left c.if-not-breathes.ensures in
    let number = rw (c.cells.ensures, c.cells-2.ensures, c.other-2.ensures) at c.count_taken-taken.ensures in
    let all : c.points-count.result - 0 ≡ count_of c.args.position.size = subst (λ (s : Size). c.points-count.result - 0 ≡ count_of s) c.size-2.ensures (omega arith) in
    (stone_played long few looked all number, looked.made.sized)
