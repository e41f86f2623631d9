use Rattle.std.proofs.Common.{◌≡◌, length, arith, rules}
use Rattle.std.proofs.lemmas.Result.{err_from_is_err_and}
use Rattle.referee.proofs.Kept.{line_refused, trying, put_countable, ko_refused, restored, restored_not, stone_refused, kept_stone}
use Rattle.referee.proofs.game.Game.stone.Goals as goal

pub returns-in_err-made : goal.returns-in_err-made
returns-in_err-made c =
    let long : length c.args.self.position.cells ≡ 361 = search rules in
    let p = err_from_is_err_and c.from_residual.result c.from_residual.ensures.1 in
    rw (p.1, p.2) (λ size start ms s. line_refused s long c.in_err-made.ensures)

pub returns-then-eq : goal.returns-then-eq
returns-then-eq c = λ size start ms s. ko_refused (trying c.in_ok-made.made.position s c.in_ok-made.ensures.0 c.in_ok-made.ensures.1) (restored c.args.self.before c.in_ok-made.made.position c.if-eq.ensures)

pub returns-then-self-ge-LAST_PASSES : goal.returns-then-self-ge-LAST_PASSES
returns-then-self-ge-LAST_PASSES c =
    let few : length c.in_ok-made.made.position.cells ≡ 361 = search rules in
    λ size start ms s. stone_refused (trying c.in_ok-made.made.position s c.in_ok-made.ensures.0 c.in_ok-made.ensures.1) few (restored_not c.args.self.before c.in_ok-made.made.position c.if-eq.ensures) (omega arith)

pub more-self-requires-clause-black : goal.more-self-requires-clause-black
more-self-requires-clause-black c = (put_countable c.args.self.position.size c.in_ok-made.ensures.0 c.requires).0

pub more-self-requires-clause-white : goal.more-self-requires-clause-white
more-self-requires-clause-white c = (put_countable c.args.self.position.size c.in_ok-made.ensures.0 c.requires).1

pub returns : goal.returns
returns c =
    let long : length c.args.self.position.cells ≡ 361 = search rules in
    let few : length c.in_ok-made.made.position.cells ≡ 361 = search rules in
    λ size start ms s. kept_stone c.other-other.result c.more-self.result (trying c.in_ok-made.made.position s c.in_ok-made.ensures.0 c.in_ok-made.ensures.1) long few (restored_not c.args.self.before c.in_ok-made.made.position c.if-eq.ensures) (omega arith) c.other-other.ensures c.more-self.ensures
