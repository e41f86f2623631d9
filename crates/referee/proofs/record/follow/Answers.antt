use Rattle.std.proofs.Common.{◌≡◌, ℕ, sym, subst, arith, rules}
use Rattle.referee.specs.Game.{Countable}
use Rattle.referee.proofs.Bytes.{moves_length}
use Rattle.referee.proofs.Kept.{kept_countable}
use Rattle.referee.proofs.Whole.{following_start, following_next, following_more, following_end}
use Rattle.referee.proofs.record.follow.Goals as goal

pub loop-number-init : goal.loop-number-init
loop-number-init c =
    let rest : c.into_iter-number-iterator.result.iter.rest.now ≡ c.args.moves.now = search rules in
    let pairs : c.into_iter-number-iterator.result.iter.size ≡ 2 = search rules in
    let none : c.into_iter-number-iterator.result.count ≡ 0 = search rules in
    following_start rest pairs none c.requires

pub turn-requires : goal.turn-requires
turn-requires c =
    let w = c.in-Some.ensures.steps in
    let few = moves_length c.args.moves.now in
    subst (λ (k : ℕ). Countable k c.loop-number.game) (sym w.1) (kept_countable c.loop-number.invariant.kept (omega (arith, c.loop-number.invariant.within)))

pub loop-number-preserved : goal.loop-number-preserved
loop-number-preserved c =
    let w = c.in-Some.ensures.steps in
    following_more c.in-Some.number c.in-Some.pair.now _ c.loop-number.invariant w.1 w.2 w.0.0 w.0.1.0 w.0.1.1
    (c.in-Ok.ensures _ _ _ (following_next c.in-Some.number c.of_bytes.result c.in-Some.pair.now _ c.loop-number.invariant w.1 w.0.1.0 w.0.1.1 c.of_bytes.ensures))

pub returns-in-Err : goal.returns-in-Err
returns-in-Err c =
    let w = c.in-Some.ensures.steps in
    c.in-Err.ensures _ _ _ (following_next c.in-Some.number c.of_bytes.result c.in-Some.pair.now _ c.loop-number.invariant w.1 w.0.1.0 w.0.1.1 c.of_bytes.ensures)

pub returns : goal.returns
returns c = c.finished.ensures _ _ _ (following_end c.loop-number.invariant c.in-None.ensures.steps.0.1.0)
