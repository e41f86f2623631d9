use Rattle.std.proofs.Common.{◌≡◌, length, sym, subst, rules}
use Rattle.referee.specs.Record.{RecordRefereed}
use Rattle.referee.specs.declared.outcome.Answer.{Answer}
use Rattle.referee.proofs.Whole.{handed_back}
use Rattle.referee.proofs.record.referee.Goals as goal

pub returns : goal.returns
returns c =
    let long : length c.follow-ended.result.game.position.cells ≡ 361 = search rules in
    subst (λ (answer : Answer). RecordRefereed c.args.size.width c.args.size.height c.args.board.now c.args.moves.now answer c.write.new.board) (sym c.answer.ensures)
    (handed_back c.follow-ended.result c.write.new.board c.in_ok-game.ensures c.follow-ended.ensures long c.in_ok-write.ensures.1)
