use Rattle.std.proofs.Common.{arith}
use Rattle.std.proofs.lemmas.Result.{err_from_is_err_and}
use Rattle.referee.specs.Moves.{moves_of}
use Rattle.referee.proofs.Whole.{MadeOf, not_standing, ready_so}
use Rattle.referee.proofs.record.ready.Goals as goal

pub returns-in_err-stands : goal.returns-in_err-stands
returns-in_err-stands c =
    let p = err_from_is_err_and c.from_residual-in_err-stands.result c.from_residual-in_err-stands.ensures.1 in
    let i = c.in_ok-position.ensures in
    let m : MadeOf c.in_ok-position.position c.args.size c.args.board.now = record { fine = i.0; sized = i.1; same = i.2 } in
    rw (p.1, p.2) (not_standing c.args.moves.now c.in_err-stands.field-0.0 m (omega arith) (omega arith) c.in_err-stands.ensures)

pub returns : goal.returns
returns c =
    let i = c.in_ok-position.ensures in
    let s = c.in_ok-stands.ensures in
    let m : MadeOf c.in_ok-position.position c.args.size c.args.board.now = record { fine = i.0; sized = i.1; same = i.2 } in
    ready_so c.args.moves.now c.new-2.result m (omega arith) (omega arith) s.0 s.1 c.new-2.ensures.position (c.new-2.ensures.kept (moves_of c.args.moves.now))
