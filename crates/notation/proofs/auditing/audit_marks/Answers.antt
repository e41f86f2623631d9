use Rattle.std.proofs.Common.{length, sym, refl, ◌∙◌, arith}
use Rattle.std.proofs.lemmas.Result.{err_from_is_err_and}
use Rattle.notation.proofs.Made.{ReadFrom}
use Rattle.notation.proofs.Calls.{audit_carried, audited_carried}
use Rattle.notation.proofs.auditing.audit_marks.Goals as goal

pub returns-in_err-verdict : goal.returns-in_err-verdict
returns-in_err-verdict c =
    let read : ReadFrom c.args.bytes.now (length c.args.lent.now) (length c.args.chains.now) (length c.args.rooms.now) c.in_ok-size.size c.in-Some-exactly.cells.now c.in_ok-position.position =
    record { memory = c.in_ok-size.ensures; cells_are = c.in-Some-exactly.ensures.0 ∙ c.after_size-rest.ensures; made = c.in_ok-position.ensures } in
    let enough = c.in-Some.ensures in
    let p = err_from_is_err_and c.from_residual-in_err-verdict.result c.from_residual-in_err-verdict.ensures.1 in
    let refused = c.in_err-verdict.ensures in
    rw (p.1, p.2) (audit_carried read c.args.colour c.args.marks.now (length c.args.moves.now) (omega arith) ∙ sym refused.0, refl, refused.1, refused.2, refused.3)

pub returns : goal.returns
returns c =
    let read : ReadFrom c.args.bytes.now (length c.args.lent.now) (length c.args.chains.now) (length c.args.rooms.now) c.in_ok-size.size c.in-Some-exactly.cells.now c.in_ok-position.position =
    record { memory = c.in_ok-size.ensures; cells_are = c.in-Some-exactly.ensures.0 ∙ c.after_size-rest.ensures; made = c.in_ok-position.ensures } in
    let enough = c.in-Some.ensures in
    audited_carried read c.args.colour c.args.marks.now c.args.moves.now c.audit.new.chains c.audit.new.rooms c.audit.new.moves c.in_ok-verdict.verdict (omega arith) c.in_ok-verdict.ensures c.place.ensures
