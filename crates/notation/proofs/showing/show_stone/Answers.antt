use Rattle.std.proofs.Common.{length, refl, ◌∙◌, arith}
use Rattle.std.proofs.lemmas.Result.{err_from_is_err_and}
use Rattle.notation.proofs.Made.{ReadFrom}
use Rattle.notation.proofs.Calls.{shown_carried, unshown_carried}
use Rattle.notation.proofs.showing.show_stone.Goals as goal

pub returns-in_err-count : goal.returns-in_err-count
returns-in_err-count c =
    let read : ReadFrom c.args.bytes.now (length c.args.lent.now) (length c.args.chains.now) (length c.args.rooms.now) c.in_ok-size.size c.in-Some-exactly.cells.now c.in_ok-position.position =
    record { memory = c.in_ok-size.ensures; cells_are = c.in-Some-exactly.ensures.0 ∙ c.after_size-rest.ensures; made = c.in_ok-position.ensures } in
    let enough = c.in-Some.ensures in
    let p = err_from_is_err_and c.from_residual-in_err-count.result c.from_residual-in_err-count.ensures.1 in
    let refused = c.in_err-count.ensures in
    rw (p.1, p.2) (unshown_carried read c.args.point (length c.args.moves.now) c.in_err-count.field-0.0 (omega arith) refused.0, refl, refused.1, refused.2, refused.3)

pub returns : goal.returns
returns c =
    let read : ReadFrom c.args.bytes.now (length c.args.lent.now) (length c.args.chains.now) (length c.args.rooms.now) c.in_ok-size.size c.in-Some-exactly.cells.now c.in_ok-position.position =
    record { memory = c.in_ok-size.ensures; cells_are = c.in-Some-exactly.ensures.0 ∙ c.after_size-rest.ensures; made = c.in_ok-position.ensures } in
    let enough = c.in-Some.ensures in
    shown_carried read c.args.point c.args.moves.now c.show.new.chains c.show.new.rooms c.show.new.moves c.in_ok-count.count (omega arith) c.in_ok-count.ensures c.place.ensures
