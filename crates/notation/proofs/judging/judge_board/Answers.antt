use Rattle.std.proofs.Common.{ℕ, List, length, None, sym, refl, ◌∙◌, subst}
use Rattle.std.proofs.lemmas.Result.{err_from_is_err_and}
use Rattle.grid.specs.declared.size.Size.{Size}
use Rattle.chains.specs.Board.{Board}
use Rattle.chains.specs.Sized.{seen}
use Rattle.chains.specs.declared.colour.Colour.{Colour}
use Rattle.notation.specs.Judging.{JudgedSo}
use Rattle.notation.proofs.Made.{ReadFrom, carry, judge_left, points_left, placed}
use Rattle.notation.proofs.judging.judge_board.Goals as goal

pub returns-in_err-marks : goal.returns-in_err-marks
returns-in_err-marks c =
    let read : ReadFrom c.args.bytes.now (length c.args.lent.now) (length c.args.chains.now) (length c.args.rooms.now) c.in_ok-size.size c.in-Some.cells.now c.in_ok-position.position =
    record { memory = c.in_ok-size.ensures; cells_are = c.in-Some.ensures.0 ∙ c.after_size-rest.ensures; made = c.in_ok-position.ensures } in
    let p = err_from_is_err_and c.from_residual-in_err-marks.result c.from_residual-in_err-marks.ensures.1 in
    let refused = c.in_err-marks.ensures in
    rw (p.1, p.2)
    (read.memory.no_line _ ∙ (points_left read None ∙ (sym (judge_left c.args.chains.now c.args.rooms.now read) ∙ sym refused.0)), refl, refused.1, refused.2)

pub returns : goal.returns
returns c =
    let read : ReadFrom c.args.bytes.now (length c.args.lent.now) (length c.args.chains.now) (length c.args.rooms.now) c.in_ok-size.size c.in-Some.cells.now c.in_ok-position.position =
    record { memory = c.in_ok-size.ensures; cells_are = c.in-Some.ensures.0 ∙ c.after_size-rest.ensures; made = c.in_ok-position.ensures } in
    let done = c.in_ok-marks.ensures in
    let chains = c.args.chains.now in
    let rooms = c.args.rooms.now in
    let judged =
    carry (λ (s : Size) (v : Colour → Board). JudgedSo s v c.args.colour c.in_ok-marks.marks.marked chains rooms c.judge.new.chains c.judge.new.rooms) read.made
    (record { right = done.1; past = done.2; entries = done.3; chained = done.4; roomed = done.5; chains_past = done.6; rooms_past = done.7 }) in
    record {
      good = read.memory.no_line _ ∙ (points_left read None ∙ (sym (judge_left chains rooms read) ∙ done.0));
      width = read.memory.width;
      height = read.memory.height;
      holds = placed read c.args.lent.now c.place.new.lent c.place.ensures;
      so = subst (λ (cs : List ℕ). JudgedSo c.in_ok-size.size (seen c.in_ok-size.size cs) c.args.colour c.in_ok-marks.marks.marked chains rooms c.judge.new.chains c.judge.new.rooms) read.cells_are judged;
    }
