use Rattle.std.proofs.Common.{rules}
use Rattle.capture.proofs.Verdicts.{comparing, found_in, found_below, verdict_right, verdict_missing, verdict_no_stone, verdict_too_many, shown_stone}
use Rattle.capture.proofs.audit.compare.Goals as goal

pub returns-in_default : goal.returns-in_default
returns-in_default c =
    verdict_right c.args.moves.now (comparing c.args.judgement.now c.args.marks.now c.requires.long (search rules)) (found_in c.args.marks.now c.in_default.ensures c.marks.ensures)

pub bounds-marks-point : goal.bounds-marks-point
bounds-marks-point c = found_below (comparing c.args.judgement.now c.args.marks.now c.requires.long (search rules)) (found_in c.args.marks.now c.in-Some.ensures c.marks.ensures)

pub returns-then-marks-point-ne-MARKED : goal.returns-then-marks-point-ne-MARKED
returns-then-marks-point-ne-MARKED c =
    verdict_missing c.args.moves.now (comparing c.args.judgement.now c.args.marks.now c.requires.long (search rules)) (found_in c.args.marks.now c.in-Some.ensures c.marks.ensures)
    c.if-marks-point-ne-MARKED.true

pub returns-in-Ok : goal.returns-in-Ok
returns-in-Ok c =
    let j = c.args.judgement.now in
    verdict_too_many (comparing j c.args.marks.now c.requires.long (search rules)) (found_in c.args.marks.now c.in-Some.ensures c.marks.ensures) c.if-marks-point-ne-MARKED.false
    (shown_stone j.position j.colour j.marks c.in-Some.point _ c.in-Ok.ensures.answer.0) c.in-Ok.ensures.answer.1

pub returns-in-Err : goal.returns-in-Err
returns-in-Err c =
    verdict_no_stone c.args.judgement.now (comparing c.args.judgement.now c.args.marks.now c.requires.long (search rules)) (found_in c.args.marks.now c.in-Some.ensures c.marks.ensures)
    c.if-marks-point-ne-MARKED.false c.requires.written c.in-Err.ensures.answer
