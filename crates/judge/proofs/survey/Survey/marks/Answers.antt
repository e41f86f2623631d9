use Rattle.std.proofs.Common.{false, get_or, ap, ◌∙◌}
use Rattle.chains.specs.Sized.{count_of}
use Rattle.judge.proofs.Surveyed.{survey_judges, kept_past}
use Rattle.judge.proofs.survey.Survey.marks.Goals as goal

pub returns : goal.returns
returns c =
    let survey = c.args.self.now in
    record {
      right = survey_judges (λ p. get_or c.stones.result p false) survey.written survey.position.now.size.few.1 c.all.ensures (c.points.ensures.value ∙ ap count_of c.size.ensures)
          c.strike-left.ensures.rounds c.strike-left.ensures.enough c.stones.ensures;
      past = λ p l. c.stones.ensures p ∙ kept_past survey.position.now.size survey.position.now.cells survey.colour survey.chains.now c.strike-left.result.chains.words p l;
    }
