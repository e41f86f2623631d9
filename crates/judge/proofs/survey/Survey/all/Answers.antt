use Rattle.std.proofs.Common.{◌≡◌, ◌<◌, ap, ◌∙◌, arith}
use Rattle.chains.specs.Sized.{count_of}
use Rattle.judge.proofs.Gathering.{gathered_chain, gathered_room}
use Rattle.judge.proofs.Surveyed.{survey_chain, survey_room, survey_all}
use Rattle.judge.proofs.survey.Survey.all.Goals as goal
use Rattle.judge.proofs.survey.Survey.all.Goals.{then-is_own, else-is_own}

pub loop-p-preserved : goal.loop-p-preserved
loop-p-preserved c =
    elim c.if-is_own.branch [
      | then-is_own w ↦
          (let below = survey_chain c.loop-p.p c.args.self.now.written w.if-is_own.ensures in
          gathered_chain w.insert.new.self c.loop-p.invariant w.if-is_own.ensures (w.insert.ensures.inserted (omega arith)) w.chains-is w.rooms-is)
      | else-is_own w ↦
          (let inside : c.loop-p.p < count_of c.args.self.now.position.now.size = omega (arith, c.points-p-end.ensures.value ∙ ap count_of c.size.ensures) in
          let below = survey_room c.loop-p.p c.args.self.now.written inside w.if-is_own.ensures in
          gathered_room w.insert-else-is_own.new.self c.loop-p.invariant w.if-is_own.ensures (w.insert-else-is_own.ensures.inserted (omega arith)) w.chains-is w.rooms-is)
    ]

pub returns : goal.returns
returns c =
    let all : c.loop-p.p ≡ c.points-p-end.result = omega arith in
    survey_all c.loop-p.chains.words c.loop-p.rooms.words c.args.self.now.written (all ∙ c.points-p-end.ensures.value ∙ ap count_of c.size.ensures) c.loop-p.invariant
