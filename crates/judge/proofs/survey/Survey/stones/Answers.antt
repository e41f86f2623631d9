use Rattle.std.proofs.Common.{◌≡◌, subst, arith}
use Rattle.grid.specs.declared.size.Size.{Size}
use Rattle.chains.specs.Sized.{count_of}
use Rattle.chains.proofs.Marking.{stones_start, stones_step, stones_end}
use Rattle.judge.proofs.Surveyed.{kept_past}
use Rattle.judge.proofs.survey.Survey.stones.Goals as goal

pub loop-p-init : goal.loop-p-init
loop-p-init c = stones_start

pub loop-p-preserved : goal.loop-p-preserved
loop-p-preserved c = stones_step c.loop-p.invariant (omega arith) c.stays.ensures

pub returns : goal.returns
returns c =
    let survey = c.args.self.now in
    let all : c.loop-p.p ≡ count_of survey.position.now.size = subst (λ (s : Size). c.loop-p.p ≡ count_of s) c.size.ensures (omega arith) in
    stones_end (kept_past survey.position.now.size survey.position.now.cells survey.colour survey.chains.now c.args.left.now.words) c.loop-p.invariant all
