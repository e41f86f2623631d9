use Rattle.std.proofs.Common.{sym, ap, ◌∙◌, arith}
use Rattle.std.proofs.lemmas.Bool.{not-false}
use Rattle.chains.specs.Sized.{count_of}
use Rattle.capture.proofs.Seeking.{seen_start, seen_skip, seen_vital, seen_all}
use Rattle.capture.proofs.target.Target.next_liberty.Goals as goal
use Rattle.capture.proofs.target.Target.next_liberty.Goals.{then-is_liberty+else-is_spare, else-is_liberty}

pub loop-p-init : goal.loop-p-init
loop-p-init c = seen_start

pub loop-p-preserved : goal.loop-p-preserved
loop-p-preserved c =
    elim c.if-is_liberty.branch [
      | then-is_liberty+else-is_spare w ↦ seen_vital c.loop-p.invariant w.last-is (c.is_liberty.ensures.yes w.if-is_liberty.true) (not-false _ (sym w.is_spare.ensures ∙ w.if-is_spare.false))
      | else-is_liberty w ↦ seen_skip c.if-is_liberty.last c.loop-p.invariant w.last-is (c.is_liberty.ensures.no w.if-is_liberty.false)
    ]

pub returns : goal.returns
returns c = seen_all c.loop-p.last (omega (arith, ap count_of c.size.ensures)) c.loop-p.invariant
