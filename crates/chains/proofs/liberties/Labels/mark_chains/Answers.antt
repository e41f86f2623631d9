use Rattle.std.proofs.Common.{sym, ◌∙◌, arith}
use Rattle.chains.specs.Sized.{count_of}
use Rattle.chains.proofs.Marking.{marked_start, marked_skip, marked_step, marked_end}
use Rattle.chains.proofs.liberties.Labels.mark_chains.Goals as goal
use Rattle.chains.proofs.liberties.Labels.mark_chains.Goals.{then-not-is_stone, else-not-is_stone}

pub loop-p-init : goal.loop-p-init
loop-p-init c = marked_start c.requires

pub loop-p-preserved : goal.loop-p-preserved
loop-p-preserved c =
    elim c.if-not-is_stone.branch [
      | then-not-is_stone w ↦ marked_step c.loop-p.invariant w.marks-is (sym c.is_stone.ensures ∙ w.if-not-is_stone.true) w.mark_beside.ensures
      | else-not-is_stone w ↦ marked_skip c.loop-p.invariant w.marks-is (sym c.is_stone.ensures ∙ w.if-not-is_stone.false)
    ]

pub returns : goal.returns
returns c = marked_end (count_of c.args.self.now.size) (omega arith) c.loop-p.invariant
