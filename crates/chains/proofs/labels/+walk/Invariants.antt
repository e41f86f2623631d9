use Rattle.chains.specs.Computed.{count}
use Rattle.chains.specs.Sized.{count_of, near_of}
use Rattle.chains.proofs.Walk.{unlabelled, Walking}
use Rattle.chains.proofs.labels.+walk.Given as goal

-- how many points have no label
abbrev pub decreases-walk : goal.decreases-walk
decreases-walk l = count (unlabelled l.labels.now) (count_of l.size)

abbrev pub invariant-loop-q : goal.invariant-loop-q
invariant-loop-q l = Walking (count_of l.size) (near_of l.size) l.classes l.p l.name l.initial.labels l.labels l.yielded
