use Rattle.chains.specs.Computed.{count}
use Rattle.chains.specs.Sized.{count_of, near_of}
use Rattle.capture.specs.Row.{board_of, Phase, empty_both, RowGoesOn}
use Rattle.capture.proofs.capturing.Row.take_chain.Given as goal

abbrev pub invariant-loop-self : goal.invariant-loop-self
invariant-loop-self l =
    Phase (count_of l.initial.self.position.size) (near_of l.initial.self.position.size) (board_of l.initial.self) l.target (board_of l.self) × RowGoesOn l.initial.self l.self

abbrev pub decreases-loop-self : goal.decreases-loop-self
decreases-loop-self l = count (empty_both (board_of l.initial.self) (board_of l.self)) (count_of l.initial.self.position.size)
