use Rattle.std.proofs.Common.{sym, ◌∙◌}
use Rattle.capture.specs.Row.{board_of, Phase}
use Rattle.capture.proofs.Rows.{along}
use Rattle.capture.proofs.capturing.Row.take_chain.Goals as goal

pub loop-self-preserved : goal.loop-self-preserved
loop-self-preserved c =
    let start = c.args.self.now in
    let row = c.loop-self.self in
    let (phase, goes) = c.loop-self.invariant in
    let nearer = c.play_liberty.ensures.nearer (board_of start) (along (λ n near. Phase n near (board_of start) c.args.target.now (board_of row)) (sym goes.sized) phase) in
    let later = c.play_liberty.ensures.row in (
      along (λ n near. Phase n near (board_of start) c.args.target.now (board_of c.play_liberty.new.self)) goes.sized nearer.phase,
      record { sized = later.sized ∙ goes.sized; so_far = λ b s. later.so_far b (goes.so_far b s) },
    )
