use Rattle.std.proofs.Common.{false, get_or}
use Rattle.chains.specs.Board.{mine}
use Rattle.chains.specs.Sized.{seen}
use Rattle.chains.proofs.States.{is_state_true}
use Rattle.capture.proofs.Carrying.{breathe_stands, carried_judges}
use Rattle.capture.proofs.Fate.{unmarked_unheld}
use Rattle.capture.proofs.judgement.Judgement.take.Goals as goal

pub write_row-requires : goal.write_row-requires
write_row-requires c =
    let judgement = c.args.self.now in
    let size = judgement.position.size in
    let board = seen size judgement.position.cells judgement.colour in
    let marked = judgement.marks.marked in
    let stone = is_state_true mine (board c.args.point) c.requires.stone in
    record {
      long = c.requires.long;
      stands = breathe_stands size judgement.position.cells judgement.stands judgement.colour;
      stone = stone;
      unheld = unmarked_unheld size.width size.height board (λ p. get_or marked p false) c.args.point
          (carried_judges size.width size.height board (λ p. get_or marked p false) judgement.right) stone c.requires.unmarked;
    }
