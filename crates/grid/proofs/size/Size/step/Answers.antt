use Rattle.grid.proofs.Square.{handed_near, handed_after}
use Rattle.grid.proofs.size.Size.step.Goals as goal

pub returns : goal.returns
returns c =
    let w = c.args.self.width in
    let h = c.args.self.height in
    record {
      value = c.beside.ensures;
      sound = handed_near w h c.args.p c.args.k c.beside.result c.beside.ensures;
      ordered = handed_after w h c.args.p c.args.k c.beside.result c.beside.ensures;
    }
