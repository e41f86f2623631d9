use Rattle.grid.proofs.Square.{graph}
use Rattle.chains.proofs.Views.{labelled_chains}
use Rattle.chains.proofs.position.Position.label_chains.Goals as goal

pub returns : goal.returns
returns c = record {
  chained = labelled_chains (graph c.args.self.now.size.width c.args.self.now.size.height) c.label_points.ensures.firsts c.args.self.now.board;
  past = c.label_points.ensures.past;
}
