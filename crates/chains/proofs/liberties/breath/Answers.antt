use Rattle.std.proofs.Common.{arith}
use Rattle.grid.proofs.Square.{graph}
use Rattle.chains.proofs.Marking.{unmarked, label_inside, breath_marks}
use Rattle.chains.proofs.liberties.breath.Goals as goal

pub invariant_of-labels : goal.invariant_of-labels
invariant_of-labels c = record {
  celled = c.requires;
  labelled = omega arith;
  inside = label_inside c.label_points.ensures.firsts;
}

pub mark_chains-requires : goal.mark_chains-requires
mark_chains-requires c = unmarked 361

pub returns : goal.returns
returns c = breath_marks (graph c.args.size.width c.args.size.height) c.mark_stones.result c.label_points.ensures.firsts c.mark_chains.ensures c.mark_stones.ensures
