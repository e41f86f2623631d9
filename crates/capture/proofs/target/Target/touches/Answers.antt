use Rattle.std.proofs.Common.{rules}
use Rattle.std.proofs.lemmas.Iterator.Consumers.{YieldsList-from_first}
use Rattle.std.proofs.lemmas.Iterator.Search.{any_from_yields_List}
use Rattle.grid.specs.Ahead.{ahead}
use Rattle.grid.specs.Neighbours.{neighbours_of}
use Rattle.capture.specs.Target.{has_label}
use Rattle.capture.proofs.target.Target.touches.Goals as goal

pub returns : goal.returns
returns c =
    any_from_yields_List (has_label c.args.self.now.chains c.args.self.now.chain) c.any.new.self _ c.any.result c.any.ensures.ran
    (YieldsList-from_first (λ x. x) ahead (neighbours_of c.args.size.width c.args.size.height c.args.p) c.neighbours.ensures) (λ x b q k. search rules)
