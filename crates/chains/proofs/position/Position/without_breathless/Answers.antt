use Rattle.std.proofs.Common.{ℕ, false, get_or, ◌∙◌, ap}
use Rattle.chains.specs.Changed.{kept_byte}
use Rattle.chains.proofs.Changing.{kept_board, kept_so}
use Rattle.chains.proofs.position.Position.without_breathless.Goals as goal

pub invariant_of-result : goal.invariant_of-result
invariant_of-result c = let w = kept_board c.args.self _ _ _ c.kept_cells.ensures in record { board = w.0; past = w.1 }

pub returns-clause-left : goal.returns-clause-left
returns-clause-left c = λ p l.
    c.kept_cells.ensures p l ∙ ap (λ (gone : ℕ). kept_byte gone (get_or c.args.self.cells p 0) (get_or c.breath-marks.result p false)) c.byte-gone.ensures
    ∙ kept_so c.args.self c.args.colour c.breath-marks.result c.breath-marks.ensures p l
