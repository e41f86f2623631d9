use Rattle.std.proofs.Common.{◌≡◌, false, get_or, rules}
use Rattle.chains.specs.Changed.{kept_byte}
use Rattle.chains.proofs.Filled.{filled}
use Rattle.chains.proofs.position.kept_cells.Goals as goal

pub returns : goal.returns
returns c = filled (λ p y. y ≡ kept_byte c.args.gone (get_or c.args.cells.now p 0) (get_or c.args.breathing.now p false))
    (λ q p y k. let s = k.met.1 in ((λ i. (s.0 i, s.1 i, s.2 i)), let e = k.met.0 in search rules)) 0 c.from_fn.ensures.items
