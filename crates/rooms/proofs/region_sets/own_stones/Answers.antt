use Rattle.std.proofs.Common.{ℕ, List, get_or, ap, ◌∙◌, arith, rules}
use Rattle.chains.specs.Views.{stone_byte}
use Rattle.chains.proofs.Filled.{filled_by}
use Rattle.rooms.specs.Regioned.{own_byte}
use Rattle.rooms.proofs.region_sets.own_stones.Goals as goal

pub returns : goal.returns
returns c p l =
    filled_by (λ (i : ℕ). own_byte (stone_byte c.args.colour) (get_or c.cells-cells.result i 0)) 0 c.from_fn.ensures.items (λ i y q called. search rules) p (omega (arith, c.args.position.now.size.few.1))
    ∙ ap (λ (cells : List ℕ). own_byte (stone_byte c.args.colour) (get_or cells p 0)) c.cells-cells.ensures
