use Rattle.std.proofs.Common.{◌≡◌, ℕ, ◌-◌, subst}
use Rattle.std.specs.List.{find, range_with_len}
use Rattle.chains.specs.Sized.{count_of}
use Rattle.chains.proofs.Searching.{unmarked_stone, search_next, search_found, search_value}
use Rattle.chains.proofs.liberties.breathless_from.Goals as goal

pub returns : goal.returns
returns c =
    let size = c.args.size in
    let marks = c.breath-marks.ensures in
    let found = subst (λ (n : ℕ). c.unmarked_from.result ≡ find (unmarked_stone c.args.cells.now c.breath-marks.result) (range_with_len c.args.from (n - c.args.from))) c.points.ensures.value c.unmarked_from.ensures in
    record {
      next = search_next size.width size.height c.args.cells.now c.breath-marks.result c.args.from marks c.unmarked_from.result found;
      found = search_found size.width size.height c.args.cells.now c.breath-marks.result c.args.from marks c.unmarked_from.result found;
      value = search_value size.width size.height c.args.cells.now c.breath-marks.result c.args.from marks c.unmarked_from.result found;
    }
