use Rattle.std.proofs.Common.{ltb, get_or, sym, ◌∙◌, arith}
use Rattle.std.proofs.lemmas.Bool.{and_parts, ltb-true}
use Rattle.chains.specs.Sized.{count_of}
use Rattle.chains.specs.Views.{is_stone}
use Rattle.chains.proofs.liberties.Labels.is_marked.Goals as goal

pub bounds-chains-self : goal.bounds-chains-self
bounds-chains-self c =
    let labels = c.args.self.now in
    let n = count_of labels.size in
    let stone = and_parts (ltb c.args.p n) (is_stone (get_or labels.cells.now c.args.p 0)) (sym c.has_stone.ensures ∙ c.if-has_stone.true) in
    omega (arith, labels.size.few.1, labels.inside c.args.p (ltb-true c.args.p n stone.0) stone.1)
