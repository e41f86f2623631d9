use Rattle.std.proofs.Common.{◌≡◌, ℕ, ◌<◌, ◌∙◌, List, true, get_or, take, refl, ap, sym, subst, arith}
use Rattle.std.proofs.lemmas.List.{get_or-take}
use Rattle.std.proofs.lemmas.List.Sums.{prefix_len_passes}
use Rattle.chains.specs.Sized.{count_of}
use Rattle.chains.specs.Views.{is_point}
use Rattle.chains.proofs.Cells.{on_empty, cell_of, empty_past, front_copied}
use Rattle.chains.proofs.position.Position.of_points.Goals as goal

pub invariant_of-result : goal.invariant_of-result
invariant_of-result c =
    let n = count_of c.args.size in
    let bytes = c.args.bytes.now in
    let same : c.points.result ≡ n = omega arith in
    let is = subst (λ (k : ℕ). c.on_empty-cells.result ≡ on_empty k bytes) same c.on_empty-cells.ensures in
    record {
      board = λ p l. subst (λ (b : ℕ). is_point b ≡ true)
          (get_or-take n bytes p 0 l ∙ sym (cell_of n p bytes c.requires.long l) ∙ ap (λ (xs : List ℕ). get_or xs p 0) (sym is))
          (prefix_len_passes is_point (take n bytes) p 0 (omega (arith, c.requires.good)));
      past = λ p l m. subst (λ (xs : List ℕ). get_or xs p 0 ≡ 46) (sym is) (empty_past n p bytes c.requires.long l m);
    }

pub returns : goal.returns
returns c =
    let n = count_of c.args.size in
    let same : c.points.result ≡ n = omega arith in
    let is = subst (λ (k : ℕ). c.on_empty-cells.result ≡ on_empty k c.args.bytes.now) same c.on_empty-cells.ensures in
    record {
      sized = refl;
      copied = ap (take n) is ∙ front_copied n c.args.bytes.now c.requires.long;
    }
