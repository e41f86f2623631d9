-- Positions of one size with the same points are one position.
use Rattle.std.proofs.Common.{◌≡◌, ℕ, ◌*◌, ◌<◌, ◌≤◌, Bool, true, ◌&&◌, eqb, ◌⊎◌, length, get_or, sym, refl, ◌∙◌, subst, inl, inr, arith}
use lib.Pointwise.{pointwise}
use mathlib.Core.HLevel.{is_prop→PathP}
use Rattle.std.proofs.Props.{props}
use Rattle.std.proofs.lemmas.Bool.{cases_lt, and_parts, and_from, eqb-true, eq-eqb}
use Rattle.std.proofs.lemmas.Bool.Decides.{Decides-eqb}
use Rattle.std.proofs.lemmas.Slice.Eq.{slice_eq-Decides}
use Rattle.std.proofs.lemmas.List.{ext_get_or}
use Rattle.grid.specs.declared.size.Size.{Size}
use Rattle.chains.specs.Sized.{count_of}
use Rattle.chains.specs.Views.{is_point}
use Rattle.chains.specs.declared.position.Position.{Position}

position_is : (a b : Position) → a.size ≡ b.size → a.cells ≡ b.cells → a ≡ b
position_is a b s t = λ i. record {
  size = s i;
  cells = t i;
  board = is_prop→PathP (λ j. (p : ℕ) → p < count_of (s j) → is_point (get_or (t j) p 0) ≡ true) (λ j. Prim.hlevel props) a.board b.board i;
  past = is_prop→PathP (λ j. (p : ℕ) → count_of (s j) ≤ p → p < 361 → get_or (t j) p 0 ≡ 46) (λ j. Prim.hlevel props) a.past b.past i;
}

-- past the board they are empty
pub positions_alike : (a b : Position) → a.size ≡ b.size → length a.cells ≡ 361 → length b.cells ≡ 361 → ((p : ℕ) → p < count_of b.size → get_or a.cells p 0 ≡ get_or b.cells p 0) → a ≡ b
positions_alike a b s l m f = position_is a b s (ext_get_or 0 a.cells b.cells (l ∙ sym m) (λ p k. at_point p (omega arith) (cases_lt p (count_of b.size))))
  where
    at_point : (p : ℕ) → p < 361 → (p < count_of b.size) ⊎ (count_of b.size ≤ p) → get_or a.cells p 0 ≡ get_or b.cells p 0
    at_point p k (inl o) = f p o
    at_point p k (inr o) = a.past p (subst (λ (z : Size). count_of z ≤ p) (sym s) o) k ∙ sym (b.past p o k)

size_is : (a b : Size) → a.width ≡ b.width → a.height ≡ b.height → a ≡ b
size_is a b s t = λ i. record {
  width = s i;
  height = t i;
  ok = is_prop→PathP (λ j. (1 ≤ s j) × (s j ≤ 19) × (1 ≤ t j) × (t j ≤ 19)) (λ j. Prim.hlevel props) a.ok b.ok i;
  few = is_prop→PathP (λ j. (1 ≤ s j * t j) × (s j * t j ≤ 361)) (λ j. Prim.hlevel props) a.few b.few i;
}

-- the derived test of two positions says whether they are one
abbrev pub alike : Position → Position → Bool
alike a b = (eqb a.size.width b.size.width && eqb a.size.height b.size.height) && pointwise eqb a.cells b.cells

pub alike_same : (a b : Position) → alike a b ≡ true → a ≡ b
alike_same a b e =
    let f = and_parts (eqb a.size.width b.size.width && eqb a.size.height b.size.height) (pointwise eqb a.cells b.cells) e in
    let g = and_parts (eqb a.size.width b.size.width) (eqb a.size.height b.size.height) f.0 in
    position_is a b (size_is a.size b.size (eqb-true a.size.width b.size.width g.0) (eqb-true a.size.height b.size.height g.1))
    ((slice_eq-Decides Decides-eqb a.cells b.cells (pointwise eqb a.cells b.cells) refl).0 f.1)

pub alike_self : (a : Position) → alike a a ≡ true
alike_self a = and_from (eqb a.size.width a.size.width && eqb a.size.height a.size.height) (pointwise eqb a.cells a.cells)
    (and_from (eqb a.size.width a.size.width) (eqb a.size.height a.size.height) (eq-eqb a.size.width a.size.width refl) (eq-eqb a.size.height a.size.height refl))
    ((slice_eq-Decides Decides-eqb a.cells a.cells (pointwise eqb a.cells a.cells) refl).1 refl)
