-- What holds of a position that was made of bytes holds of the bytes.
use Rattle.std.proofs.Common.{◌≡◌, ℕ, ◌≤◌, List, length, take, None, subst, arith}
use mathlib.Core.Path.{fun_ext}
use Rattle.std.proofs.lemmas.Bool.Decides.{nat_tests}
use Rattle.std.specs.List.{prefix_len}
use Rattle.grid.specs.declared.size.Size.{Size}
use Rattle.chains.specs.Board.{Board}
use Rattle.chains.specs.Sized.{count_of, seen}
use Rattle.chains.specs.Views.{is_point, points_refusal}
use Rattle.chains.specs.declared.colour.Colour.{Colour}
use Rattle.chains.specs.declared.position.Position.{Position}
use Rattle.chains.proofs.Views.{same_view}
use Rattle.judge.specs.Refused.{judge_refusal}
use Rattle.notation.specs.Layout.{cells_refusal}
use Rattle.notation.proofs.Calm.{all_points}

pub carry : (P : Size → (Colour → Board) → Type 0) (position : Position) (size : Size) (bytes : List ℕ) → position.size ≡ size →
    take (count_of size) position.cells ≡ take (count_of size) bytes → P position.size (seen position.size position.cells) → P size (seen size bytes)
carry P position size bytes e f h =
    subst (λ (v : Colour → Board). P size v) (fun_ext (λ colour. same_view (count_of size) position.cells bytes colour f))
    (subst (λ (s : Size). P s (seen s position.cells)) e h)

-- bytes that are not turned away are points
pub cells_points : (size : Size) (cells : List ℕ) → length cells ≡ count_of size → cells_refusal size.width size.height cells ≡ None → points_refusal (count_of size) cells ≡ None
cells_points size cells all good =
    let enough : length cells ≤ prefix_len is_point cells = grind (arith, nat_tests) in
    all_points (count_of size) cells all enough

-- and are judged, where memory is lent
pub cells_judged : (size : Size) (cells chains rooms : List ℕ) → cells_refusal size.width size.height cells ≡ None → count_of size ≤ length chains → count_of size ≤ length rooms →
    judge_refusal size cells chains rooms ≡ None
cells_judged size cells chains rooms good c r = grind (arith, nat_tests)
