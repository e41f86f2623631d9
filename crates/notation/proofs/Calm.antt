-- The first stone without a liberty, found on a position that was made of the bytes.
use Rattle.std.proofs.Common.{◌≡◌, ℕ, ◌≤◌, List, length, take, None, ap, ◌∙◌, arith}
use Rattle.std.proofs.lemmas.List.{take_all}
use Rattle.std.proofs.lemmas.Bool.Decides.{nat_tests}
use Rattle.std.specs.List.{prefix_len}
use Rattle.grid.specs.declared.size.Size.{Size}
use Rattle.chains.specs.Board.{Board}
use Rattle.chains.specs.Breath.{first_breathless}
use Rattle.chains.specs.Sized.{count_of, near_of, seen}
use Rattle.chains.specs.Views.{is_point, points_refusal}
use Rattle.chains.specs.declared.colour.Colour.TheVariants.{Black}
use Rattle.chains.specs.declared.position.Position.{Position}
use Rattle.chains.proofs.Views.{same_view}

-- it is that of the bytes
pub calm_of : (position : Position) (size : Size) (bytes : List ℕ) → position.size ≡ size → take (count_of size) position.cells ≡ take (count_of size) bytes →
    first_breathless (count_of position.size) (near_of position.size) (seen position.size position.cells Black)
    ≡ first_breathless (count_of size) (near_of size) (seen size bytes Black)
calm_of position size bytes e f =
    ap (λ (s : Size). first_breathless (count_of s) (near_of s) (seen s position.cells Black)) e
    ∙ ap (λ (b : Board). first_breathless (count_of size) (near_of size) b) (same_view (count_of size) position.cells bytes Black f)

-- bytes that are all points make a position
pub all_points : (n : ℕ) (bytes : List ℕ) → length bytes ≡ n → length bytes ≤ prefix_len is_point bytes → points_refusal n bytes ≡ None
all_points n bytes all good =
    let same : prefix_len is_point (take n bytes) ≡ prefix_len is_point bytes = ap (prefix_len is_point) (take_all n bytes (omega arith)) in
    grind (arith, nat_tests)
