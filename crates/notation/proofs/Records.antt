-- A record's board that was written into lent memory is not turned away again.
use Rattle.std.proofs.Common.{◌≡◌, ℕ, ◌%◌, ◌≤◌, true, eqb, List, ◌++◌, length, take, None, sym, ap, ◌∙◌, arith, length-append}
use Rattle.std.proofs.lemmas.List.{take_at, take_all}
use Rattle.std.proofs.lemmas.Bool.Decides.{nat_tests}
use Rattle.std.specs.List.{prefix_len}
use Rattle.grid.specs.Grid.{points, near}
use Rattle.chains.specs.Board.{Board}
use Rattle.chains.specs.Breath.{first_breathless}
use Rattle.chains.specs.Views.{is_point, view}
use Rattle.chains.specs.declared.colour.Colour.TheVariants.{Black}
use Rattle.chains.proofs.Views.{same_view}
use Rattle.referee.specs.Record.{record_refusal}
use Rattle.notation.specs.Layout.{cells_refusal}

-- the board is that of the bytes
pub placed_view : (n : ℕ) (cells rest : List ℕ) → length cells ≡ n → view n (cells ++ rest) Black ≡ view n cells Black
placed_view n cells rest e = same_view n (cells ++ rest) cells Black (take_at cells rest n e ∙ sym (take_all n cells (omega arith)))

pub placed_fine : (w h : ℕ) (cells rest moves : List ℕ) → length cells ≡ points w h → cells_refusal w h cells ≡ None → eqb (length moves % 2) 0 ≡ true → record_refusal w h (cells ++ rest) moves ≡ None
placed_fine w h cells rest moves e good even =
    let n = points w h in
    let long : n ≤ length (cells ++ rest) = omega (arith, length-append cells rest) in
    let points_are : prefix_len is_point (take n (cells ++ rest)) ≡ prefix_len is_point cells = ap (prefix_len is_point) (take_at cells rest n e) in
    let calm_is : first_breathless n (near w h) (view n (cells ++ rest) Black) ≡ first_breathless n (near w h) (view n cells Black) = ap (λ (b : Board). first_breathless n (near w h) b) (placed_view n cells rest e) in
    grind (arith, nat_tests)
