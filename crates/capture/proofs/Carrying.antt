-- The facts that a judgement carries, and what they say.
use Rattle.std.proofs.Common.{◌≡◌, ℕ, true, List, None, refl, arith}
use Rattle.std.proofs.Math.Logic.{∥∥₁_elim}
use Rattle.std.proofs.lemmas.Bool.Decides.{nat_tests}
use Rattle.grid.specs.declared.size.Size.{Size}
use Rattle.grid.proofs.Square.{graph}
use Rattle.chains.specs.Board.{Board}
use Rattle.chains.specs.Breath.{stand_refusal}
use Rattle.chains.specs.Sized.{count_of, near_of, seen}
use Rattle.chains.specs.Stands.{Stands}
use Rattle.chains.specs.declared.colour.Colour.{Colour}
use Rattle.chains.specs.declared.colour.Colour.TheVariants.{Black, White}
use Rattle.chains.proofs.Breath.{not_refused_stand, first_breathless_turned}
use Rattle.chains.proofs.Square.{stand_stands}
use Rattle.chains.proofs.Views.{view_byte}
use Rattle.rooms.specs.Safe.{Marks}
use Rattle.judge.specs.Promise.{Judges}
use Rattle.judge.specs.Refused.{judge_refusal}
use Rattle.judge.proofs.Surveyed.{judges_prop}
use Rattle.capture.specs.Judged.{all_breathe}

-- a position that is judged can stand
pub judged_breathe : (size : Size) (cells chains rooms : List ℕ) → judge_refusal size cells chains rooms ≡ None → all_breathe size cells ≡ true
judged_breathe size cells chains rooms e = grind (arith, nat_tests)

-- a board on which every stone breathes can stand, as either side sees it
pub breathe_stands : (size : Size) (cells : List ℕ) → all_breathe size cells ≡ true → (side : Colour) → Stands size.width size.height (seen size cells side)
breathe_stands size cells e side = stand_stands (not_refused_stand (graph size.width size.height) (seen size cells side) (λ p s. (view_byte (count_of size) cells side (seen size cells side p) p s refl).0) (no_line side))
  where
    no_line : (k : Colour) → stand_refusal (count_of size) (near_of size) (seen size cells k) ≡ None
    no_line Black = rw e refl
    no_line White = rw (first_breathless_turned (graph size.width size.height) cells Black, e) refl

-- a judgement has one proof, so a value that carries one gives it back
pub carried_judges : (w h : ℕ) (b : Board) (s : Marks) → ∥ Judges w h b s ∥₁ → Judges w h b s
carried_judges w h b s carried = ∥∥₁_elim carried (judges_prop w h b s) (λ j. j)
