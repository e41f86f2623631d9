-- One judgement: two that are right mark the same. And boards that can stand go on standing.
use Rattle.std.proofs.Common.{◌≡◌, Bool, true, false, sym, refl}
use Rattle.grid.specs.Grid.{near}
use Rattle.play.proofs.Moves.{goes_on}
use Rattle.judge.specs.Promise.{Judges, OneJudgement}
use Rattle.judge.specs.AnyBoard.{JudgesOver, OneJudgementOver, GoesOnOver}

same_bool : (x y : Bool) → (x ≡ true → y ≡ true) → (y ≡ true → x ≡ true) → x ≡ y
same_bool true y f g = sym (f refl)
same_bool false true f g = g refl
same_bool false false f g = refl

-- two judgements that are right mark the same
pub one_judgement_over : OneJudgementOver
unfolding OneJudgementOver JudgesOver
one_judgement_over near b s t j k p =
    same_bool (s p) (t p)
    (λ h. let w = (j p).0 h in (k p).1 w.0 w.1)
    (λ h. let w = (k p).0 h in (j p).1 w.0 w.1)

-- the same on the square board
pub one_judgement : OneJudgement
unfolding OneJudgement Judges OneJudgementOver JudgesOver
one_judgement w h b s t j k p = one_judgement_over (near w h) b s t j k p

-- boards that can stand go on standing
pub goes_on_over : GoesOnOver
unfolding GoesOnOver
goes_on_over n near g b d x s m = goes_on g s m
