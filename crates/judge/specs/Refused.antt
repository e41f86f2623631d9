-- Why a position is not judged. Assumes nothing: these are definitions.
use Rattle.std.specs.Prelude.{ℕ, List, length, Option, nat_le}
use Rattle.grid.specs.Refusals.{unless}
use Rattle.grid.specs.declared.size.Size.{Size}
use Rattle.chains.specs.Breath.{stand_refusal}
use Rattle.chains.specs.Sized.{count_of, near_of, seen}
use Rattle.chains.specs.declared.colour.Colour.TheVariants.{Black}

-- the lent chains are too short, or the lent rooms are, or a stone has no liberty: the first that applies.
-- Which stones have liberties is the same seen from either side
abbrev pub judge_refusal : Size → List ℕ → List ℕ → List ℕ → Option (ℕ × ℕ)
judge_refusal size cells chains rooms =
    unless (nat_le (count_of size) (length chains)) (12, 1)
    (unless (nat_le (count_of size) (length rooms)) (12, 2)
    (stand_refusal (count_of size) (near_of size) (seen size cells Black)))
