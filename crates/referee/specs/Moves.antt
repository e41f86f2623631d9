-- The numbers of moves and outcomes. Assumes nothing: these are definitions.
use Rattle.std.specs.Prelude.{ℕ, ◌+◌, ◌*◌, cond, List, [], ◌∷◌, Some, None, Option, ◌==◌}
use Rattle.grid.specs.Refusals.{listed}
use Rattle.referee.specs.declared.moves.Move.{Move}
use Rattle.referee.specs.declared.moves.Move.TheVariants.{Pass, At}
use Rattle.referee.specs.declared.outcome.Outcome.{Outcome}
use Rattle.referee.specs.declared.outcome.Outcome.TheVariants.{ToMove, Over, Refused}

-- how a record writes a move: 65,535 for a pass, else the point
abbrev pub move_number : Move → ℕ
move_number Pass = 65535
move_number (At x) = x

-- the move that a record writes so
abbrev pub move_of : ℕ → Move
move_of number = cond (number == 65535) Pass (At number)

-- the moves that bytes write, two bytes a move, low byte first; a last byte alone writes none
unfoldable pub moves_of : List ℕ → List Move
moves_of [] = []
moves_of (low ∷ []) = []
moves_of (low ∷ high ∷ rest) = move_of (low + 256 * high) ∷ moves_of rest

-- the number and the place of the outcome's refusal, if it is one
abbrev pub outcome_refusal : Outcome → Option (ℕ × ℕ)
outcome_refusal (ToMove colour) = None
outcome_refusal Over = None
outcome_refusal (Refused r) = Some (listed r)
