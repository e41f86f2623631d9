-- How a record's end is printed. Assumes nothing: these are definitions.
use Rattle.std.specs.Prelude.{ℕ, List, ◌∷◌, ◌++◌, codes, decimal}
use Rattle.grid.specs.Refusals.{number_of, place_of}
use Rattle.chains.specs.Views.{stone_byte}
use Rattle.referee.specs.declared.outcome.Outcome.{Outcome}
use Rattle.referee.specs.declared.outcome.Outcome.TheVariants.{ToMove, Over, Refused}

-- whose turn it is, that the record is over, or the move that is refused
abbrev pub outcome_text : Outcome → List ℕ
outcome_text (ToMove colour) = stone_byte colour ∷ codes " to move"
outcome_text Over = codes "over"
outcome_text (Refused e) = codes "move " ++ (decimal (place_of e) ++ (codes " refused " ++ decimal (number_of e)))
