-- What is promised of records, on a board of any shape, and the smallest ko as an example. Each statement is a type whose proof is owed. Assumes nothing.
use Rattle.std.specs.Prelude.{◌≡◌, ℕ, suc, ◌<◌, ◌≤◌, Bool, true, false, List, [], ◌∷◌, length, take}
use Rattle.grid.specs.Graph.{Near, Graph}
use Rattle.grid.specs.Grid.{points, near}
use Rattle.grid.specs.Refusals.{place_of}
use Rattle.grid.specs.declared.refusal.Refusal.{Refusal}
use Rattle.grid.specs.declared.refusal.Refusal.TheVariants.{Ko}
use Rattle.chains.specs.Board.{none, yours, Board}
use Rattle.chains.specs.Stands.{Stand}
use Rattle.referee.specs.declared.moves.Move.{Move}
use Rattle.referee.specs.declared.moves.Move.TheVariants.{At}
use Rattle.referee.specs.declared.outcome.Outcome.{Outcome}
use Rattle.referee.specs.declared.outcome.Outcome.TheVariants.{ToMove, Over, Refused}
use Rattle.referee.specs.declared.outcome.Answer.{Answer}
use Rattle.referee.specs.Rules.{Same, move_at, Refereed}

-- whether no move is refused
abbrev pub accepts : Outcome → Bool
accepts (ToMove colour) = true
accepts Over = true
accepts (Refused r) = false

-- every record on a board that can stand has an answer and a last board
unfoldable pub RecordAnswered : Type 0
RecordAnswered = (n : ℕ) (near : Near) → Graph n near → (start : Board) → Stand n near start → (ms : List Move) → (answer : Answer) × (final : Board) × Refereed n near start ms answer final

-- and no second one, whatever the neighbours and the first board
unfoldable pub RecordUnique : Type 0
RecordUnique = (n : ℕ) (near : Near) (start : Board) (ms : List Move) (a b : Answer) (c d : Board) → Refereed n near start ms a c → Refereed n near start ms b d → (a ≡ b) × Same c d

-- the board that is left can stand
unfoldable pub RecordStands : Type 0
RecordStands = (n : ℕ) (near : Near) → Graph n near → (start : Board) → Stand n near start → (ms : List Move) (answer : Answer) (final : Board) → Refereed n near start ms answer final → Stand n near final

-- what a record comes to if it is cut before its refused move: no move is refused, and board, passes and taken stones are the same
pub record Cut (n : ℕ) (near : Near) (start : Board) (ms : List Move) (answer : Answer) (final : Board) (k : ℕ) : Type 0 where
  pub within : k < length ms
  pub cut : Answer
  pub refereed : Refereed n near start (take k ms) cut final
  pub accepted : accepts cut.outcome ≡ true
  pub passes : cut.passes ≡ answer.passes
  pub black : cut.black_taken ≡ answer.black_taken
  pub white : cut.white_taken ≡ answer.white_taken

-- a record that is refused at a move is accepted when cut before it, with the same board
unfoldable pub RecordCut : Type 0
RecordCut =
    (n : ℕ) (near : Near) (start : Board) (ms : List Move) (answer : Answer) (final : Board) (r : Refusal) → Refereed n near start ms answer final → answer.outcome ≡ Refused r → Cut n near start ms answer final (place_of r)

-- in an accepted record a stone directly after a stone does not bring back the board before that stone
unfoldable pub NoStoneRestores : Type 0
NoStoneRestores =
    (n : ℕ) (near : Near) (start : Board) (ms : List Move) (answer : Answer) (final : Board) (h : Refereed n near start ms answer final) → accepts answer.outcome ≡ true →
    (k x y : ℕ) → suc k < length ms → move_at ms k ≡ At x → move_at ms (suc k) ≡ At y → Same (h.boards (suc (suc k))) (h.boards k) → ⊥

-- none, one or two passes stand at the end
unfoldable pub FewPasses : Type 0
FewPasses = (n : ℕ) (near : Near) (start : Board) (ms : List Move) (answer : Answer) (final : Board) → Refereed n near start ms answer final → answer.passes ≤ 2

-- the smallest ko, on a board of two points: Black plays, White takes the stone, and Black may not take back
unfoldable pub TwoPointKo : Type 0
TwoPointKo =
    (final : Board) × Refereed (points 2 1) (near 2 1) (λ q. none) (At 0 ∷ At 1 ∷ At 0 ∷ []) (record { outcome = Refused (Ko 2); passes = 0; black_taken = 1; white_taken = 0 }) final
    × (final 0 ≡ none) × (final 1 ≡ yours)
