-- The smallest ko: on a board of two points Black plays, White takes the stone, and Black may not take back.
use mathlib.Core.Path.{fun_ext}
use Rattle.std.proofs.Common.{◌≡◌, ℕ, zero, suc, true, List, [], ◌∷◌, Some, None, Option, sym, refl, ap, ◌∙◌, subst, arith}
use Rattle.grid.specs.Graph.{Near, Graph}
use Rattle.grid.specs.Grid.{near}
use Rattle.grid.proofs.Square.{graph}
use Rattle.chains.specs.Board.{none, yours, Board}
use Rattle.chains.specs.Stands.{Stand}
use Rattle.chains.specs.Computed.{any, count, through, reaches, has_liberty, breathing}
use Rattle.chains.specs.Views.{other}
use Rattle.chains.specs.declared.colour.Colour.{Colour}
use Rattle.chains.specs.declared.colour.Colour.TheVariants.{Black, White}
use Rattle.chains.proofs.Chain.{breathing_breathes}
use Rattle.chains.proofs.States.{none_mine, none_yours}
use Rattle.play.specs.Played.{Played}
use Rattle.play.specs.After.{after}
use Rattle.play.proofs.Moves.{after_played}
use Rattle.referee.specs.declared.moves.Move.{Move}
use Rattle.referee.specs.declared.moves.Move.TheVariants.{At}
use Rattle.referee.specs.Rules.{seen, Same, PlayedBy, leaves}
use Rattle.referee.specs.Statements.{TwoPointKo}
use Rattle.referee.specs.States.{next_board, StateOf}
use Rattle.referee.proofs.Boards.{board_back, makes_stand, stand_past}
use Rattle.referee.proofs.Steps.{state_start, state_stone, state_numbers, refuse_ko}

-- the computed board of a stone is its board if the stone breathes on it
pub stone_next : {n : ℕ} {near : Near} → Graph n near → (c : Colour) (b : Board) (x : ℕ) → seen (other c) b x ≡ none → breathing n near (after n near (seen (other c) b) x) yours x ≡ true → PlayedBy near c b x (next_board n near c b (At x))
stone_next {n} {near} g c b x e h =
    subst (λ (d : Board). Played near (seen (other c) b) x d) (sym (board_back (other c) (after n near (seen (other c) b) x)))
    (after_played g (seen (other c) b) x e (breathing_breathes g (after n near (seen (other c) b) x) yours x h))

abbrev empty_board : Board
empty_board q = none

abbrev first_board : Board
first_board = next_board 2 (near 2 1) Black empty_board (At 0)

abbrev second_board : Board
second_board = next_board 2 (near 2 1) White first_board (At 1)

abbrev third_board : Board
third_board = next_board 2 (near 2 1) Black second_board (At 0)

abbrev moves : List Move
moves = At 0 ∷ At 1 ∷ At 0 ∷ []

first_played : PlayedBy (near 2 1) Black empty_board 0 first_board
unfolding breathing has_liberty any reaches through after near
first_played = stone_next (graph 2 1) Black empty_board 0 refl refl

second_played : PlayedBy (near 2 1) White first_board 1 second_board
unfolding breathing has_liberty any reaches through after near
second_played = stone_next (graph 2 1) White first_board 1 refl refl

third_played : PlayedBy (near 2 1) Black second_board 0 third_board
unfolding breathing has_liberty any reaches through after near
third_played = stone_next (graph 2 1) Black second_board 0 refl refl

empty_stands : Stand 2 (near 2 1) empty_board
empty_stands = record { inside = λ p o. absurd (o refl); mine_breathe = λ p e. absurd (none_mine refl e); yours_breathe = λ p e. absurd (none_yours refl e) }

first_stands : Stand 2 (near 2 1) first_board
first_stands = makes_stand (graph 2 1) Black (At 0) empty_stands first_played

third_stands : Stand 2 (near 2 1) third_board
third_stands = makes_stand (graph 2 1) Black (At 0) (makes_stand (graph 2 1) White (At 1) first_stands second_played) third_played

-- taking back would restore the board before the stone just played
third_restores : Same third_board first_board
unfolding breathing has_liberty any reaches through after near
third_restores zero = refl
third_restores (suc zero) = refl
third_restores (suc (suc q)) = stand_past third_stands (suc (suc q)) (omega arith) ∙ sym (stand_past first_stands (suc (suc q)) (omega arith))

-- White's stone takes one black stone
white_takes : (leaves 2 Black first_board second_board ≡ 1) × (leaves 2 White first_board second_board ≡ 0)
unfolding leaves count breathing has_liberty any reaches through after near
white_takes = (refl, refl)

-- Black's stone takes nothing
black_takes : (leaves 2 Black empty_board first_board ≡ 0) × (leaves 2 White empty_board first_board ≡ 0)
unfolding leaves count breathing has_liberty any reaches through after near
black_takes = (refl, refl)

no_ko : {d : Board} → ◌≡◌ {A = Option Board} None (Some d) → ⊥
no_ko e = let z : ◌≡◌ {A = ℕ} 0 1 = cc in omega arith

after_one : StateOf 2 (near 2 1) empty_board moves 1 White first_board (Some empty_board) 0 0 0
after_one =
    state_numbers refl (omega (arith, black_takes)) (omega (arith, black_takes))
    (state_stone (graph 2 1) (state_start 2 (near 2 1) empty_board moves) 0 first_board refl (omega arith) first_played no_ko (omega arith))

-- the board is not the empty one
second_differs : Some empty_board ≡ Some second_board → ⊥
unfolding breathing has_liberty any reaches through after near
second_differs e = let same : empty_board ≡ second_board = cc in none_yours refl (ap (λ (b : Board). b 1) same)

after_two : StateOf 2 (near 2 1) empty_board moves 2 Black second_board (Some first_board) 0 1 0
after_two =
    state_numbers refl (omega (arith, white_takes)) (omega (arith, white_takes))
    (state_stone (graph 2 1) after_one 1 second_board refl (omega arith) second_played second_differs (omega arith))

-- the record is refused at move 2 for ko; one black stone was taken, and White's stone is left
pub two_point_ko : TwoPointKo
unfolding TwoPointKo breathing has_liberty any reaches through after near
two_point_ko = (second_board, refuse_ko after_two 0 third_board (omega arith) refl (omega arith) third_played (ap Some (sym (fun_ext third_restores))), refl, refl)
