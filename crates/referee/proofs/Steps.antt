-- What a referee has to remember of a record, and how each move changes it.
use Rattle.std.proofs.Common.{◌≡◌, ℕ, suc, ◌+◌, ◌<◌, ◌≤◌, List, length, Some, None, Option, sym, refl, ap, ◌∙◌, subst, add-one, arith}
use mathlib.Core.Path.{fun_ext}
use Rattle.grid.specs.Graph.{Near, Graph}
use Rattle.grid.specs.declared.refusal.Refusal.{Refusal}
use Rattle.grid.specs.declared.refusal.Refusal.TheVariants.{OffBoard, Occupied, Suicide, Ko, AfterEnd}
use Rattle.chains.specs.Board.{none, Board}
use Rattle.chains.specs.Views.{other}
use Rattle.chains.specs.declared.colour.Colour.{Colour}
use Rattle.chains.specs.declared.colour.Colour.TheVariants.{Black, White}
use Rattle.referee.specs.declared.moves.Move.{Move}
use Rattle.referee.specs.declared.moves.Move.TheVariants.{Pass, At}
use Rattle.referee.specs.declared.outcome.Outcome.{Outcome}
use Rattle.referee.specs.declared.outcome.Outcome.TheVariants.{ToMove, Over, Refused}
use Rattle.referee.specs.Rules.{mover, move_at, passes_with, passes_before, PlayedBy, Makes, Restores, Fault, off_board, occupied, suicide, ko, after_end, Course, Ending, to_move, over, refused, leaves, taken_before, Refereed}
use Rattle.referee.specs.States.{before_move, boards_of, StateOf, report}
use Rattle.referee.proofs.Courses.{course_passes}
use Rattle.referee.proofs.Decided.{from_five, from_six, from_seven, from_eight, from_nine, from_pass, from_end, first_from}
use Rattle.referee.proofs.Answered.{course_none, course_more}
use Rattle.referee.proofs.Taken.{leaves_same, taken_most}

none_some : {b : Board} → ◌≡◌ {A = Option Board} None (Some b) → ⊥
none_some e = let z : ◌≡◌ {A = ℕ} 0 1 = cc in omega arith

-- before the first move
pub state_start : (n : ℕ) (near : Near) (start : Board) (ms : List Move) → StateOf n near start ms 0 Black start None 0 0 0
unfolding boards_of mover passes_before taken_before
state_start n near start ms = record {
  course = course_none n near start ms;
  side_is = refl;
  board_is = refl;
  ko_to = λ d h. absurd h;
  ko_from = λ d e. absurd (none_some e);
  passes_are = refl;
  black_are = refl;
  white_are = refl;
}

-- what is played on the board that is kept is played in the record
state_played : {n : ℕ} {near : Near} {start : Board} {ms : List Move} {k : ℕ} {side : Colour} {board : Board} {before : Option Board} {passes black white : ℕ} →
    StateOf n near start ms k side board before passes black white → (x : ℕ) (d : Board) → PlayedBy near side board x d → PlayedBy near (mover k) (boards_of n near start ms k) x d
state_played {n} {near} {start} {ms} {k} {side} {board} s x d p =
    subst (λ (c : Colour). PlayedBy near c (boards_of n near start ms k) x d) s.side_is (subst (λ (b : Board). PlayedBy near side b x d) s.board_is p)

-- and the other way round
state_played_back : {n : ℕ} {near : Near} {start : Board} {ms : List Move} {k : ℕ} {side : Colour} {board : Board} {before : Option Board} {passes black white : ℕ} →
    StateOf n near start ms k side board before passes black white → (x : ℕ) (d : Board) → PlayedBy near (mover k) (boards_of n near start ms k) x d → PlayedBy near side board x d
state_played_back {n} {near} {start} {ms} {k} {side} {board} s x d p =
    subst (λ (b : Board). PlayedBy near side b x d) (sym s.board_is) (subst (λ (c : Colour). PlayedBy near c (boards_of n near start ms k) x d) (sym s.side_is) p)

-- a move without fault is made, and the next one is looked at
state_next : {n : ℕ} {near : Near} → Graph n near → {start : Board} {ms : List Move} {k : ℕ} {side : Colour} {board : Board} {before : Option Board} {passes black white : ℕ} →
    StateOf n near start ms k side board before passes black white → (d : Board) → ((r : Refusal) → Fault n near ms (boards_of n near start ms) k r → ⊥) →
    Makes near (mover k) (boards_of n near start ms k) (move_at ms k) d →
    StateOf n near start ms (k + 1) (other side) d (before_move (move_at ms k) board) (passes_with (move_at ms k) passes) (black + leaves n Black board d) (white + leaves n White board d)
unfolding mover passes_before taken_before
state_next {n} {near} g {start} {ms} {k} {side} {board} {before} {passes} {black} {white} s d h m =
    subst (λ (i : ℕ). StateOf n near start ms i (other side) d (before_move (move_at ms k) board) (passes_with (move_at ms k) passes) (black + leaves n Black board d) (white + leaves n White board d)) (sym (add-one k)) made
  where
    longer : Course n near start ms (boards_of n near start ms) (suc k) × (d ≡ boards_of n near start ms (suc k))
    longer = course_more g start ms k d s.course h m

    taken : (colour : Colour) (t : ℕ) → t ≡ taken_before n colour (boards_of n near start ms) k →
        t + leaves n colour board d ≡ taken_before n colour (boards_of n near start ms) k + leaves n colour (boards_of n near start ms k) (boards_of n near start ms (suc k))
    taken colour t e = λ i. e i + leaves n colour (s.board_is i) (longer.1 i)

    stone_before : (m : Move) (b : Board) → before_move m board ≡ Some b → (x : ℕ) × (m ≡ At x) × (board ≡ b)
    stone_before Pass b e = absurd (none_some e)
    stone_before (At x) b e = (x, refl, cc)

    made : StateOf n near start ms (suc k) (other side) d (before_move (move_at ms k) board) (passes_with (move_at ms k) passes) (black + leaves n Black board d) (white + leaves n White board d)
    made = record {
      course = longer.0;
      side_is = ap other s.side_is;
      board_is = longer.1;
      ko_to = λ b w. ap (λ (m : Move). before_move m board) w.1 ∙ ap Some (s.board_is ∙ sym (fun_ext w.2));
      ko_from = λ b e. let w = stone_before (move_at ms k) b e in (w.0, w.1, λ q. ap (λ (d : Board). d q) (sym w.2 ∙ s.board_is));
      passes_are = ap (passes_with (move_at ms k)) s.passes_are;
      black_are = taken Black black s.black_are;
      white_are = taken White white s.white_are;
    }

-- the numbers may be written in another way
pub state_numbers : {n : ℕ} {near : Near} {start : Board} {ms : List Move} {k : ℕ} {side : Colour} {board : Board} {before : Option Board} {passes black white : ℕ} {passes' black' white' : ℕ} →
    passes ≡ passes' → black ≡ black' → white ≡ white' → StateOf n near start ms k side board before passes black white → StateOf n near start ms k side board before passes' black' white'
state_numbers e b w s = record {
  course = s.course;
  side_is = s.side_is;
  board_is = s.board_is;
  ko_to = s.ko_to;
  ko_from = s.ko_from;
  passes_are = sym e ∙ s.passes_are;
  black_are = sym b ∙ s.black_are;
  white_are = sym w ∙ s.white_are;
}

-- an allowed pass
pub state_pass : {n : ℕ} {near : Near} → Graph n near → {start : Board} {ms : List Move} {k : ℕ} {side : Colour} {board : Board} {before : Option Board} {passes black white : ℕ} →
    StateOf n near start ms k side board before passes black white → move_at ms k ≡ Pass → passes < 2 → StateOf n near start ms (k + 1) (other side) board None (passes + 1) black white
state_pass {n} {near} g {start} {ms} {k} {side} {board} {before} {passes} {black} {white} s e h =
    state_numbers (omega arith) (omega (arith, leaves_same n Black board)) (omega (arith, leaves_same n White board))
    (subst (λ (m : Move). StateOf n near start ms (k + 1) (other side) board (before_move m board) (passes_with m passes) (black + leaves n Black board board) (white + leaves n White board board)) e
    (state_next g s board (from_end (from_pass n near ms (boards_of n near start ms) k e) (omega (arith, s.passes_are))) stays))
  where
    stays : Makes near (mover k) (boards_of n near start ms k) (move_at ms k) board
    stays = subst (λ (m : Move). Makes near (mover k) (boards_of n near start ms k) m board) (sym e) (λ q. ap (λ (b : Board). b q) s.board_is)

-- no ko on the board that is kept is none in the record
state_no_ko : {n : ℕ} {near : Near} {start : Board} {ms : List Move} {k : ℕ} {side : Colour} {board : Board} {before : Option Board} {passes black white : ℕ} →
    StateOf n near start ms k side board before passes black white → (d : Board) → (before ≡ Some d → ⊥) → Restores ms (boards_of n near start ms) k d → ⊥
state_no_ko s d h o = h (s.ko_to d o)

-- an allowed stone
pub state_stone : {n : ℕ} {near : Near} → Graph n near → {start : Board} {ms : List Move} {k : ℕ} {side : Colour} {board : Board} {before : Option Board} {passes black white : ℕ} →
    StateOf n near start ms k side board before passes black white → (x : ℕ) (d : Board) → move_at ms k ≡ At x → x < n → PlayedBy near side board x d → (before ≡ Some d → ⊥) → passes < 2 →
    StateOf n near start ms (k + 1) (other side) d (Some board) 0 (black + leaves n Black board d) (white + leaves n White board d)
state_stone {n} {near} g {start} {ms} {k} {side} {board} {before} {passes} {black} {white} s x d e h p o l =
    let played = state_played s x d p in
    subst (λ (m : Move). StateOf n near start ms (k + 1) (other side) d (before_move m board) (passes_with m passes) (black + leaves n Black board d) (white + leaves n White board d)) e
    (state_next g s d (from_end (from_nine n near ms (boards_of n near start ms) k x d e h played (state_no_ko s d o)) (omega (arith, s.passes_are)))
    (subst (λ (m : Move). Makes near (mover k) (boards_of n near start ms k) m d) (sym e) played))

-- at most two passes stand at the end
pub state_passes : {n : ℕ} {near : Near} {start : Board} {ms : List Move} {k : ℕ} {side : Colour} {board : Board} {before : Option Board} {passes black white : ℕ} → StateOf n near start ms k side board before passes black white → passes ≤ 2
state_passes {k = k} s = omega (arith, s.passes_are, course_passes k s.course)

-- no more stones of a colour are taken than there are points and moves
pub state_taken : {n : ℕ} {near : Near} {start : Board} {ms : List Move} {k : ℕ} {side : Colour} {board : Board} {before : Option Board} {passes black white : ℕ} → StateOf n near start ms k side board before passes black white → (black ≤ n + k) × (white ≤ n + k)
state_taken {k = k} s = (omega (arith, s.black_are, taken_most Black k s.course), omega (arith, s.white_are, taken_most White k s.course))

-- where the record ends, what is kept is its answer and its last board
pub state_ends : {n : ℕ} {near : Near} {start : Board} {ms : List Move} {k : ℕ} {side : Colour} {board : Board} {before : Option Board} {passes black white : ℕ} {o : Outcome} → StateOf n near start ms k side board before passes black white →
    Ending n near ms (boards_of n near start ms) k o → Refereed n near start ms (report o passes black white) board
state_ends {n} {near} {start} {ms} {k} s e = record {
  boards = boards_of n near start ms;
  moves = k;
  course = s.course;
  ending = e;
  left = λ q. ap (λ (b : Board). b q) s.board_is;
  passes = s.passes_are;
  black = s.black_are;
  white = s.white_are;
}

-- no moves are left, and fewer than two passes stand at the end
pub state_to_move : {n : ℕ} {near : Near} {start : Board} {ms : List Move} {k : ℕ} {side : Colour} {board : Board} {before : Option Board} {passes black white : ℕ} → StateOf n near start ms k side board before passes black white → k ≡ length ms → passes < 2 → Refereed n near start ms (report (ToMove side) passes black white) board
state_to_move {n} {near} {start} {ms} {k} s e h =
    state_ends s (subst (λ (c : Colour). Ending n near ms (boards_of n near start ms) k (ToMove c)) (sym s.side_is) (to_move e (omega (arith, s.passes_are))))

-- no moves are left, and two passes stand at the end
pub state_over : {n : ℕ} {near : Near} {start : Board} {ms : List Move} {k : ℕ} {side : Colour} {board : Board} {before : Option Board} {passes black white : ℕ} → StateOf n near start ms k side board before passes black white → k ≡ length ms → 2 ≤ passes → Refereed n near start ms (report Over passes black white) board
state_over s e h = state_ends s (over e (omega (arith, s.passes_are, state_passes s)))

-- 5: the point is not there
pub refuse_off_board : {n : ℕ} {near : Near} {start : Board} {ms : List Move} {k : ℕ} {side : Colour} {board : Board} {before : Option Board} {passes black white : ℕ} → StateOf n near start ms k side board before passes black white → (x : ℕ) → k < length ms → move_at ms k ≡ At x → n ≤ x →
    Refereed n near start ms (report (Refused (OffBoard k)) passes black white) board
refuse_off_board {n} {near} {start} {ms} {k} s x l e h = state_ends s (refused (OffBoard k) l (first_from (off_board x e h) (from_five n near ms (boards_of n near start ms) k)))

-- 6: a stone stands there
pub refuse_occupied : {n : ℕ} {near : Near} {start : Board} {ms : List Move} {k : ℕ} {side : Colour} {board : Board} {before : Option Board} {passes black white : ℕ} → StateOf n near start ms k side board before passes black white → (x : ℕ) → k < length ms → move_at ms k ≡ At x → x < n → (board x ≡ none → ⊥) →
    Refereed n near start ms (report (Refused (Occupied k)) passes black white) board
refuse_occupied {n} {near} {start} {ms} {k} s x l e h o =
    state_ends s (refused (Occupied k) l (first_from (occupied x e (subst (λ (b : Board). b x ≡ none → ⊥) s.board_is o)) (from_six n near ms (boards_of n near start ms) k x e h)))

-- 7: no board comes of it
pub refuse_suicide : {n : ℕ} {near : Near} {start : Board} {ms : List Move} {k : ℕ} {side : Colour} {board : Board} {before : Option Board} {passes black white : ℕ} → StateOf n near start ms k side board before passes black white → (x : ℕ) → k < length ms → move_at ms k ≡ At x → x < n → board x ≡ none → ((d : Board) → PlayedBy near side board x d → ⊥) →
    Refereed n near start ms (report (Refused (Suicide k)) passes black white) board
refuse_suicide {n} {near} {start} {ms} {k} s x l e h z o =
    state_ends s (refused (Suicide k) l
    (first_from (suicide x e (λ d p. o d (state_played_back s x d p))) (from_seven n near ms (boards_of n near start ms) k x e h (subst (λ (b : Board). b x ≡ none) s.board_is z))))

-- 8: ko
pub refuse_ko : {n : ℕ} {near : Near} {start : Board} {ms : List Move} {k : ℕ} {side : Colour} {board : Board} {before : Option Board} {passes black white : ℕ} → StateOf n near start ms k side board before passes black white → (x : ℕ) (d : Board) → k < length ms → move_at ms k ≡ At x → x < n → PlayedBy near side board x d → before ≡ Some d →
    Refereed n near start ms (report (Refused (Ko k)) passes black white) board
refuse_ko {n} {near} {start} {ms} {k} s x d l e h p o =
    let played = state_played s x d p in
    state_ends s (refused (Ko k) l
    (first_from (ko x d e played (s.ko_from d o)) (from_eight n near ms (boards_of n near start ms) k x d e h played)))

-- 9: a stone after two passes
pub refuse_stone : {n : ℕ} {near : Near} {start : Board} {ms : List Move} {k : ℕ} {side : Colour} {board : Board} {before : Option Board} {passes black white : ℕ} → StateOf n near start ms k side board before passes black white → (x : ℕ) (d : Board) → k < length ms → move_at ms k ≡ At x → x < n → PlayedBy near side board x d → (before ≡ Some d → ⊥) → 2 ≤ passes →
    Refereed n near start ms (report (Refused (AfterEnd k)) passes black white) board
refuse_stone {n} {near} {start} {ms} {k} s x d l e h p o t =
    state_ends s (refused (AfterEnd k) l (first_from (after_end (omega (arith, s.passes_are))) (from_nine n near ms (boards_of n near start ms) k x d e h (state_played s x d p) (state_no_ko s d o))))

-- 9: a pass after two passes
pub refuse_pass : {n : ℕ} {near : Near} {start : Board} {ms : List Move} {k : ℕ} {side : Colour} {board : Board} {before : Option Board} {passes black white : ℕ} → StateOf n near start ms k side board before passes black white → k < length ms → move_at ms k ≡ Pass → 2 ≤ passes →
    Refereed n near start ms (report (Refused (AfterEnd k)) passes black white) board
refuse_pass {n} {near} {start} {ms} {k} s l e t = state_ends s (refused (AfterEnd k) l (first_from (after_end (omega (arith, s.passes_are))) (from_pass n near ms (boards_of n near start ms) k e)))
