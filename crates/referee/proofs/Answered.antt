-- Every record has an answer: the boards are computed move by move.
use Rattle.std.proofs.Common.{◌≡◌, ℕ, zero, suc, ◌+◌, ◌<◌, ◌⊎◌, List, length, sym, refl, subst, inl, inr, arith}
use mathlib.Core.Path.{fun_ext}
use Rattle.std.proofs.lemmas.Bool.{cases_lt, cases_eq}
use Rattle.grid.specs.Graph.{Near, Graph}
use Rattle.grid.specs.declared.refusal.Refusal.{Refusal}
use Rattle.chains.specs.Board.{Board}
use Rattle.chains.specs.Stands.{Stand}
use Rattle.chains.specs.Views.{other}
use Rattle.chains.specs.declared.colour.Colour.{Colour}
use Rattle.chains.specs.declared.colour.Colour.TheVariants.{Black, White}
use Rattle.play.proofs.Moves.{played_after}
use Rattle.referee.specs.declared.moves.Move.{Move}
use Rattle.referee.specs.declared.moves.Move.TheVariants.{Pass, At}
use Rattle.referee.specs.declared.outcome.Outcome.{Outcome}
use Rattle.referee.specs.declared.outcome.Outcome.TheVariants.{ToMove, Over, Refused}
use Rattle.referee.specs.declared.outcome.Answer.{Answer}
use Rattle.referee.specs.Rules.{mover, move_at, passes_before, Makes, Fault, FirstFault, Allowed, Course, Ending, to_move, over, refused, taken_before, Refereed}
use Rattle.referee.specs.States.{next_board, boards_of}
use Rattle.referee.proofs.Boards.{seen_is}
use Rattle.referee.proofs.Courses.{course_stand, course_passes}
use Rattle.referee.proofs.Decided.{fault_or_not, faultless_makes}

-- what a move makes is computed
pub makes_next : {n : ℕ} {near : Near} → Graph n near → (c : Colour) (b d : Board) (m : Move) → Makes near c b m d → d ≡ next_board n near c b m
makes_next g c b d Pass h = fun_ext h
makes_next g c b d (At x) h = fun_ext (λ q. seen_is (other c) (played_after g h q))

-- a move without fault lengthens the computed course
pub course_more : {n : ℕ} {near : Near} → Graph n near → (start : Board) (ms : List Move) (k : ℕ) (d : Board) →
    Course n near start ms (boards_of n near start ms) k → ((r : Refusal) → Fault n near ms (boards_of n near start ms) k r → ⊥) → Makes near (mover k) (boards_of n near start ms k) (move_at ms k) d →
    Course n near start ms (boards_of n near start ms) (suc k) × (d ≡ boards_of n near start ms (suc k))
unfolding boards_of
course_more {n} {near} g start ms k d c h m = (record { begins = c.begins; goes = λ j l. go j l (cases_eq j k) }, next)
  where
    next : d ≡ next_board n near (mover k) (boards_of n near start ms k) (move_at ms k)
    next = makes_next g (mover k) (boards_of n near start ms k) d (move_at ms k) m

    here : Allowed n near ms (boards_of n near start ms) k
    here = record { faultless = h; makes = subst (λ (e : Board). Makes near (mover k) (boards_of n near start ms k) (move_at ms k) e) next m }

    go : (j : ℕ) → j < suc k → (j ≡ k) ⊎ (j ≡ k → ⊥) → Allowed n near ms (boards_of n near start ms) j
    go j l (inl e) = subst (λ (i : ℕ). Allowed n near ms (boards_of n near start ms) i) (sym e) here
    go j l (inr o) = c.goes j (omega arith)

-- no move is made yet
pub course_none : (n : ℕ) (near : Near) (start : Board) (ms : List Move) → Course n near start ms (boards_of n near start ms) 0
unfolding boards_of
course_none n near start ms = record { begins = λ q. refl; goes = λ j l. absurd (omega arith) }

-- the answer with that outcome after k moves
abbrev pub answer_at : ℕ → List Move → (ℕ → Board) → ℕ → Outcome → Answer
answer_at n ms cs k o = record { outcome = o; passes = passes_before ms k; black_taken = taken_before n Black cs k; white_taken = taken_before n White cs k }

-- a course and its ending are the answer
pub settled : {n : ℕ} {near : Near} {start : Board} {ms : List Move} {cs : ℕ → Board} {k : ℕ} {o : Outcome} → Course n near start ms cs k → Ending n near ms cs k o → Refereed n near start ms (answer_at n ms cs k o) (cs k)
settled {cs = cs} {k = k} c e = record { boards = cs; moves = k; course = c; ending = e; left = λ q. refl; passes = refl; black = refl; white = refl }

-- where no moves are left, the side whose turn it is may move or the record is over
pub ending_all : {n : ℕ} {near : Near} {start : Board} {ms : List Move} {cs : ℕ → Board} {k : ℕ} → k ≡ length ms → Course n near start ms cs k → Ending n near ms cs k (ToMove (mover k)) ⊎ Ending n near ms cs k Over
ending_all {ms = ms} {k = k} e c = elim (cases_lt (passes_before ms k) 2) [ inl h ↦ inl (to_move e h) | inr h ↦ inr (over e (omega (arith, course_passes k c))) ]

-- the answer from move k on, where so many moves are left
answer_from : {n : ℕ} {near : Near} → Graph n near → (start : Board) → Stand n near start → (ms : List Move) (rest k : ℕ) → rest + k ≡ length ms → Course n near start ms (boards_of n near start ms) k → (answer : Answer) × (final : Board) × Refereed n near start ms answer final
answer_from {n} {near} g start s ms zero k e c = join (ending_all (omega arith) c)
  where
    join : Ending n near ms (boards_of n near start ms) k (ToMove (mover k)) ⊎ Ending n near ms (boards_of n near start ms) k Over → (answer : Answer) × (final : Board) × Refereed n near start ms answer final
    join (inl h) = (answer_at n ms (boards_of n near start ms) k (ToMove (mover k)), boards_of n near start ms k, settled c h)
    join (inr h) = (answer_at n ms (boards_of n near start ms) k Over, boards_of n near start ms k, settled c h)
answer_from {n} {near} g start s ms (suc rest) k e c =
    join (answer_from g start s ms rest (suc k) (omega arith)) (fault_or_not g ms (boards_of n near start ms) k (course_stand g s c))
  where
    join : (Course n near start ms (boards_of n near start ms) (suc k) → (answer : Answer) × (final : Board) × Refereed n near start ms answer final) →
        ((r : Refusal) × FirstFault n near ms (boards_of n near start ms) k r) ⊎ ((r : Refusal) → Fault n near ms (boards_of n near start ms) k r → ⊥) → (answer : Answer) × (final : Board) × Refereed n near start ms answer final
    join f (inl w) = (answer_at n ms (boards_of n near start ms) k (Refused w.0), boards_of n near start ms k, settled c (refused w.0 (omega arith) w.1))
    join f (inr h) = let w = faultless_makes g ms (boards_of n near start ms) k h in f (course_more g start ms k w.0 c h w.1).0

-- every record on a board that can stand has an answer and a last board
pub referee_answers : {n : ℕ} {near : Near} → Graph n near → (start : Board) → Stand n near start → (ms : List Move) → (answer : Answer) × (final : Board) × Refereed n near start ms answer final
referee_answers {n} {near} g start s ms = answer_from g start s ms (length ms) 0 (omega arith) (course_none n near start ms)
