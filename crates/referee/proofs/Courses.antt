-- Courses of play: what the rules say of a move hangs on the moves and boards up to it, and there is one course.
use Rattle.std.proofs.Common.{◌≡◌, ℕ, zero, suc, ◌<◌, ◌≤◌, cond, eqb, ◌⊎◌, List, sym, refl, ap, ◌∙◌, subst, inl, inr, arith}
use mathlib.Core.Path.{fun_ext}
use Rattle.std.proofs.lemmas.Bool.{cases_lt}
use Rattle.grid.specs.Graph.{Near, Graph}
use Rattle.grid.specs.Refusals.{number_of}
use Rattle.grid.specs.declared.refusal.Refusal.{Refusal}
use Rattle.grid.specs.declared.refusal.Refusal.TheVariants.{OffBoard, Occupied, Suicide, Ko, AfterEnd}
use Rattle.chains.specs.Board.{none, Board}
use Rattle.chains.specs.Stands.{Stand}
use Rattle.chains.specs.declared.colour.Colour.{Colour}
use Rattle.referee.specs.declared.moves.Move.{Move}
use Rattle.referee.specs.declared.moves.Move.TheVariants.{Pass, At}
use Rattle.referee.specs.Rules.{Same, mover, move_at, passes_with, passes_before, PlayedBy, Makes, Restores, Fault, off_board, occupied, suicide, ko, after_end, FirstFault, Course, leaves, taken_before}
use Rattle.referee.proofs.Boards.{makes_stand, makes_one}

-- two lists of moves and their boards are the same up to k
pub record Alike (ms ls : List Move) (cs bs : ℕ → Board) (k : ℕ) : Type 0 where
  pub moves : (j : ℕ) → j ≤ k → move_at ms j ≡ move_at ls j
  pub boards : (j : ℕ) → j ≤ k → cs j ≡ bs j

-- the passes before k hang on the moves before k
pub passes_alike : (ms ls : List Move) (k : ℕ) → ((j : ℕ) → j < k → move_at ms j ≡ move_at ls j) → passes_before ms k ≡ passes_before ls k
unfolding passes_before
passes_alike ms ls zero h = refl
passes_alike ms ls (suc k) h = rw (h k (omega arith), passes_alike ms ls k (λ j l. h j (omega arith))) refl

-- so does ko
restores_alike : {ms ls : List Move} {cs bs : ℕ → Board} (d : Board) (k : ℕ) → Alike ms ls cs bs k → Restores ms cs k d → Restores ls bs k d
restores_alike d zero a h = h
restores_alike d (suc k) a h = (h.0, sym (a.moves k (omega arith)) ∙ h.1, subst (λ (b : Board). Same d b) (a.boards k (omega arith)) h.2)

-- a fault of move k hangs on the moves and boards up to k
pub fault_alike : {n : ℕ} {near : Near} {ms ls : List Move} {cs bs : ℕ → Board} {k : ℕ} {r : Refusal} → Alike ms ls cs bs k → Fault n near ms cs k r → Fault n near ls bs k r
fault_alike {k = k} a (off_board x e h) = off_board x (sym (a.moves k (omega arith)) ∙ e) h
fault_alike {k = k} a (occupied x e h) = occupied x (sym (a.moves k (omega arith)) ∙ e) (subst (λ (b : Board). b x ≡ none → ⊥) (a.boards k (omega arith)) h)
fault_alike {near = near} {k = k} a (suicide x e h) =
    suicide x (sym (a.moves k (omega arith)) ∙ e) (subst (λ (b : Board). (d : Board) → PlayedBy near (mover k) b x d → ⊥) (a.boards k (omega arith)) h)
fault_alike {near = near} {k = k} a (ko x d e p h) =
    ko x d (sym (a.moves k (omega arith)) ∙ e) (subst (λ (b : Board). PlayedBy near (mover k) b x d) (a.boards k (omega arith)) p) (restores_alike d k a h)
fault_alike {ms = ms} {ls = ls} {k = k} a (after_end h) = after_end (omega (arith, passes_alike ms ls k (λ j l. a.moves j (omega arith))))

-- alike the other way round
pub alike_sym : {ms ls : List Move} {cs bs : ℕ → Board} {k : ℕ} → Alike ms ls cs bs k → Alike ls ms bs cs k
alike_sym a = record { moves = λ j h. sym (a.moves j h); boards = λ j h. sym (a.boards j h) }

-- the first fault of move k hangs on them too
pub first_alike : {n : ℕ} {near : Near} {ms ls : List Move} {cs bs : ℕ → Board} {k : ℕ} {r : Refusal} → Alike ms ls cs bs k → FirstFault n near ms cs k r → FirstFault n near ls bs k r
first_alike a f = record { found = fault_alike a f.found; first = λ s h. f.first s (fault_alike (alike_sym a) h) }

-- the refusal with that number
abbrev pub numbered : ℕ → ℕ → Refusal
numbered number k = cond (eqb number 5) (OffBoard k) (cond (eqb number 6) (Occupied k) (cond (eqb number 7) (Suicide k) (cond (eqb number 8) (Ko k) (AfterEnd k))))

-- a fault is known by its number
pub fault_numbered : {n : ℕ} {near : Near} {ms : List Move} {cs : ℕ → Board} {k : ℕ} {r : Refusal} → Fault n near ms cs k r → r ≡ numbered (number_of r) k
fault_numbered (off_board x e h) = refl
fault_numbered (occupied x e h) = refl
fault_numbered (suicide x e h) = refl
fault_numbered (ko x d e p h) = refl
fault_numbered (after_end h) = refl

-- a move has one first fault
pub first_one : {n : ℕ} {near : Near} {ms : List Move} {cs : ℕ → Board} {k : ℕ} {r s : Refusal} → FirstFault n near ms cs k r → FirstFault n near ms cs k s → r ≡ s
first_one {k = k} {r = r} {s = s} f h =
    let e : number_of r ≡ number_of s = omega (arith, f.first s h.found, h.first r f.found) in
    fault_numbered f.found ∙ ap (λ (i : ℕ). numbered i k) e ∙ sym (fault_numbered h.found)

-- a course of a record is one of fewer moves
pub course_shorter : {n : ℕ} {near : Near} {start : Board} {ms : List Move} {cs : ℕ → Board} (k j : ℕ) → j ≤ k → Course n near start ms cs k → Course n near start ms cs j
course_shorter k j h c = record { begins = c.begins; goes = λ i l. c.goes i (omega arith) }

-- all boards of a course can stand
pub course_stand : {n : ℕ} {near : Near} → Graph n near → {start : Board} {ms : List Move} {cs : ℕ → Board} {k : ℕ} → Stand n near start → Course n near start ms cs k → (j : ℕ) → j ≤ k → Stand n near (cs j)
course_stand {n} {near} g s c zero h = subst (λ (b : Board). Stand n near b) (sym (fun_ext c.begins)) s
course_stand g {ms = ms} s c (suc j) h = makes_stand g (mover j) (move_at ms j) (course_stand g s c j (omega arith)) (c.goes j (omega arith)).makes

-- two courses of a record have the same boards as far as both go
pub course_one : {n : ℕ} {near : Near} {start : Board} {ms : List Move} {cs bs : ℕ → Board} {k l : ℕ} → Course n near start ms cs k → Course n near start ms bs l → (j : ℕ) → j ≤ k → j ≤ l → cs j ≡ bs j
course_one c d zero h i = fun_ext (λ q. c.begins q ∙ sym (d.begins q))
course_one {near = near} {ms = ms} {cs = cs} {bs = bs} c d (suc j) h i =
    makes_one near (cs j) (mover j) (move_at ms j) (c.goes j (omega arith)).makes
    (subst (λ (b : Board). Makes near (mover j) b (move_at ms j) (bs (suc j))) (sym (course_one c d j (omega arith) (omega arith))) (d.goes j (omega arith)).makes)

-- at most two passes stand at the end of a course
pub course_passes : {n : ℕ} {near : Near} {start : Board} {ms : List Move} {cs : ℕ → Board} (k : ℕ) → Course n near start ms cs k → passes_before ms k ≤ 2
unfolding passes_before
course_passes zero c = omega arith
course_passes {n} {near} {start} {ms} {cs} (suc k) c = most (move_at ms k) (cases_lt (passes_before ms k) 2)
  where
    most : (m : Move) → (passes_before ms k < 2) ⊎ (2 ≤ passes_before ms k) → passes_with m (passes_before ms k) ≤ 2
    most (At x) h = omega arith
    most Pass (inl h) = omega arith
    most Pass (inr h) = absurd ((c.goes k (omega arith)).faultless (AfterEnd k) (after_end h))

-- what was taken hangs on the boards
pub taken_alike : (n : ℕ) (colour : Colour) (cs bs : ℕ → Board) (k : ℕ) → ((j : ℕ) → j ≤ k → cs j ≡ bs j) → taken_before n colour cs k ≡ taken_before n colour bs k
unfolding taken_before
taken_alike n colour cs bs zero h = refl
taken_alike n colour cs bs (suc k) h =
    let e : leaves n colour (cs k) (cs (suc k)) ≡ leaves n colour (bs k) (bs (suc k)) = λ i. leaves n colour (h k (omega arith) i) (h (suc k) (omega arith) i) in
    rw (taken_alike n colour cs bs k (λ j l. h j (omega arith)), e) refl
