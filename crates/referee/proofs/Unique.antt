-- A record has one answer.
use Rattle.std.proofs.Common.{◌≡◌, ℕ, ◌<◌, ◌≤◌, List, length, sym, refl, ap, ◌∙◌, subst, inl, inr, arith}
use Rattle.std.proofs.lemmas.Bool.{cases_order}
use Rattle.grid.specs.Graph.{Near}
use Rattle.chains.specs.Board.{Board}
use Rattle.chains.specs.declared.colour.Colour.{Colour}
use Rattle.chains.specs.declared.colour.Colour.TheVariants.{Black, White}
use Rattle.referee.specs.declared.moves.Move.{Move}
use Rattle.referee.specs.declared.outcome.Outcome.{Outcome}
use Rattle.referee.specs.declared.outcome.Outcome.TheVariants.{Refused}
use Rattle.referee.specs.declared.outcome.Answer.{Answer}
use Rattle.referee.specs.Rules.{Same, passes_before, Course, Ending, to_move, over, refused, taken_before, Refereed}
use Rattle.referee.proofs.Courses.{Alike, fault_alike, first_alike, first_one, course_one, taken_alike}

-- no more moves are followed than the record has
pub ending_within : {n : ℕ} {near : Near} {ms : List Move} {cs : ℕ → Board} {k : ℕ} {o : Outcome} → Ending n near ms cs k o → k ≤ length ms
ending_within (to_move e h) = omega arith
ending_within (over e h) = omega arith
ending_within (refused r h f) = omega arith

-- what ends a record is in no course
ending_stops : {n : ℕ} {near : Near} {start : Board} {ms : List Move} {cs bs : ℕ → Board} {k l : ℕ} {o : Outcome} → Alike ms ms cs bs k → Ending n near ms cs k o → Course n near start ms bs l → l ≤ length ms → k < l → ⊥
ending_stops a (to_move e h) c w i = omega arith
ending_stops a (over e h) c w i = omega arith
ending_stops {k = k} a (refused r h f) c w i = (c.goes k i).faultless r (fault_alike a f.found)

-- one outcome only
ending_one : {n : ℕ} {near : Near} {ms : List Move} {cs bs : ℕ → Board} {k : ℕ} {o u : Outcome} → Alike ms ms cs bs k → Ending n near ms cs k o → Ending n near ms bs k u → o ≡ u
ending_one a (to_move e h) (to_move i l) = refl
ending_one a (to_move e h) (over i l) = absurd (omega arith)
ending_one a (to_move e h) (refused s i l) = absurd (omega arith)
ending_one a (over e h) (to_move i l) = absurd (omega arith)
ending_one a (over e h) (over i l) = refl
ending_one a (over e h) (refused s i l) = absurd (omega arith)
ending_one a (refused r e h) (to_move i l) = absurd (omega arith)
ending_one a (refused r e h) (over i l) = absurd (omega arith)
ending_one a (refused r e h) (refused s i l) = ap Refused (first_one (first_alike a h) l)

-- the boards of two courses are alike as far as both go
courses_alike : {n : ℕ} {near : Near} {start : Board} {ms : List Move} {cs bs : ℕ → Board} {k l : ℕ} → Course n near start ms cs k → Course n near start ms bs l → (j : ℕ) → j ≤ k → j ≤ l → Alike ms ms cs bs j
courses_alike c d j h i = record { moves = λ t l. refl; boards = λ t l. course_one c d t (omega arith) (omega arith) }

-- as many moves are followed in both
moves_one : {n : ℕ} {near : Near} {start : Board} {ms : List Move} {a b : Answer} {f h : Board} (r : Refereed n near start ms a f) (s : Refereed n near start ms b h) → r.moves ≡ s.moves
moves_one r s = elim (cases_order r.moves s.moves) [
  | inl e ↦ e
  | inr i ↦ elim i [
    | inl l ↦ absurd (ending_stops (courses_alike r.course s.course r.moves (omega arith) (omega arith)) r.ending s.course (ending_within s.ending) l)
    | inr l ↦ absurd (ending_stops (courses_alike s.course r.course s.moves (omega arith) (omega arith)) s.ending r.course (ending_within r.ending) l)
  ]
]

-- two answers of one record are equal, and the boards that are left agree at every point
pub referee_one : {n : ℕ} {near : Near} {start : Board} {ms : List Move} {a b : Answer} {f h : Board} → Refereed n near start ms a f → Refereed n near start ms b h → (a ≡ b) × Same f h
referee_one {n} {near} {start} {ms} {a} {b} {f} {h} r s = (equal, λ q. r.left q ∙ ap (λ (d : Board). d q) (alike.boards r.moves (omega arith)) ∙ ap (λ (i : ℕ). s.boards i q) e ∙ sym (s.left q))
  where
    e : r.moves ≡ s.moves
    e = moves_one r s

    alike : Alike ms ms r.boards s.boards r.moves
    alike = courses_alike r.course s.course r.moves (omega arith) (omega (arith, e))

    taken : (colour : Colour) → taken_before n colour r.boards r.moves ≡ taken_before n colour s.boards s.moves
    taken colour = taken_alike n colour r.boards s.boards r.moves alike.boards ∙ ap (taken_before n colour s.boards) e

    outcome : a.outcome ≡ b.outcome
    outcome = ending_one alike r.ending (subst (λ (i : ℕ). Ending n near ms s.boards i b.outcome) (sym e) s.ending)

    passes : a.passes ≡ b.passes
    passes = r.passes ∙ ap (passes_before ms) e ∙ sym s.passes

    black : a.black_taken ≡ b.black_taken
    black = r.black ∙ taken Black ∙ sym s.black

    white : a.white_taken ≡ b.white_taken
    white = r.white ∙ taken White ∙ sym s.white

    equal : a ≡ b
    equal = λ i. record { outcome = outcome i; passes = passes i; black_taken = black i; white_taken = white i }
