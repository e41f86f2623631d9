-- Laws of whole records.
use Rattle.std.proofs.Common.{◌≡◌, ℕ, suc, ◌<◌, true, ◌⊎◌, List, length, take, sym, refl, ◌∙◌, subst, inl, inr, arith}
use mathlib.Core.Path.{fun_ext}
use Rattle.std.proofs.lemmas.List.{length-take-le, get_or-take}
use Rattle.std.proofs.lemmas.Bool.{false≢true}
use Rattle.grid.specs.Graph.{Near}
use Rattle.grid.specs.Refusals.{place_of}
use Rattle.grid.specs.declared.refusal.Refusal.{Refusal}
use Rattle.grid.specs.declared.refusal.Refusal.TheVariants.{Ko}
use Rattle.chains.specs.Board.{Board}
use Rattle.chains.specs.Stands.{Stand}
use Rattle.referee.specs.declared.moves.Move.{Move}
use Rattle.referee.specs.declared.moves.Move.TheVariants.{Pass, At}
use Rattle.referee.specs.declared.outcome.Outcome.{Outcome}
use Rattle.referee.specs.declared.outcome.Outcome.TheVariants.{ToMove, Over, Refused}
use Rattle.referee.specs.declared.outcome.Answer.{Answer}
use Rattle.referee.specs.Rules.{Same, mover, move_at, passes_before, Makes, Fault, off_board, occupied, suicide, ko, after_end, Course, Ending, to_move, over, refused, Refereed}
use Rattle.referee.specs.Statements.{accepts, Cut, RecordAnswered, RecordUnique, RecordStands, RecordCut, NoStoneRestores, FewPasses}
use Rattle.referee.proofs.Courses.{passes_alike, fault_alike, course_stand, course_passes}
use Rattle.referee.proofs.Unique.{referee_one}
use Rattle.referee.proofs.Answered.{answer_at, settled, ending_all, referee_answers}

-- a course hangs on the moves that it has
pub course_alike : {n : ℕ} {near : Near} {start : Board} {ms ls : List Move} {cs : ℕ → Board} {k : ℕ} → ((j : ℕ) → j < k → move_at ms j ≡ move_at ls j) → Course n near start ms cs k → Course n near start ls cs k
course_alike {n} {near} {start} {ms} {ls} {cs} {k} h c = record {
  begins = c.begins;
  goes = λ j l. record {
    faultless = λ r f. (c.goes j l).faultless r (fault_alike (record { moves = λ i m. sym (h i (omega arith)); boards = λ i m. refl }) f);
    makes = subst (λ (m : Move). Makes near (mover j) (cs j) m (cs (suc j))) (h j l) (c.goes j l).makes;
  };
}

-- the moves of a record that is cut
cut_moves : (ms : List Move) (k j : ℕ) → j < k → move_at ms j ≡ move_at (take k ms) j
cut_moves ms k j h = sym (get_or-take k ms j Pass h)

-- a course of k moves is a course of the record that is cut after them
pub course_cut : {n : ℕ} {near : Near} {start : Board} {ms : List Move} {cs : ℕ → Board} (k : ℕ) → Course n near start ms cs k → Course n near start (take k ms) cs k
course_cut {ms = ms} k c = course_alike (cut_moves ms k) c

-- the place that a fault names is the move
fault_place : {n : ℕ} {near : Near} {ms : List Move} {cs : ℕ → Board} {k : ℕ} {r : Refusal} → Fault n near ms cs k r → place_of r ≡ k
fault_place (off_board x e h) = refl
fault_place (occupied x e h) = refl
fault_place (suicide x e h) = refl
fault_place (ko x d e p h) = refl
fault_place (after_end h) = refl

-- a record whose outcome is a refusal has it at the move after those that are allowed
pub ending_refused : {n : ℕ} {near : Near} {ms : List Move} {cs : ℕ → Board} {k : ℕ} {o : Outcome} (r : Refusal) → Ending n near ms cs k o → o ≡ Refused r → (k < length ms) × (place_of r ≡ k)
ending_refused r (to_move e h) i = let z : ◌≡◌ {A = ℕ} 0 1 = cc in absurd (omega arith)
ending_refused r (over e h) i = let z : ◌≡◌ {A = ℕ} 0 1 = cc in absurd (omega arith)
ending_refused {k = k} r (refused s h f) i = let e : s ≡ r = cc in (h, subst (λ (t : Refusal). place_of t ≡ k) e (fault_place f.found))

-- the board that is left can stand
pub record_stands : RecordStands
unfolding RecordStands
record_stands n near g start s ms answer final r = subst (λ (b : Board). Stand n near b) (sym (fun_ext r.left)) (course_stand g s r.course r.moves (omega arith))

-- a course of k moves, cut after them, is an accepted record
pub cut_accepted : {n : ℕ} {near : Near} {start : Board} {ms : List Move} {answer : Answer} {final : Board} (h : Refereed n near start ms answer final) → h.moves < length ms → Cut n near start ms answer final h.moves
cut_accepted {n} {near} {start} {ms} {answer} {final} h l = join (ending_all (sym (length-take-le h.moves ms (omega arith))) (course_cut h.moves h.course))
  where
    same_passes : passes_before (take h.moves ms) h.moves ≡ answer.passes
    same_passes = sym (passes_alike ms (take h.moves ms) h.moves (cut_moves ms h.moves)) ∙ sym h.passes

    with_outcome : (o : Outcome) → accepts o ≡ true → Ending n near (take h.moves ms) h.boards h.moves o → Cut n near start ms answer final h.moves
    with_outcome o a e = record {
      within = l;
      cut = answer_at n (take h.moves ms) h.boards h.moves o;
      refereed = subst (λ (b : Board). Refereed n near start (take h.moves ms) (answer_at n (take h.moves ms) h.boards h.moves o) b) (sym (fun_ext h.left)) (settled (course_cut h.moves h.course) e);
      accepted = a;
      passes = same_passes;
      black = sym h.black;
      white = sym h.white;
    }

    join : Ending n near (take h.moves ms) h.boards h.moves (ToMove (mover h.moves)) ⊎ Ending n near (take h.moves ms) h.boards h.moves Over → Cut n near start ms answer final h.moves
    join (inl e) = with_outcome (ToMove (mover h.moves)) refl e
    join (inr e) = with_outcome Over refl e

-- a record that is refused at a move is accepted when cut before it, with the same board
pub record_cut : RecordCut
unfolding RecordCut
record_cut n near start ms answer final r h e =
    let w = ending_refused r h.ending e in
    subst (λ (k : ℕ). Cut n near start ms answer final k) (sym w.1) (cut_accepted h w.0)

-- in a course a stone directly after a stone does not bring back the board before that stone
pub course_no_restore : {n : ℕ} {near : Near} {start : Board} {ms : List Move} {cs : ℕ → Board} {l : ℕ} → Course n near start ms cs l → (k x y : ℕ) → suc k < l → move_at ms k ≡ At x → move_at ms (suc k) ≡ At y → Same (cs (suc (suc k))) (cs k) → ⊥
course_no_restore {near = near} {cs = cs} c k x y l e i s =
    (c.goes (suc k) l).faultless (Ko (suc k)) (ko y (cs (suc (suc k))) i (subst (λ (m : Move). Makes near (mover (suc k)) (cs (suc k)) m (cs (suc (suc k)))) i (c.goes (suc k) l).makes) (x, e, s))

-- all moves of an accepted record are allowed
pub ending_accepted : {n : ℕ} {near : Near} {ms : List Move} {cs : ℕ → Board} {k : ℕ} {o : Outcome} → Ending n near ms cs k o → accepts o ≡ true → k ≡ length ms
ending_accepted (to_move e h) i = e
ending_accepted (over e h) i = e
ending_accepted (refused r h f) i = absurd (false≢true i)

-- so no stone of it brings back the board before the stone just played
pub no_stone_restores : NoStoneRestores
unfolding NoStoneRestores
no_stone_restores n near start ms answer final h a k x y l e i s = course_no_restore h.course k x y (omega (arith, ending_accepted h.ending a)) e i s

-- none, one or two passes stand at the end
pub few_passes : FewPasses
unfolding FewPasses
few_passes n near start ms answer final h = omega (arith, h.passes, course_passes h.moves h.course)

-- every record has an answer
pub record_answered : RecordAnswered
unfolding RecordAnswered
record_answered n near g start s ms = referee_answers g start s ms

-- and one only
pub record_unique : RecordUnique
unfolding RecordUnique
record_unique n near start ms a b c d r s = referee_one r s
