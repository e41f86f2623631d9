-- What the auditor finds: the first point on which the marks are not those of the judgement.
use Rattle.std.proofs.Common.{◌≡◌, ℕ, ◌<◌, ◌≤◌, Bool, true, false, not, eqb, List, length, get_or, nat_le, Some, None, Option, sym, refl, ap, ◌∙◌, inl, inr, arith}
use Rattle.std.specs.List.{position, position_or_len, zip}
use Rattle.std.proofs.lemmas.List.{get_or_past}
use Rattle.std.proofs.lemmas.List.Quantifiers.{position-Some}
use Rattle.std.proofs.lemmas.List.Sums.{prefix_len_passes}
use Rattle.std.proofs.lemmas.Slice.Zip.{length-zip, get_or-zip}
use Rattle.std.proofs.lemmas.Bool.{both_ways, cases_lt, eq-eqb, ne_eqb, le-leb, not-true, not-false}
use Rattle.std.proofs.lemmas.Bool.Decides.{nat_tests}
use Rattle.grid.specs.Grid.{points, near}
use Rattle.grid.specs.Refusals.{unless}
use Rattle.chains.specs.Board.{mine, Board}
use Rattle.chains.specs.Computed.{is_state}
use Rattle.chains.specs.Sized.{count_of, seen}
use Rattle.chains.specs.Stands.{Stands}
use Rattle.chains.specs.declared.colour.Colour.{Colour}
use Rattle.chains.specs.declared.position.Position.{Position}
use Rattle.chains.proofs.States.{none_mine, is_state_true, state_is}
use Rattle.play.specs.Played.{Stays}
use Rattle.play.proofs.Rows.{plays_comes}
use Rattle.rooms.specs.Safe.{Marks}
use Rattle.judge.specs.Promise.{Judges, Shows}
use Rattle.judge.specs.declared.judgement.Marks as J
use Rattle.capture.specs.Auditing.{marked_by, is_wrong, RightBelow, VerdictExact}
use Rattle.capture.specs.Judged.{row_refusal}
use Rattle.capture.specs.Row.{RowShown}
use Rattle.capture.specs.declared.audit.Verdict.TheVariants.{Right, Missing, TooMany, NoStone}
use Rattle.capture.specs.declared.judgement.Judgement.{Judgement}
use Rattle.capture.proofs.Carrying.{breathe_stands, carried_judges}

-- the judged entries, as marks
abbrev pub entries : List Bool → Marks
entries judged p = get_or judged p false

-- the first point, of those that have a byte, on which the marks are not those of the judged entries
pub record FirstWrong (marks : List ℕ) (judged : List Bool) (p : ℕ) : Type 0 where
  pub below : p < length marks
  pub before : (q : ℕ) → q < p → marked_by marks q ≡ get_or judged q false
  pub wrong : marked_by marks p ≡ not (get_or judged p false)

-- a byte that is not wrong is the mark that was judged
right_mark : (byte : ℕ) (judged : Bool) → is_wrong (byte, judged) ≡ false → eqb byte 1 ≡ judged
right_mark byte judged e = grind (arith, nat_tests)

wrong_mark : (byte : ℕ) (judged : Bool) → is_wrong (byte, judged) ≡ true → eqb byte 1 ≡ not judged
wrong_mark byte judged e = grind (arith, nat_tests)

-- the pair of a byte and its entry
pair_at : (marks : List ℕ) (judged : List Bool) (q : ℕ) → length marks ≤ length judged → q < length marks → get_or (zip marks judged) q (0, false) ≡ (get_or marks q 0, get_or judged q false)
pair_at marks judged q fits l = get_or-zip marks judged q (0, false) l (omega arith)

length_pairs : (marks : List ℕ) (judged : List Bool) → length marks ≤ length judged → length (zip marks judged) ≡ length marks
length_pairs marks judged fits = length-zip marks judged ∙ omega arith

-- what is found is the first
pub first_wrong : (marks : List ℕ) (judged : List Bool) {p : ℕ} → length marks ≤ length judged → Some p ≡ position is_wrong (zip marks judged) → FirstWrong marks judged p
first_wrong marks judged {p} fits found =
    let (below, wrong, before) = position-Some is_wrong (zip marks judged) p (0, false) (sym found) in
    let long = length_pairs marks judged fits in
    record {
      below = omega arith;
      before = λ q l. right_mark (get_or marks q 0) (get_or judged q false) (ap is_wrong (sym (pair_at marks judged q fits (omega arith))) ∙ before q l);
      wrong = wrong_mark (get_or marks p 0) (get_or judged p false) (ap is_wrong (sym (pair_at marks judged p fits (omega arith))) ∙ wrong);
    }

-- where none is found none is wrong
all_pass : {X : Type 0} (p : X → Bool) (xs : List X) → None ≡ position p xs → length xs ≤ position_or_len p xs
all_pass p xs none_found = grind (arith, nat_tests)

pub none_wrong : (marks : List ℕ) (judged : List Bool) → length marks ≤ length judged → None ≡ position is_wrong (zip marks judged) → (q : ℕ) → q < length marks → marked_by marks q ≡ get_or judged q false
none_wrong marks judged fits none_found q l =
    let all = all_pass is_wrong (zip marks judged) none_found in
    let long = length_pairs marks judged fits in
    right_mark (get_or marks q 0) (get_or judged q false)
    (ap is_wrong (sym (pair_at marks judged q fits l)) ∙ not-true (is_wrong (get_or (zip marks judged) q (0, false))) (prefix_len_passes (λ x. not (is_wrong x)) (zip marks judged) q (0, false) (omega (arith, all, long))))

-- marks that agree with the judgement below k are right there
pub agree_right : (w h : ℕ) (b : Board) (s j : Marks) (k : ℕ) → Judges w h b j → ((q : ℕ) → q < k → s q ≡ j q) → RightBelow w h b s k
unfolding Judges
agree_right w h b s j k judges same =
    record { right = λ q l. (λ e. (judges q).0 (sym (same q l) ∙ e), λ stays m. same q l ∙ (judges q).1 stays m) }

-- marks that are right on the board, and past it none, are the judgement
pub right_judges : (w h : ℕ) (b : Board) (s : Marks) → Stands w h b → ((q : ℕ) → points w h ≤ q → s q ≡ false) → RightBelow w h b s (points w h) → Judges w h b s
unfolding Judges
right_judges w h b s stands past r p =
    elim (cases_lt p (points w h)) [
      | inl below ↦ r.right p below
      | inr far ↦ (λ e. absurd (both_ways (s p) (past p far) e), λ stays m. absurd (outside far m))
    ]
  where
    outside : points w h ≤ p → b p ≡ mine → ⊥
    outside far m = let below = stands.inside p (λ z. none_mine z m) in omega arith

-- past the bytes there are no marks
pub unmarked_past : (marks : List ℕ) (n : ℕ) → length marks ≡ n → (q : ℕ) → n ≤ q → marked_by marks q ≡ false
unmarked_past marks n e q l = ne_eqb (get_or marks q 0) 1 (λ i. let z = get_or_past marks q 0 (omega arith) in omega arith)

-- what is known where marks are compared with a judgement
pub record Comparing (w h : ℕ) (b : Board) (marks : List ℕ) (judged : List Bool) : Type 0 where
  pub long : length marks ≡ points w h
  pub fits : length marks ≤ length judged
  pub stands : Stands w h b
  pub judges : Judges w h b (entries judged)

pub comparing : (j : Judgement) (marks : List ℕ) → length marks ≡ count_of j.position.size → length j.marks.marked ≡ 361 →
    Comparing j.position.size.width j.position.size.height (seen j.position.size j.position.cells j.colour) marks j.marks.marked
comparing j marks long entries_long =
    let size = j.position.size in
    record {
      long = long;
      fits = omega (arith, size.few.1);
      stands = breathe_stands size j.position.cells j.stands j.colour;
      judges = carried_judges size.width size.height (seen size j.position.cells j.colour) (entries j.marks.marked) j.right;
    }

-- what is found by the marks that a judgement hands out
pub found_in : {marks judged : J.Marks} {found : Option ℕ} (bytes : List ℕ) → found ≡ position is_wrong (zip bytes marks.marked) → marks ≡ judged → found ≡ position is_wrong (zip bytes judged.marked)
found_in bytes found same = found ∙ ap (λ (m : J.Marks). position is_wrong (zip bytes m.marked)) same

-- the marks agree with the judgement on the whole board
pub verdict_right : {w h : ℕ} {b : Board} {marks : List ℕ} {judged : List Bool} (lent : List ℕ) → Comparing w h b marks judged → None ≡ position is_wrong (zip marks judged) → VerdictExact w h b (marked_by marks) lent lent Right
verdict_right {w} {h} {b} {marks} {judged} lent c none_found =
    record {
      says = (
        right_judges w h b (marked_by marks) c.stands (unmarked_past marks (points w h) c.long)
            (agree_right w h b (marked_by marks) (entries judged) (points w h) c.judges (λ q l. none_wrong marks judged c.fits none_found q (omega (arith, c.long)))),
        refl,
      );
      exact = λ all. refl;
    }

-- the first wrong point is on the board, and the marks before it are right
wrong_below : {w h : ℕ} {b : Board} {marks : List ℕ} {judged : List Bool} {p : ℕ} → Comparing w h b marks judged → FirstWrong marks judged p → p < points w h
wrong_below c f = omega (arith, f.below, c.long)

wrong_before : {w h : ℕ} {b : Board} {marks : List ℕ} {judged : List Bool} {p : ℕ} → Comparing w h b marks judged → FirstWrong marks judged p → RightBelow w h b (marked_by marks) p
wrong_before {w} {h} {b} {marks} {judged} {p} c f = agree_right w h b (marked_by marks) (entries judged) p c.judges f.before

pub found_below : {w h : ℕ} {b : Board} {marks : List ℕ} {judged : List Bool} {p : ℕ} → Comparing w h b marks judged → Some p ≡ position is_wrong (zip marks judged) → p < length marks
found_below {marks = marks} {judged = judged} c found = (first_wrong marks judged c.fits found).below

-- a stone that stays has no mark
pub verdict_missing : {w h : ℕ} {b : Board} {marks : List ℕ} {judged : List Bool} {p : ℕ} (lent : List ℕ) → Comparing w h b marks judged → Some p ≡ position is_wrong (zip marks judged) →
    (get_or marks p 0 ≡ 1 → ⊥) → VerdictExact w h b (marked_by marks) lent lent (Missing p)
unfolding Judges
verdict_missing {w} {h} {b} {marks} {judged} {p} lent c found apart =
    record {
      says = (record { below = wrong_below c f; before = wrong_before c f; unmarked = unmarked; stone = held.1; stays = held.0 }, refl);
      exact = λ all. absurd (both_ways (marked_by marks p) unmarked ((all p).1 held.0 held.1));
    }
  where
    f : FirstWrong marks judged p
    f = first_wrong marks judged c.fits found

    unmarked : marked_by marks p ≡ false
    unmarked = ne_eqb (get_or marks p 0) 1 apart

    held : Stays (near w h) b p × (b p ≡ mine)
    held = (c.judges p).0 (not-false (get_or judged p false) (sym f.wrong ∙ unmarked))

-- a mark on a point that the judgement does not mark
wrong_unmarked : {marks : List ℕ} {judged : List Bool} {p : ℕ} → FirstWrong marks judged p → get_or marks p 0 ≡ 1 → get_or judged p false ≡ false
wrong_unmarked {marks} {judged} {p} f is = not-true (get_or judged p false) (sym f.wrong ∙ eq-eqb (get_or marks p 0) 1 is)

-- where a judgement shows no row of a point that it does not mark, no stone of the colour is there
refused_stone : (position : Position) (colour : Colour) (marks : J.Marks) (p k : ℕ) {e : ℕ × ℕ} → count_of position.size ≤ k → get_or marks.marked p false ≡ false →
    Some e ≡ row_refusal position colour marks p k → seen position.size position.cells colour p ≡ mine → ⊥
refused_stone position colour marks p k long unmarked refused stone =
    let is_own = state_is mine (seen position.size position.cells colour p) stone in
    let z : row_refusal position colour marks p k ≡ None = rw (le-leb (count_of position.size) k long, is_own, unmarked) refl in
    cc

-- no stone of the colour is there
pub verdict_no_stone : (j : Judgement) {marks lent moves : List ℕ} {p : ℕ} {e : ℕ × ℕ} →
    Comparing j.position.size.width j.position.size.height (seen j.position.size j.position.cells j.colour) marks j.marks.marked → Some p ≡ position is_wrong (zip marks j.marks.marked) →
    get_or marks p 0 ≡ 1 → count_of j.position.size ≤ length lent → (Some e ≡ row_refusal j.position j.colour j.marks p (length lent)) × (moves ≡ lent) →
    VerdictExact j.position.size.width j.position.size.height (seen j.position.size j.position.cells j.colour) (marked_by marks) lent moves (NoStone p)
unfolding Judges
verdict_no_stone j {marks} {lent} {moves} {p} c found is long (refused, kept) =
    record {
      says = (record { below = wrong_below c f; before = wrong_before c f; marked = eq-eqb (get_or marks p 0) 1 is; no_stone = none_there }, kept);
      exact = λ all. absurd (none_there ((all p).0 (eq-eqb (get_or marks p 0) 1 is)).1);
    }
  where
    f : FirstWrong marks j.marks.marked p
    f = first_wrong marks j.marks.marked c.fits found

    none_there : seen j.position.size j.position.cells j.colour p ≡ mine → ⊥
    none_there = refused_stone j.position j.colour j.marks p (length lent) long (wrong_unmarked f is) refused

-- a row of moves takes a stone that has a mark
pub verdict_too_many : {w h : ℕ} {b : Board} {marks : List ℕ} {judged : List Bool} {p : ℕ} {lent moves : List ℕ} {k : ℕ} → Comparing w h b marks judged → Some p ≡ position is_wrong (zip marks judged) →
    get_or marks p 0 ≡ 1 → b p ≡ mine → RowShown w h b p lent moves k → VerdictExact w h b (marked_by marks) lent moves (TooMany p k)
unfolding Judges Shows Stays
verdict_too_many {marks = marks} {judged = judged} {p = p} c found is stone row =
    let f = first_wrong marks judged c.fits found in
    record {
      says = record { below = wrong_below c f; before = wrong_before c f; marked = eq-eqb (get_or marks p 0) 1 is; stone = stone; row = row };
      exact = λ all. (let (d, plays, gone) = row.shows in absurd (none_mine gone (((all p).0 (eq-eqb (get_or marks p 0) 1 is)).0 d (plays_comes plays))));
    }

-- a judgement shows rows of its own stones only
pub shown_stone : (position : Position) (colour : Colour) (marks : J.Marks) (p k : ℕ) → row_refusal position colour marks p k ≡ None → seen position.size position.cells colour p ≡ mine
shown_stone position colour marks p k shown =
    is_state_true mine (seen position.size position.cells colour p) (own (is_state mine (seen position.size position.cells colour p)) shown)
  where
    own : (t : Bool) → unless (nat_le (count_of position.size) k) (12, 3) (unless t (11, 0) (unless (not (get_or marks.marked p false)) (11, 1) None)) ≡ None → t ≡ true
    own t e = grind (arith, nat_tests)
