-- What is known of a board that was surveyed: the labels are points, all of its chains and rooms are left at first, and what is left at last is the judgement.
use Rattle.std.proofs.Common.{◌≡◌, ℕ, ◌<◌, ◌≤◌, true, false, List, get_or, refl}
use Rattle.std.proofs.Math.Logic.{∥∥₁_elim}
use Rattle.std.proofs.lemmas.Bool.{le-ltb}
use Rattle.std.proofs.Props.{props}
use Rattle.grid.specs.Graph.{Near}
use Rattle.grid.specs.declared.size.Size.{Size}
use Rattle.chains.specs.Board.{mine, Board}
use Rattle.chains.specs.Computed.{is_state}
use Rattle.chains.specs.Sized.{count_of, near_of, seen}
use Rattle.chains.specs.declared.colour.Colour.{Colour}
use Rattle.chains.proofs.States.{none_mine}
use Rattle.play.specs.Played.{Stays}
use Rattle.rooms.specs.Numbered.{kept_by}
use Rattle.rooms.specs.Safe.{Marks}
use Rattle.rooms.specs.Tables.{set_of}
use Rattle.rooms.specs.declared.room_set.RoomSet.{RoomSet}
use Rattle.judge.specs.Promise.{Judges}
use Rattle.judge.specs.Round.{Rounds, Enough, Judging}
use Rattle.judge.specs.Surveyed.{Surveyed}
use Rattle.judge.proofs.Gathering.{Gathered, gathered_end, chain_stone, room_below}
use Rattle.judge.proofs.Round.{judges_marks}

-- a statement on states or tests has one proof
pub judges_prop : (w h : ℕ) (b : Board) (s : Marks) → IsProp (Judges w h b s)
unfolding Judges Stays
judges_prop w h b s = hlevel props

judging_prop : (n : ℕ) (near : Near) (b : Board) (chains rooms kept open_rooms : List ℕ) → IsProp (Judging n near b chains rooms kept open_rooms)
judging_prop n near b chains rooms kept open_rooms = hlevel props

-- the number of an own stone's chain is a point, and so is that of every other point's room
pub survey_chain : {size : Size} {cells : List ℕ} {colour : Colour} {chains rooms : List ℕ} {vital walls : List RoomSet} (p : ℕ) → ∥ Surveyed size cells colour chains rooms vital walls ∥₁ →
    true ≡ is_state mine (seen size cells colour p) → get_or chains p 0 < count_of size
survey_chain {chains = chains} p written own = ∥∥₁_elim written (hlevel props) (λ s. s.stands.inside (get_or chains p 0) (λ z. none_mine z (chain_stone p s.chained own)))

pub survey_room : {size : Size} {cells : List ℕ} {colour : Colour} {chains rooms : List ℕ} {vital walls : List RoomSet} (p : ℕ) → ∥ Surveyed size cells colour chains rooms vital walls ∥₁ →
    p < count_of size → false ≡ is_state mine (seen size cells colour p) → get_or rooms p 0 < count_of size
survey_room p written l other = ∥∥₁_elim written (hlevel props) (λ s. room_below p s.parted l other)

-- all points were gone through
pub survey_all : {size : Size} {cells : List ℕ} {colour : Colour} {chains rooms : List ℕ} {vital walls : List RoomSet} {k : ℕ} (kept open_rooms : List ℕ) → ∥ Surveyed size cells colour chains rooms vital walls ∥₁ →
    k ≡ count_of size → Gathered (seen size cells colour) chains rooms k kept open_rooms →
    Judging (count_of size) (near_of size) (seen size cells colour) chains rooms kept open_rooms
survey_all {size} {cells} {colour} {chains} {rooms} kept open_rooms written all g =
    ∥∥₁_elim written (judging_prop (count_of size) (near_of size) (seen size cells colour) chains rooms kept open_rooms)
    (λ s. gathered_end kept open_rooms s.chained (λ p m. s.stands.inside p (λ z. none_mine z m)) all g)

-- past the board no stone is kept
pub kept_past : (size : Size) (cells : List ℕ) (colour : Colour) (chains kept : List ℕ) (p : ℕ) → count_of size ≤ p → kept_by (seen size cells colour) chains kept p ≡ false
kept_past size cells colour chains kept p l = rw (le-ltb p (count_of size) l) refl

-- the rounds ended
pub survey_judges : {size : Size} {cells : List ℕ} {colour : Colour} {chains rooms kept open_rooms later_kept later_open : List ℕ} {vital walls : List RoomSet} {k : ℕ} (marks : Marks) →
    ∥ Surveyed size cells colour chains rooms vital walls ∥₁ → count_of size ≤ 361 →
    Judging (count_of size) (near_of size) (seen size cells colour) chains rooms kept open_rooms → k ≡ count_of size →
    Rounds k (set_of vital) (set_of walls) kept open_rooms later_kept later_open → Enough k (set_of vital) later_kept later_open →
    ((p : ℕ) → marks p ≡ kept_by (seen size cells colour) chains later_kept p) → Judges size.width size.height (seen size cells colour) marks
survey_judges {size} {cells} {colour} marks written small was all rounds enough same =
    ∥∥₁_elim written (judges_prop size.width size.height (seen size cells colour) marks)
    (λ s. judges_marks size.width size.height marks s.stands s.chained s.parted s.sets small was all rounds enough same)
