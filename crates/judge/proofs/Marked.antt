-- The marks that are left when the rounds of striking end are the judgement.
use Rattle.std.proofs.Common.{◌≡◌, ℕ, ◌≤◌, true, List, sym, ◌∙◌}
use Rattle.grid.specs.Graph.{Near, Graph}
use Rattle.grid.specs.Grid.{points, near}
use Rattle.grid.proofs.Square.{graph}
use Rattle.chains.specs.Board.{Board}
use Rattle.chains.specs.Labels.{ChainLabels}
use Rattle.chains.specs.Stands.{Stand, Stands}
use Rattle.chains.proofs.Square.{stands_stand}
use Rattle.rooms.specs.Safe.{Marks, Safe}
use Rattle.rooms.specs.Bits.{shared_below}
use Rattle.rooms.specs.Striking.{SoundSoFar, Whole, Settled}
use Rattle.rooms.specs.Numbered.{RoomLabels, VitalRooms, kept_by, Going}
use Rattle.rooms.proofs.Numbered.{kept_whole, going_end}
use Rattle.rooms.proofs.Rounds.{rest_safe}
use Rattle.judge.specs.Promise.{Judges, SafeStays}
use Rattle.judge.specs.AnyBoard.{JudgesOver, StaysSafeOver}
use Rattle.judge.proofs.Sound.{safe_stays}
use Rattle.judge.proofs.Alive.{stays_safe_over}

-- marks that are safe, with nothing safe outside them, are the judgement
pub judges_rest : {n : ℕ} {near : Near} → Graph n near → {b : Board} {kept rooms : Marks} → Stand n near b → Safe near b kept → SoundSoFar n near b kept rooms → JudgesOver near b kept
unfolding JudgesOver SafeStays StaysSafeOver
judges_rest {n} {near} g {b} {kept} stand safe sound p = (
  λ h. (safe_stays near b kept safe p h, safe.stones p h),
  λ stays m. let (s, held, marked) = stays_safe_over n near g b stand p m stays in sound.stones_kept s held p marked,
)

-- whole chains from which nothing more can be struck, nothing safe having been struck, are the judgement
pub judges_settled : {n : ℕ} {near : Near} → Graph n near → {b : Board} {kept rooms : Marks} →
    Stand n near b → Whole near b kept → Settled n near b kept rooms → SoundSoFar n near b kept rooms → JudgesOver near b kept
judges_settled g stand chains settled sound = judges_rest g stand (rest_safe g chains settled) sound

-- a judgement over the square board's neighbours is one of the square board
pub judges_square : (w h : ℕ) (b : Board) (s : Marks) → JudgesOver (near w h) b s → Judges w h b s
unfolding Judges JudgesOver
judges_square w h b s j p = j p

-- the square board's case
pub judges_settled_square : (w h : ℕ) {b : Board} {kept rooms : Marks} →
    Stands w h b → Whole (near w h) b kept → Settled (points w h) (near w h) b kept rooms → SoundSoFar (points w h) (near w h) b kept rooms → Judges w h b kept
judges_settled_square w h {b} {kept} stands chains settled sound = judges_square w h b kept (judges_settled (graph w h) (stands_stand stands) chains settled sound)

-- the striking by numbers, when each chain that is kept shares at least two vital rooms with the open ones
pub judges_going : {n : ℕ} {near : Near} → Graph n near → {b : Board} {chains rooms kept open_rooms : List ℕ} →
    Stand n near b → ChainLabels n near b chains → RoomLabels n near b rooms → Going n near b chains rooms kept open_rooms →
    ((p : ℕ) → kept_by b chains kept p ≡ true → (vital : List ℕ) × VitalRooms n near b rooms p vital × (2 ≤ shared_below 384 vital open_rooms)) →
    JudgesOver near b (kept_by b chains kept)
judges_going g {kept = kept} stand chain_labels room_labels going many =
    judges_settled g stand (kept_whole kept chain_labels) (going_end room_labels going many) going.sound

-- marks that are the same at each point are judged the same
pub judges_same : (w h : ℕ) (b : Board) (s t : Marks) → ((p : ℕ) → t p ≡ s p) → Judges w h b s → Judges w h b t
unfolding Judges
judges_same w h b s t same j p = (λ marked. (j p).0 (sym (same p) ∙ marked), λ stays m. same p ∙ (j p).1 stays m)
