-- The moves by which a chain is taken, one after the other.
use Rattle.std.proofs.Common.{◌≡◌, ℕ, ◌+◌, ◌<◌, ◌≤◌, Bool, true, false, List, length, get_or, set, None, sym, refl, subst, inl, inr, arith}
use Rattle.std.proofs.lemmas.Bool.{both_ways, cases_lt}
use Rattle.std.proofs.lemmas.List.{get_or_past}
use Rattle.grid.specs.Graph.{Graph}
use Rattle.grid.specs.declared.size.Size.{Size}
use Rattle.grid.proofs.Square.{graph}
use Rattle.chains.specs.Board.{mine, yours, Board, Breathes}
use Rattle.chains.specs.Computed.{breathing}
use Rattle.chains.specs.Sized.{count_of, near_of, seen}
use Rattle.chains.specs.Views.{other, is_point, is_stone}
use Rattle.chains.specs.declared.colour.Colour.{Colour}
use Rattle.chains.specs.declared.position.Position.{Position}
use Rattle.chains.proofs.Chain.{breathes_breathing}
use Rattle.play.specs.After.{after}
use Rattle.play.specs.Played.{Played}
use Rattle.play.specs.Stone.{stone_refusal, StonePlayed}
use Rattle.play.proofs.Refusing.{position_read, not_refused_stone}
use Rattle.rooms.specs.Regions.{Liberty}
use Rattle.judge.proofs.Frame.{step_frame}
use Rattle.judge.proofs.Taking.{step_falls}
use Rattle.capture.specs.Row.{board_of, SoFar, Phase, InPhase, Nearer, Captured}
use Rattle.capture.specs.Target.{NextLiberty, OpenTouch}
use Rattle.capture.specs.declared.capturing.Row.{Row}
use Rattle.capture.specs.declared.target.Target.{Target}
use Rattle.capture.proofs.Choosing.{next_breathes, breath_touch}
use Rattle.capture.proofs.Rows.{other_other, row_step}

-- every byte of a board writes a point, so a position has bytes enough
position_long : (position : Position) → count_of position.size ≤ length position.cells
position_long position = elim (cases_lt (length position.cells) (count_of position.size)) [
  | inr long ↦ long
  | inl short ↦
      (let past : get_or position.cells (length position.cells) 0 ≡ 0 = get_or_past position.cells (length position.cells) 0 (omega arith) in
      absurd (both_ways (is_point 0) refl (subst (λ (byte : ℕ). is_point byte ≡ true) past (position.board (length position.cells) short))))
]

-- a stone of the other side on an empty point is not refused if it breathes on the board that it makes
pub move_allowed : (position : Position) (colour : Colour) (y turn : ℕ) → y < count_of position.size → is_stone (get_or position.cells y 0) ≡ false →
    Breathes (near_of position.size) (after (count_of position.size) (near_of position.size) (seen position.size position.cells colour) y) yours y →
    stone_refusal position.size.width position.size.height position.cells (other colour) y turn ≡ None
move_allowed position colour y turn below empty breath =
    not_refused_stone (other colour) turn (position_read position (position_long position)) (record { inside = below; empty = empty })
    (subst BreathingAt (sym (other_other colour)) (breathes_breathing (graph position.size.width position.size.height) (left colour) yours y breath))
  where
    left : Colour → Board
    left c = after (count_of position.size) (near_of position.size) (seen position.size position.cells c) y

    BreathingAt : Colour → Type 0
    BreathingAt c = breathing (count_of position.size) (near_of position.size) (left c) yours y ≡ true

-- the move as the other side sees it
pub move_played : (size : Size) (cells left : List ℕ) (colour : Colour) {y turn taken : ℕ} → StonePlayed size.width size.height cells (other colour) y turn left taken →
    Played (near_of size) (seen size cells colour) y (seen size left colour)
move_played size cells left colour {y} s =
    subst (λ (c : Colour). Played (near_of size) (seen size cells c) y (seen size left c)) (other_other colour) s.played

-- the liberty that is chosen on the row's board
abbrev pub Chosen : Target → Row → ℕ → Type 0
Chosen t row y = NextLiberty (count_of row.position.size) (near_of row.position.size) row.position.cells t.chains t.rooms t.vital.words t.chain y

-- the chosen liberty is one, and a stone there breathes
phase_liberty : (row : Row) {b : Board} (t : Target) → InPhase b t row → board_of row t.chain ≡ mine → (y : ℕ) → Chosen t row y →
    Liberty (near_of row.position.size) (board_of row) t.chain y × Breathes (near_of row.position.size) (after (count_of row.position.size) (near_of row.position.size) (board_of row) y) yours y
phase_liberty row t phase stands y l =
    next_breathes (graph row.position.size.width row.position.size.height) phase.aimed row.position.size.few.1 row.position.cells row.colour phase.frame stands l

-- so it is not refused
pub phase_allowed : (row : Row) {b : Board} (t : Target) → InPhase b t row → board_of row t.chain ≡ mine → (y : ℕ) → Chosen t row y → (turn : ℕ) →
    stone_refusal row.position.size.width row.position.size.height row.position.cells (other row.colour) y turn ≡ None
phase_allowed row t phase stands y l turn =
    move_allowed row.position row.colour y turn l.below l.free.empty (phase_liberty row t phase stands y l).1

-- one move nearer to the capture
pub phase_step : (row : Row) {b : Board} (t : Target) (next : Position) {y turn taken : ℕ} → InPhase b t row → board_of row t.chain ≡ mine → Chosen t row y → next.size ≡ row.position.size →
    StonePlayed row.position.size.width row.position.size.height row.position.cells (other row.colour) y turn next.cells taken →
    Nearer (count_of row.position.size) (near_of row.position.size) b t (board_of row) (seen next.size next.cells row.colour)
phase_step row {b} t next {y} phase stands l sized s =
    subst (λ (u : Size). Nearer (count_of row.position.size) (near_of row.position.size) b t (board_of row) (seen u next.cells row.colour)) (sym sized) (record {
      phase = record { aimed = phase.aimed; frame = step_frame square phase.frame liberty played };
      fewer = step_falls square phase.frame liberty played;
    })
  where
    square : Graph (count_of row.position.size) (near_of row.position.size)
    square = graph row.position.size.width row.position.size.height

    liberty : Liberty (near_of row.position.size) (board_of row) t.chain y
    liberty = (phase_liberty row t phase stands y l).0

    played : Played (near_of row.position.size) (board_of row) y (seen row.position.size next.cells row.colour)
    played = move_played row.position.size row.position.cells next.cells row.colour s

-- and one move more in the row
pub row_played : {b : Board} {row : Row} (next : Position) {y turn taken : ℕ} → length row.moves ≡ 361 → SoFar b row → next.size ≡ row.position.size → y < count_of row.position.size →
    StonePlayed row.position.size.width row.position.size.height row.position.cells (other row.colour) y turn next.cells taken →
    (row.played < count_of row.position.size) × SoFar b (record { position = next; colour = row.colour; moves = set row.moves row.played y; played = row.played + 1 })
row_played {row = row} next {y} long s sized below p =
    row_step long s next y sized below (p.stands row.colour s.stands) (move_played row.position.size row.position.cells next.cells row.colour p)

-- a chain of which a stone stands is not without a liberty
pub phase_breath : (row : Row) {b : Board} (t : Target) → InPhase b t row → Breathes (near_of row.position.size) (board_of row) mine t.chain →
    ((z : ℕ) → z < count_of row.position.size → OpenTouch (near_of row.position.size) row.position.cells t.chains t.chain z → ⊥) → ⊥
phase_breath row t phase breath none_free =
    breath_touch (graph row.position.size.width row.position.size.height) phase.aimed row.position.cells row.colour phase.frame breath none_free

-- the chain stands or is taken
pub phase_end : {n : ℕ} {near : ℕ → ℕ → Bool} {b : Board} {t : Target} {d : Board} → Phase n near b t d → (d t.chain ≡ mine → ⊥) → Captured n near b t.chain d
phase_end {t = t} phase gone =
    record {
      below = phase.aimed.below;
      was = phase.aimed.stone;
      frame = phase.frame;
      gone = elim (phase.frame.mine_go t.chain phase.aimed.stone) [ inl m ↦ absurd (gone m) | inr z ↦ z ];
    }
