-- All chains of a side and all rooms are gathered, point by point.
use Rattle.std.proofs.Common.{◌≡◌, ℕ, ◌+◌, ◌<◌, true, false, ◌||◌, eqb, List, get_or, sym, refl, ◌∙◌, subst, inl, inr, arith}
use Rattle.std.proofs.lemmas.Bool.{both_ways, cases_eq, or_cases, or_left, or_right, eqb-true, eq-eqb}
use Rattle.grid.specs.Graph.{Near}
use Rattle.chains.specs.Board.{mine, Board}
use Rattle.chains.specs.Computed.{is_state}
use Rattle.chains.specs.Labels.{ChainLabels}
use Rattle.chains.specs.Linked.{here}
use Rattle.chains.proofs.Chain.{joined_last}
use Rattle.chains.proofs.States.{is_state_true, state_is, none_mine}
use Rattle.rooms.specs.Bits.{member}
use Rattle.rooms.specs.Numbered.{RoomLabels}
use Rattle.rooms.specs.Regions.{not_mine}
use Rattle.rooms.specs.declared.room_set.RoomSet.{RoomSet}
use Rattle.rooms.proofs.Rounds.{mine_or_not, room_clear}
use Rattle.judge.specs.Round.{Judging}
use Rattle.judge.proofs.Round.{judging_start}

-- the points below k are gone through
pub record Gathered (b : Board) (chains rooms : List ℕ) (k : ℕ) (kept open_rooms : List ℕ) : Type 0 where
  pub sound : (c : ℕ) → member kept c ≡ true → (p : ℕ) × (b p ≡ mine) × (get_or chains p 0 ≡ c)
  pub chains_in : (p : ℕ) → p < k → b p ≡ mine → member kept (get_or chains p 0) ≡ true
  pub rooms_in : (y : ℕ) → y < k → not_mine b y ≡ true → member open_rooms (get_or rooms y 0) ≡ true

-- no point is gone through yet
pub gathered_start : {b : Board} {chains rooms kept open_rooms : List ℕ} → ((c : ℕ) → member kept c ≡ false) → Gathered b chains rooms 0 kept open_rooms
gathered_start {kept = kept} nothing =
    record { sound = λ c h. absurd (both_ways (member kept c) (nothing c) h); chains_in = λ p l m. absurd (omega arith); rooms_in = λ y l free. absurd (omega arith) }

-- a stone's chain is put in
pub gathered_chain : {b : Board} {chains rooms : List ℕ} {k : ℕ} {kept open_rooms kept_too open_too : RoomSet} (put : RoomSet) → Gathered b chains rooms k kept.words open_rooms.words →
    true ≡ is_state mine (b k) → ((c : ℕ) → member put.words c ≡ (member kept.words c || eqb c (get_or chains k 0))) → kept_too ≡ put → open_too ≡ open_rooms →
    Gathered b chains rooms (k + 1) kept_too.words open_too.words
gathered_chain {b} {chains} {rooms} {k} {kept} {open_rooms} {kept_too} {open_too} put g is_own put_is kept_is open_is =
    subst (λ (s : RoomSet). Gathered b chains rooms (k + 1) s.words open_too.words) (sym kept_is)
    (subst (λ (s : RoomSet). Gathered b chains rooms (k + 1) put.words s.words) (sym open_is)
    (record {
      sound = λ c h. elim (or_cases (member kept.words c) (eqb c (get_or chains k 0)) (sym (put_is c) ∙ h)) [
        | inl was ↦ g.sound c was
        | inr same ↦ (k, stone, sym (eqb-true c (get_or chains k 0) same))
      ];
      chains_in = λ p l m. elim (cases_eq p k) [
        | inl same ↦
            subst (λ (i : ℕ). member put.words (get_or chains i 0) ≡ true) (sym same)
            (put_is (get_or chains k 0) ∙ or_right (member kept.words (get_or chains k 0)) (eqb (get_or chains k 0) (get_or chains k 0)) (eq-eqb (get_or chains k 0) (get_or chains k 0) refl))
        | inr other ↦ put_is (get_or chains p 0) ∙ or_left (member kept.words (get_or chains p 0)) (eqb (get_or chains p 0) (get_or chains k 0)) (g.chains_in p (omega arith) m)
      ];
      rooms_in = λ y l free. elim (cases_eq y k) [
        | inl same ↦ absurd (room_clear b y free (subst (λ (i : ℕ). b i ≡ mine) (sym same) stone))
        | inr other ↦ g.rooms_in y (omega arith) free
      ];
    }))
  where
    stone : b k ≡ mine
    stone = is_state_true mine (b k) (sym is_own)

-- the room of a point without such a stone is put in
pub gathered_room : {b : Board} {chains rooms : List ℕ} {k : ℕ} {kept open_rooms kept_too open_too : RoomSet} (put : RoomSet) → Gathered b chains rooms k kept.words open_rooms.words →
    false ≡ is_state mine (b k) → ((y : ℕ) → member put.words y ≡ (member open_rooms.words y || eqb y (get_or rooms k 0))) → kept_too ≡ kept → open_too ≡ put →
    Gathered b chains rooms (k + 1) kept_too.words open_too.words
gathered_room {b} {chains} {rooms} {k} {kept} {open_rooms} {kept_too} {open_too} put g not_own put_is kept_is open_is =
    subst (λ (s : RoomSet). Gathered b chains rooms (k + 1) s.words open_too.words) (sym kept_is)
    (subst (λ (s : RoomSet). Gathered b chains rooms (k + 1) kept.words s.words) (sym open_is)
    (record {
      sound = g.sound;
      chains_in = λ p l m. elim (cases_eq p k) [
        | inl same ↦ absurd (both_ways (is_state mine (b k)) (sym not_own) (state_is mine (b k) (subst (λ (i : ℕ). b i ≡ mine) same m)))
        | inr other ↦ g.chains_in p (omega arith) m
      ];
      rooms_in = λ y l free. elim (cases_eq y k) [
        | inl same ↦
            subst (λ (i : ℕ). member put.words (get_or rooms i 0) ≡ true) (sym same)
            (put_is (get_or rooms k 0) ∙ or_right (member open_rooms.words (get_or rooms k 0)) (eqb (get_or rooms k 0) (get_or rooms k 0)) (eq-eqb (get_or rooms k 0) (get_or rooms k 0) refl))
        | inr other ↦ put_is (get_or rooms y 0) ∙ or_left (member open_rooms.words (get_or rooms y 0)) (eqb (get_or rooms y 0) (get_or rooms k 0)) (g.rooms_in y (omega arith) free)
      ];
    }))

-- the number of a chain is that of an own stone
pub chain_stone : {n : ℕ} {near : Near} {b : Board} {chains : List ℕ} (p : ℕ) → ChainLabels n near b chains → true ≡ is_state mine (b p) → b (get_or chains p 0) ≡ mine
chain_stone {b = b} p labels own = joined_last (labels.joined mine p (λ z. none_mine z refl) (is_state_true mine (b p) (sym own)))

-- and the number of a room is a point of it
pub room_below : {n : ℕ} {near : Near} {b : Board} {rooms : List ℕ} (p : ℕ) → RoomLabels n near b rooms → p < n → false ≡ is_state mine (b p) → get_or rooms p 0 < n
room_below {b = b} p labels l other = elim (mine_or_not b p) [
  | inl m ↦ absurd (both_ways (is_state mine (b p)) (sym other) (state_is mine (b p) m))
  | inr free ↦ (let m = labels.least p p l (here free) in omega arith)
]

-- all points are gone through
pub gathered_end : {n : ℕ} {near : Near} {b : Board} {chains rooms : List ℕ} {k : ℕ} (kept open_rooms : List ℕ) → ChainLabels n near b chains → ((p : ℕ) → b p ≡ mine → p < n) →
    k ≡ n → Gathered b chains rooms k kept open_rooms → Judging n near b chains rooms kept open_rooms
gathered_end kept open_rooms labels inside all g =
    judging_start kept open_rooms labels g.sound (λ p m. g.chains_in p (let l = inside p m in omega arith) m) (λ y l free. g.rooms_in y (omega arith) free)
