-- Safe marks with what each marked stone has bundled: two rooms, each with all that is asked of it.
use Rattle.std.proofs.Common.{◌≡◌, ℕ, true}
use Rattle.grid.specs.Graph.{Near}
use Rattle.chains.specs.Board.{mine, Board}
use Rattle.rooms.specs.Safe.{Marks, Room, Vital, Safe}

-- a room among the marks that is vital to the chain of p
pub record VitalRoom (near : Near) (b : Board) (s r : Marks) (p : ℕ) : Type 0 where
  pub room : Room near b s r
  pub vital : Vital near b r p

-- two of them with no point in common
pub record RoomPair (near : Near) (b : Board) (s : Marks) (p : ℕ) : Type 0 where
  pub one : Marks
  pub two : Marks
  pub one_has : VitalRoom near b s one p
  pub two_has : VitalRoom near b s two p
  pub apart : (q : ℕ) → one q ≡ true → two q ≡ true → ⊥

-- the two rooms of a marked stone
pub safe_pair : {near : Near} {b : Board} {s : Marks} → Safe near b s → (p : ℕ) → s p ≡ true → RoomPair near b s p
safe_pair a p h = record {
  one = a.one p h;
  two = a.two p h;
  one_has = record { room = a.one_room p h; vital = a.one_vital p h };
  two_has = record { room = a.two_room p h; vital = a.two_vital p h };
  apart = a.apart p h;
}

-- whole chains of mine, each stone with two rooms, are safe marks
pub pairs_safe : {near : Near} {b : Board} {s : Marks} → ((p : ℕ) → s p ≡ true → b p ≡ mine) → ((p q : ℕ) → s p ≡ true → near p q ≡ true → b q ≡ mine → s q ≡ true) → ((p : ℕ) → s p ≡ true → RoomPair near b s p) → Safe near b s
pairs_safe stones whole pair = record {
  stones = stones;
  whole = whole;
  one = λ p h. (pair p h).one;
  two = λ p h. (pair p h).two;
  one_room = λ p h. (pair p h).one_has.room;
  two_room = λ p h. (pair p h).two_has.room;
  one_vital = λ p h. (pair p h).one_has.vital;
  two_vital = λ p h. (pair p h).two_has.vital;
  apart = λ p h. (pair p h).apart;
}

-- what holds of one room carries over to both
pub pair_map : {near : Near} {b d : Board} {s t : Marks} {p : ℕ} → ((r : Marks) → VitalRoom near b s r p → VitalRoom near d t r p) → RoomPair near b s p → RoomPair near d t p
pair_map f a = record { one = a.one; two = a.two; one_has = f a.one a.one_has; two_has = f a.two a.two_has; apart = a.apart }
