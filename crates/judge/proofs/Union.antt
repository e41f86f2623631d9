-- Marks that are safe may be put together.
use Rattle.std.proofs.Common.{◌≡◌, ℕ, true, ◌⊎◌, refl, inl, inr}
use Rattle.std.proofs.lemmas.Bool.{cases_Bool}
use Rattle.grid.specs.Graph.{Near}
use Rattle.chains.specs.Board.{Board}
use Rattle.rooms.specs.Safe.{Marks}
use Rattle.judge.specs.Promise.{either, Together}
use Rattle.rooms.proofs.Bundle.{VitalRoom, RoomPair, safe_pair, pairs_safe, pair_map}

-- a room among some marks is one among more marks
pub vital_more : {near : Near} {b : Board} {s t r : Marks} {p : ℕ} → ((q : ℕ) → s q ≡ true → t q ≡ true) → VitalRoom near b s r p → VitalRoom near b t r p
vital_more {near} {b} {s} {t} {r} more v = record {
  room = record { clear = v.room.clear; closed = λ q e i n. elim (v.room.closed q e i n) [ inl k ↦ inl k | inr k ↦ inr (more e k) ] };
  vital = v.vital;
}

either_left : (s t : Marks) (q : ℕ) → s q ≡ true → either s t q ≡ true
unfolding either
either_left s t q e = rw e refl

either_right : (s t : Marks) (q : ℕ) → t q ≡ true → either s t q ≡ true
unfolding either
either_right s t q e = elim (cases_Bool (s q)) [ inl h ↦ rw h refl | inr h ↦ rw h e ]

either_cases : (s t : Marks) (q : ℕ) → either s t q ≡ true → (s q ≡ true) ⊎ (t q ≡ true)
unfolding either
either_cases s t q e = elim (cases_Bool (s q)) [ inl h ↦ inl h | inr h ↦ inr (rw h at e) ]

-- marks that are safe may be put together
pub together : Together
unfolding Together
together near b s t a c =
    pairs_safe
    (λ p h. elim (either_cases s t p h) [ inl k ↦ a.stones p k | inr k ↦ c.stones p k ])
    (λ p q h n y. elim (either_cases s t p h) [ inl k ↦ either_left s t q (a.whole p q k n y) | inr k ↦ either_right s t q (c.whole p q k n y) ])
    (λ p h. elim (either_cases s t p h) [ inl k ↦ lift s (either_left s t) p (safe_pair a p k) | inr k ↦ lift t (either_right s t) p (safe_pair c p k) ])
  where
    lift : (u : Marks) → ((q : ℕ) → u q ≡ true → either s t q ≡ true) → (p : ℕ) → RoomPair near b u p → RoomPair near b (either s t) p
    lift u more p k = pair_map (λ r v. vital_more more v) k
