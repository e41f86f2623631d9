-- Safe marks stay: one move of the other side keeps the same marks with the same rooms.
use Rattle.std.proofs.Common.{◌≡◌, ℕ, true, false, ◌≢◌, ◌⊎◌, ◌∙◌, subst, inl, inr}
use Rattle.std.proofs.lemmas.Bool.{both_ways, cases_Bool}
use Rattle.grid.specs.Graph.{Near}
use Rattle.chains.specs.Board.{none, mine, yours, Board, Joined, at, on, Breathes}
use Rattle.chains.proofs.States.{Kind, is_none, is_mine, is_yours, kind, none_mine, none_yours, mine_yours}
use Rattle.chains.proofs.Chain.{joined_last, joined_map}
use Rattle.play.specs.Played.{with_stone, Played, Comes, start, Stays}
use Rattle.play.proofs.Moves.{put_other, played_made, made_mine}
use Rattle.rooms.specs.Safe.{Marks, Safe}
use Rattle.judge.specs.Promise.{SafeStays, StaysSo}
use Rattle.rooms.proofs.Bundle.{VitalRoom, RoomPair, safe_pair, pairs_safe, pair_map}
use Rattle.rooms.proofs.Rounds.{chain_within}

-- the chain of a marked stone is marked
pub chain_marked : {near : Near} {b : Board} {s : Marks} {p q : ℕ} → Safe near b s → s p ≡ true → Joined near b mine p q → s q ≡ true
chain_marked a h j = chain_within a.whole h j

-- a point of a room is not one outside it
room_apart : (r : Marks) (e x : ℕ) → r e ≡ true → r x ≡ false → e ≢ x
room_apart r e x i o same = both_ways (r x) o (subst (λ (q : ℕ). r q ≡ true) same i)

-- a stone put on an empty point outside one of its vital rooms leaves a chain its breath there
pub vital_breath : {near : Near} {b : Board} {s r : Marks} {p : ℕ} (x : ℕ) → b x ≡ none → r x ≡ false → VitalRoom near b s r p → Breathes near (with_stone x b) mine p
vital_breath {near} {b} {s} {r} {p} x free out v = record {
  stone = w.0;
  chain = joined_map (λ q j. put_other x b q (λ e. none_mine free (subst (λ (i : ℕ). b i ≡ mine) e (joined_last j))) ∙ joined_last j) w.1;
  empty = v.vital.some;
  next = w.2;
  is = put_other x b v.vital.some (room_apart r v.vital.some x v.vital.inside out) ∙ v.vital.empty;
}
  where
    w : (q : ℕ) × Joined near b mine p q × (near q v.vital.some ≡ true)
    w = v.vital.beside v.vital.some v.vital.inside v.vital.empty

-- a marked stone is not taken by one move
pub marked_stays : {near : Near} {b d : Board} {s : Marks} {x : ℕ} → Safe near b s → Played near b x d → (p : ℕ) → s p ≡ true → d p ≡ mine
marked_stays {near} {b} {d} {s} {x} a m p h = join (cases_Bool (c.one x)) (cases_Bool (c.two x))
  where
    c : RoomPair near b s p
    c = safe_pair a p h

    by : Breathes near (with_stone x b) mine p → d p ≡ mine
    by k = m.breathing p (a.stones p h) k

    join : (c.one x ≡ true) ⊎ (c.one x ≡ false) → (c.two x ≡ true) ⊎ (c.two x ≡ false) → d p ≡ mine
    join (inr o) t = by (vital_breath x m.was o c.one_has)
    join (inl i) (inr o) = by (vital_breath x m.was o c.two_has)
    join (inl i) (inl j) = absurd (c.apart x i j)

-- after a move a vital room is still vital, if the marked stones are still there
pub vital_move : {near : Near} {b d : Board} {s r : Marks} {p x : ℕ} → Played near b x d → ((q : ℕ) → s q ≡ true → d q ≡ mine) → ((q : ℕ) → Joined near b mine p q → s q ≡ true) → VitalRoom near b s r p → VitalRoom near d s r p
vital_move {near} {b} {d} {s} {r} {p} {x} m still marked v = record {
  room = record { clear = λ q i y. v.room.clear q i (made_mine (played_made m) y); closed = v.room.closed };
  vital = record { some = free.0; inside = free.1; empty = free.2; beside = λ e i z. beside e (v.vital.beside e i (was_empty e i z (kind (b e)))) };
}
  where
    -- a neighbour of the room that is not mine lies in it
    closed : (q e : ℕ) → r q ≡ true → near q e ≡ true → (d e ≡ mine → ⊥) → r e ≡ true
    closed q e i n o = elim (v.room.closed q e i n) [ inl k ↦ k | inr k ↦ absurd (o (still e k)) ]

    -- the chain of a stone of yours in the room lies in it
    within : {y q : ℕ} → r y ≡ true → Joined near d yours y q → r q ≡ true
    within i (at e) = i
    within i (on {q = q} z j n e) = closed q z (within i j) n (λ k. mine_yours k e)

    some_empty : (r x ≡ true) ⊎ (r x ≡ false) → (e : ℕ) × (r e ≡ true) × (d e ≡ none)
    some_empty (inl i) =
        let k = m.breathes in
        (k.empty, closed k.stone k.empty (within i k.chain) k.next (λ y. none_mine k.is y), k.is)
    some_empty (inr o) = (v.vital.some, v.vital.inside, m.empty v.vital.some (room_apart r v.vital.some x v.vital.inside o) v.vital.empty)

    free : (e : ℕ) × (r e ≡ true) × (d e ≡ none)
    free = some_empty (cases_Bool (r x))

    was_empty : (e : ℕ) → r e ≡ true → d e ≡ none → Kind (b e) → b e ≡ none
    was_empty e i z (is_none k) = k
    was_empty e i z (is_mine k) = absurd (v.room.clear e i k)
    was_empty e i z (is_yours k) = absurd (none_yours z (m.stands e k))

    beside : (e : ℕ) → (q : ℕ) × Joined near b mine p q × (near q e ≡ true) → (q : ℕ) × Joined near d mine p q × (near q e ≡ true)
    beside e k = (k.0, joined_map (λ q j. still q (marked q j)) k.1, k.2)

-- one move keeps the same marks with the same rooms
pub safe_move : {near : Near} {b d : Board} {s : Marks} {x : ℕ} → Safe near b s → Played near b x d → Safe near d s
safe_move {near} {b} {d} {s} {x} a m =
    pairs_safe
    (marked_stays a m)
    (λ p q h n y. a.whole p q h n (made_mine (played_made m) y))
    (λ p h. pair_map (λ r v. vital_move m (marked_stays a m) (λ q j. chain_marked a h j) v) (safe_pair a p h))

-- whatever the other side has played meanwhile, the same marks are safe marks of the new board
pub stays_so : StaysSo
unfolding StaysSo
stays_so near b d s a c = go c
  where
    go : {e : Board} → Comes near b e → Safe near e s
    go start = a
    go (Comes.then x k p) = safe_move (go k) p

-- safe marks stay
pub safe_stays : SafeStays
unfolding SafeStays StaysSo Stays
safe_stays near b s a p h d c = (stays_so near b d s a c).stones p h
