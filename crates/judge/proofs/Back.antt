-- Safe marks of a board come back to the board before a capture.
use Rattle.std.proofs.Common.{◌≡◌, ℕ, true, inl, inr}
use Rattle.grid.specs.Graph.{Near, Graph}
use Rattle.chains.specs.Board.{none, mine, Board, Joined}
use Rattle.chains.proofs.States.{is_none, is_mine, is_yours, kind, none_mine, none_yours}
use Rattle.chains.proofs.Chain.{joined_last, joined_sym}
use Rattle.rooms.specs.Safe.{Marks, Safe}
use Rattle.rooms.proofs.Bundle.{VitalRoom, safe_pair, pairs_safe, pair_map}
use Rattle.judge.specs.Frame.{Frame}
use Rattle.judge.proofs.Frame.{was_mine, chain_back, chain_stands}

-- a chain of which one stone is taken is taken whole
pub taken_whole : {n : ℕ} {near : Near} → Graph n near → {b d : Board} {c p q : ℕ} → Frame near b c d → Joined near b mine p q → d p ≡ none → d q ≡ mine → ⊥
taken_whole g f j gone m = none_mine gone (joined_last (chain_stands f m (joined_sym g j)))

-- a room that is vital to the chain of p was one before the capture too
vital_room_back : {n : ℕ} {near : Near} → Graph n near → {b d : Board} {c p : ℕ} {s r : Marks} → Frame near b c d → d c ≡ none →
    ((q : ℕ) → s q ≡ true → d q ≡ mine) → VitalRoom near d s r p → VitalRoom near b s r p
vital_room_back {near} g {b} {d} {c} {p} {s} {r} f gone stones h =
    record {
      room = record { clear = clear; closed = h.room.closed };
      vital = record {
        some = h.vital.some;
        inside = h.vital.inside;
        empty = was_empty h.vital.some h.vital.inside h.vital.empty;
        beside = λ e i z.
            let t = h.vital.beside e i (stays_empty e i z) in
            (t.0, chain_back f t.1, t.2);
      };
    }
  where
    clear : (q : ℕ) → r q ≡ true → b q ≡ mine → ⊥
    clear q i m =
        elim (f.mine_go q m) [
          | inl z ↦ h.room.clear q i z
          | inr z ↦
              let t = h.vital.beside q i z in
              let still : d t.0 ≡ mine = joined_last t.1 in
              none_mine z (f.whole t.0 q t.2 (was_mine f t.0 still) m still)
        ]

    was_empty : (q : ℕ) → r q ≡ true → d q ≡ none → b q ≡ none
    was_empty q i z =
        elim (kind (b q)) [
          | is_none e ↦ e
          | is_mine e ↦ absurd (clear q i e)
          | is_yours e ↦ absurd (none_yours z (f.yours_stay q e))
        ]

    stays_empty : (q : ℕ) → r q ≡ true → b q ≡ none → d q ≡ none
    stays_empty q i z =
        elim (f.none_filled q z) [
          | inl e ↦ e
          | inr (e, t) ↦
              elim (h.room.closed q t.stone i (g.symmetric t.stone q t.next)) [
                | inl k ↦ absurd (clear t.stone k (joined_last t.chain))
                | inr k ↦ absurd (taken_whole g f t.chain gone (stones t.stone k))
              ]
        ]

-- safe marks of the board after the capture of the chain of c are safe marks of the board before
pub back : {n : ℕ} {near : Near} → Graph n near → {b d : Board} {c : ℕ} {s : Marks} → Frame near b c d → d c ≡ none → Safe near d s → Safe near b s
back g f gone safe =
    pairs_safe
    (λ p h. was_mine f p (safe.stones p h))
    (λ p q h next m. safe.whole p q h next (f.whole p q next (was_mine f p (safe.stones p h)) m (safe.stones p h)))
    (λ p h. pair_map (λ r v. vital_room_back g f gone safe.stones v) (safe_pair safe p h))
