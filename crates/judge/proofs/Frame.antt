-- Playing on nothing but the liberties of one chain: what is kept by each move.
use Rattle.std.proofs.Common.{◌≡◌, ℕ, true, ◌≢◌, ◌⊎◌, sym, refl, ap, ◌∙◌, subst, inl, inr}
use Rattle.std.proofs.lemmas.Bool.{cases_eq}
use Rattle.grid.specs.Graph.{Near, Graph}
use Rattle.chains.specs.Board.{none, mine, yours, Board, Joined, at, on}
use Rattle.chains.proofs.States.{is_none, is_mine, is_yours, kind, none_mine, none_yours, mine_yours}
use Rattle.chains.proofs.Chain.{joined_last, joined_map, breathes_or_not, breathes_along}
use Rattle.play.specs.Played.{with_stone, Played}
use Rattle.play.proofs.Moves.{the_stone, elsewhere, put, put_was, Made, played_made, made_mine}
use Rattle.rooms.specs.Regions.{Beside, Liberty}
use Rattle.judge.specs.Frame.{Frame}

-- nothing has been played yet
pub frame_start : {near : Near} {b : Board} {c : ℕ} → Frame near b c b
frame_start = record {
  yours_stay = λ q h. h;
  mine_go = λ q h. inl h;
  none_filled = λ q h. inl h;
  whole = λ p q near_q mine_p mine_q h. mine_q;
}

-- what is mine now was mine at the start
pub was_mine : {near : Near} {b d : Board} {c : ℕ} → Frame near b c d → (q : ℕ) → d q ≡ mine → b q ≡ mine
was_mine {b = b} f q h = elim (kind (b q)) [
  | is_none z ↦ elim (f.none_filled q z) [ inl e ↦ absurd (none_mine e h) | inr filled ↦ absurd (mine_yours h filled.0) ]
  | is_mine m ↦ m
  | is_yours y ↦ absurd (mine_yours h (f.yours_stay q y))
]

-- what was the other side's or empty at the start is so now
pub stays_clear : {near : Near} {b d : Board} {c : ℕ} → Frame near b c d → (q : ℕ) → (b q ≡ none) ⊎ (b q ≡ yours) → (d q ≡ none) ⊎ (d q ≡ yours)
stays_clear f q (inl z) = elim (f.none_filled q z) [ inl e ↦ inl e | inr filled ↦ inr filled.0 ]
stays_clear f q (inr y) = inr (f.yours_stay q y)

-- a chain of the present board is a part of one at the start
pub chain_back : {near : Near} {b d : Board} {c p q : ℕ} → Frame near b c d → Joined near d mine p q → Joined near b mine p q
chain_back f j = joined_map (λ r k. was_mine f r (joined_last k)) j

-- a chain of the start of which one stone stands, stands whole
pub chain_stands : {near : Near} {b d : Board} {c p q : ℕ} → Frame near b c d → d p ≡ mine → Joined near b mine p q → Joined near d mine p q
chain_stands f h (at m) = at h
chain_stands f h (on {q = q} r j near_r m) = let k = chain_stands f h j in on r k near_r (f.whole q r near_r (joined_last j) m (joined_last k))

-- a liberty of the present board was one at the start
pub liberty_back : {near : Near} {b d : Board} {c p y : ℕ} → Frame near b c d → Liberty near d p y → Liberty near b p y
liberty_back {near} {b} {p = p} {y = y} f l = record { beside = record { stone = s; chain = j; next = l.beside.next }; is = empty }
  where
    s : ℕ
    s = l.beside.stone

    j : Joined near b mine p s
    j = chain_back f l.beside.chain

    empty : b y ≡ none
    empty = elim (kind (b y)) [
      | is_none z ↦ z
      | is_mine m ↦ absurd (none_mine l.is (f.whole s y l.beside.next (joined_last j) m (joined_last l.beside.chain)))
      | is_yours h ↦ absurd (none_yours l.is (f.yours_stay y h))
    ]

-- a stone of mine is not at an empty point
pub mine_apart : (b : Board) (x q : ℕ) → b x ≡ none → b q ≡ mine → q ≢ x
mine_apart b x q z m e = none_mine z (ap b (sym e) ∙ m)

-- a chain of mine is the same after a stone is put at an empty point
pub chain_with_stone : {near : Near} {b : Board} {p q : ℕ} (x : ℕ) → b x ≡ none → Joined near b mine p q → Joined near (with_stone x b) mine p q
chain_with_stone {b = b} x z j = joined_map (λ r k. elim (put x b r) [
  | the_stone e w ↦ absurd (mine_apart b x r z (joined_last k) e)
  | elsewhere other w ↦ w ∙ joined_last k
]) j

-- and was the same before
pub chain_before_stone : {near : Near} {p q : ℕ} (x : ℕ) (b : Board) → Joined near (with_stone x b) mine p q → Joined near b mine p q
chain_before_stone x b j = joined_map (λ r k. (put_was x b r mine (mine_yours refl) (joined_last k)).1) j

-- a stone at a liberty of the chain keeps the frame, whether it breathes or not
pub frame_made : {n : ℕ} {near : Near} → Graph n near → {b d e : Board} {c y : ℕ} → Frame near b c d → Liberty near d c y → Made near d y e → Frame near b c e
frame_made {near = near} g {b} {d} {e} {c} {y} f l m = record {
  yours_stay = λ q h. m.stands q (f.yours_stay q h);
  mine_go = go;
  none_filled = filled;
  whole = whole;
}
  where
    at_start : Liberty near b c y
    at_start = liberty_back f l

    go : (q : ℕ) → b q ≡ mine → (e q ≡ mine) ⊎ (e q ≡ none)
    go q h = elim (f.mine_go q h) [
      | inl stands ↦ elim (breathes_or_not g (with_stone y d) mine q) [
        | inl breath ↦ inl (m.breathing q stands breath)
        | inr stifled ↦ inr (m.taken q stands stifled)
      ]
      | inr gone ↦ inr (m.empty q (mine_apart b y q at_start.is h) gone)
    ]

    filled : (q : ℕ) → b q ≡ none → (e q ≡ none) ⊎ ((e q ≡ yours) × Beside near b c q)
    filled q h = elim (f.none_filled q h) [
      | inl z ↦ elim (cases_eq q y) [
        | inl same ↦ inr (subst (λ (r : ℕ). (e r ≡ yours) × Beside near b c r) (sym same) (m.there, at_start.beside))
        | inr other ↦ inl (m.empty q other z)
      ]
      | inr stone ↦ inr (m.stands q stone.0, stone.1)
    ]

    whole : (p q : ℕ) → near p q ≡ true → b p ≡ mine → b q ≡ mine → e p ≡ mine → e q ≡ mine
    whole p q near_q was_p was_q h =
        let mine_p : d p ≡ mine = made_mine m h in
        let mine_q : d q ≡ mine = f.whole p q near_q was_p was_q mine_p in
        elim (breathes_or_not g (with_stone y d) mine p) [
          | inl breath ↦ m.breathing q mine_q (breathes_along (chain_with_stone y m.was (on p (at mine_q) (g.symmetric p q near_q) mine_p)) breath)
          | inr stifled ↦ absurd (none_mine (m.taken p mine_p stifled) h)
        ]

-- a move at a liberty of the chain keeps the frame
pub step_frame : {n : ℕ} {near : Near} → Graph n near → {b d e : Board} {c y : ℕ} → Frame near b c d → Liberty near d c y → Played near d y e → Frame near b c e
step_frame g f l m = frame_made g f l (played_made m)
