-- A judgement of a board by a certificate: for each marked stone two rooms, and a row of moves after which no other stone is left. A test that computes says whether it is right.
use Rattle.std.proofs.Common.{◌≡◌, ℕ, zero, suc, ◌<◌, ◌≤◌, Bool, true, false, not, ◌&&◌, ◌||◌, eqb, ltb, ◌⊎◌, List, [], ◌∷◌, sym, refl, ◌∙◌, subst, inl, inr, arith}
use Rattle.std.proofs.lemmas.Bool.{false≢true, both_ways, cases_eq, cases_lt, and_parts, and_from, or_cases, or_left, or_right, eqb-true, eq-eqb, ltb-true, le-ltb, not-true}
use Rattle.grid.specs.Graph.{Near, Graph}
use Rattle.grid.specs.Grid.{near, points}
use Rattle.grid.proofs.Square.{graph}
use Rattle.chains.specs.Board.{none, mine, yours, Board, Joined}
use Rattle.chains.specs.Computed.{is_state, any, reaches, breathing}
use Rattle.chains.specs.Views.{view}
use Rattle.chains.specs.declared.colour.Colour.{Colour}
use Rattle.chains.proofs.States.{is_state_true, state_is, none_mine}
use Rattle.chains.proofs.Below.{any_true}
use Rattle.chains.proofs.Reach.{reaches_linked}
use Rattle.chains.proofs.Chain.{linked_joined, breathing_breathes}
use Rattle.play.specs.Played.{with_stone, Played, Stays, Plays, no_more}
use Rattle.play.specs.After.{after}
use Rattle.play.proofs.Moves.{Made, after_made, made_played, put_other}
use Rattle.play.proofs.Rows.{plays_comes}
use Rattle.rooms.specs.Safe.{Marks, Room, Vital, Safe}
use Rattle.rooms.proofs.Bundle.{VitalRoom, RoomPair, pairs_safe}
use Rattle.judge.specs.Promise.{Judges, SafeStays}
use Rattle.judge.specs.Boards.{listed}
use Rattle.judge.proofs.Sound.{safe_stays}

-- ---- tests over lists and over the points below n

-- the second holds if the first does
abbrev pub implies : Bool → Bool → Bool
implies x y = not x || y

implied : (x y : Bool) → implies x y ≡ true → x ≡ true → y ≡ true
implied true y e h = e
implied false y e h = absurd (false≢true h)

-- every point of the list passes
abbrev pub all_in : (ℕ → Bool) → List ℕ → Bool
all_in t [] = true
all_in t (x ∷ xs) = t x && all_in t xs

all_in_true : (t : ℕ → Bool) (xs : List ℕ) (p : ℕ) → all_in t xs ≡ true → listed xs p ≡ true → t p ≡ true
all_in_true t [] p e h = absurd (false≢true h)
all_in_true t (x ∷ xs) p e h =
    let parts = and_parts (t x) (all_in t xs) e in
    join (all_in_true t xs p parts.1) parts.0 (or_cases (eqb p x) (listed xs p) h)
  where
    join : (listed xs p ≡ true → t p ≡ true) → t x ≡ true → (eqb p x ≡ true) ⊎ (listed xs p ≡ true) → t p ≡ true
    join later here (inl s) = subst (λ (q : ℕ). t q ≡ true) (sym (eqb-true p x s)) here
    join later here (inr k) = later k

-- some point of the list passes
abbrev pub any_in : (ℕ → Bool) → List ℕ → Bool
any_in t [] = false
any_in t (x ∷ xs) = t x || any_in t xs

any_in_true : (t : ℕ → Bool) (xs : List ℕ) → any_in t xs ≡ true → (p : ℕ) × (listed xs p ≡ true) × (t p ≡ true)
any_in_true t [] e = absurd (false≢true e)
any_in_true t (x ∷ xs) e = join (any_in_true t xs) (or_cases (t x) (any_in t xs) e)
  where
    join : (any_in t xs ≡ true → (p : ℕ) × (listed xs p ≡ true) × (t p ≡ true)) → (t x ≡ true) ⊎ (any_in t xs ≡ true) → (p : ℕ) × (listed (x ∷ xs) p ≡ true) × (t p ≡ true)
    join later (inl h) = (x, or_left (eqb x x) (listed xs x) (eq-eqb x x refl), h)
    join later (inr h) = let (p, i, k) = later h in (p, or_right (eqb p x) (listed xs p) i, k)

-- every point below n passes
abbrev pub all_below : (ℕ → Bool) → ℕ → Bool
all_below t zero = true
all_below t (suc n) = all_below t n && t n

all_below_true : (t : ℕ → Bool) (n p : ℕ) → all_below t n ≡ true → p < n → t p ≡ true
all_below_true t zero p e l = absurd (omega arith)
all_below_true t (suc n) p e l =
    let parts = and_parts (all_below t n) (t n) e in
    join (all_below_true t n p parts.0) parts.1 (cases_eq n p)
  where
    join : (p < n → t p ≡ true) → t n ≡ true → (n ≡ p) ⊎ (n ≡ p → ⊥) → t p ≡ true
    join later here (inl s) = subst (λ (q : ℕ). t q ≡ true) s here
    join later here (inr other) = later (omega arith)

-- ---- safe marks by explicit rooms

-- whether the list is a room among the marks
abbrev pub room_test : ℕ → Near → Board → List ℕ → List ℕ → Bool
room_test n near b marks room =
    all_in (λ p. not (is_state mine (b p)) && all_below (λ q. implies (near p q) (listed room q || listed marks q)) n) room

room_right : {n : ℕ} {near : Near} → Graph n near → (b : Board) (marks room : List ℕ) → room_test n near b marks room ≡ true → Room near b (listed marks) (listed room)
room_right {n} {near} g b marks room e = record { clear = λ p i m. both_ways (is_state mine (b p)) (not-true (is_state mine (b p)) (parts p i).0) (state_is mine (b p) m); closed = closed }
  where
    around : ℕ → Bool
    around p = all_below (λ q. implies (near p q) (listed room q || listed marks q)) n

    parts : (p : ℕ) → listed room p ≡ true → (not (is_state mine (b p)) ≡ true) × (around p ≡ true)
    parts p i = and_parts (not (is_state mine (b p))) (around p) (all_in_true (λ p. not (is_state mine (b p)) && around p) room p e i)

    closed : (p q : ℕ) → listed room p ≡ true → near p q ≡ true → (listed room q ≡ true) ⊎ (listed marks q ≡ true)
    closed p q i next =
        or_cases (listed room q) (listed marks q)
        (implied (near p q) (listed room q || listed marks q)
        (all_below_true (λ q. implies (near p q) (listed room q || listed marks q)) n q (parts p i).1 (g.inside q p (g.symmetric p q next)))
        next)

-- whether e is beside the chain of p
abbrev pub beside_test : ℕ → Near → Board → ℕ → ℕ → Bool
beside_test n near b p e = any (λ q. reaches n near (λ r. is_state mine (b r)) p q && near q e) n

-- whether the room in the list is vital to the chain of p
abbrev pub vital_test : ℕ → Near → Board → List ℕ → ℕ → Bool
vital_test n near b room p = any_in (λ e. is_state none (b e)) room && all_in (λ e. implies (is_state none (b e)) (beside_test n near b p e)) room

vital_right : {n : ℕ} {near : Near} → Graph n near → (b : Board) (room : List ℕ) (p : ℕ) → vital_test n near b room p ≡ true → Vital near b (listed room) p
vital_right {n} {near} g b room p e = record { some = some.0; inside = some.1; empty = is_state_true none (b some.0) some.2; beside = beside }
  where
    parts : (any_in (λ e. is_state none (b e)) room ≡ true) × (all_in (λ e. implies (is_state none (b e)) (beside_test n near b p e)) room ≡ true)
    parts = and_parts (any_in (λ e. is_state none (b e)) room) (all_in (λ e. implies (is_state none (b e)) (beside_test n near b p e)) room) e

    some : (q : ℕ) × (listed room q ≡ true) × (is_state none (b q) ≡ true)
    some = any_in_true (λ e. is_state none (b e)) room parts.0

    beside : (e : ℕ) → listed room e ≡ true → b e ≡ none → (q : ℕ) × Joined near b mine p q × (near q e ≡ true)
    beside e i z =
        let found = any_true (λ q. reaches n near (λ r. is_state mine (b r)) p q && near q e) n
        (implied (is_state none (b e)) (beside_test n near b p e) (all_in_true (λ e. implies (is_state none (b e)) (beside_test n near b p e)) room e parts.1 i) (state_is none (b e) z)) in
        let q = found.0 in
        let both = and_parts (reaches n near (λ r. is_state mine (b r)) p q) (near q e) found.2 in
        (q, linked_joined (reaches_linked g (λ r. is_state mine (b r)) p q both.0), both.1)

-- a marked stone with its two rooms
pub record Roomed : Type 0 where
  pub stone : ℕ
  pub one : List ℕ
  pub two : List ℕ

-- the stones that are given rooms
abbrev pub stones_of : List Roomed → List ℕ
stones_of [] = []
stones_of (r ∷ rs) = r.stone ∷ stones_of rs

-- whether the stone has two rooms that are vital to its chain and have no point in common
abbrev pub pair_test : ℕ → Near → Board → List ℕ → Roomed → Bool
pair_test n near b marks r =
    (room_test n near b marks r.one && vital_test n near b r.one r.stone)
    && ((room_test n near b marks r.two && vital_test n near b r.two r.stone) && all_in (λ q. not (listed r.two q)) r.one)

pair_right : {n : ℕ} {near : Near} → Graph n near → (b : Board) (marks : List ℕ) (r : Roomed) → pair_test n near b marks r ≡ true → RoomPair near b (listed marks) r.stone
pair_right {n} {near} g b marks r e =
    record {
      one = listed r.one;
      two = listed r.two;
      one_has = vital_room r.one first.0;
      two_has = vital_room r.two second.0;
      apart = λ q i j. both_ways (listed r.two q) (not-true (listed r.two q) (all_in_true (λ q. not (listed r.two q)) r.one q second.1 i)) j;
    }
  where
    fit : List ℕ → Bool
    fit room = room_test n near b marks room && vital_test n near b room r.stone

    free : Bool
    free = all_in (λ q. not (listed r.two q)) r.one

    first : (fit r.one ≡ true) × ((fit r.two && free) ≡ true)
    first = and_parts (fit r.one) (fit r.two && free) e

    second : (fit r.two ≡ true) × (free ≡ true)
    second = and_parts (fit r.two) free first.1

    vital_room : (room : List ℕ) → fit room ≡ true → VitalRoom near b (listed marks) (listed room) r.stone
    vital_room room h =
        let parts = and_parts (room_test n near b marks room) (vital_test n near b room r.stone) h in
        record { room = room_right g b marks room parts.0; vital = vital_right g b room r.stone parts.1 }

-- every stone has its two rooms
abbrev pub all_paired : ℕ → Near → Board → List ℕ → List Roomed → Bool
all_paired n near b marks [] = true
all_paired n near b marks (r ∷ rs) = pair_test n near b marks r && all_paired n near b marks rs

all_paired_right : {n : ℕ} {near : Near} → Graph n near → (b : Board) (marks : List ℕ) (rs : List Roomed) → all_paired n near b marks rs ≡ true →
    (p : ℕ) → listed (stones_of rs) p ≡ true → RoomPair near b (listed marks) p
all_paired_right g b marks [] e p h = absurd (false≢true h)
all_paired_right {n} {near} g b marks (r ∷ rs) e p h =
    let parts = and_parts (pair_test n near b marks r) (all_paired n near b marks rs) e in
    join (all_paired_right g b marks rs parts.1 p) parts.0 (or_cases (eqb p r.stone) (listed (stones_of rs) p) h)
  where
    join : (listed (stones_of rs) p ≡ true → RoomPair near b (listed marks) p) → pair_test n near b marks r ≡ true → (eqb p r.stone ≡ true) ⊎ (listed (stones_of rs) p ≡ true) → RoomPair near b (listed marks) p
    join later here (inl s) = subst (λ (q : ℕ). RoomPair near b (listed marks) q) (sym (eqb-true p r.stone s)) (pair_right g b marks r here)
    join later here (inr k) = later k

-- whether a stone is of mine and its neighbours of mine are marked
abbrev pub whole_test : ℕ → Near → Board → List ℕ → ℕ → Bool
whole_test n near b marks p = is_state mine (b p) && all_below (λ q. implies (near p q && is_state mine (b q)) (listed marks q)) n

-- whether the stones are safe with their rooms
abbrev pub safe_test : ℕ → Near → Board → List Roomed → Bool
safe_test n near b rs = all_in (whole_test n near b (stones_of rs)) (stones_of rs) && all_paired n near b (stones_of rs) rs

-- stones that pass the test are safe
pub safe_right : {n : ℕ} {near : Near} → Graph n near → (b : Board) (rs : List Roomed) → safe_test n near b rs ≡ true → Safe near b (listed (stones_of rs))
safe_right {n} {near} g b rs e =
    pairs_safe
    (λ p h. is_state_true mine (b p) (whole p h).0)
    (λ p q h next m.
    implied (near p q && is_state mine (b q)) (listed marks q)
    (all_below_true (λ q. implies (near p q && is_state mine (b q)) (listed marks q)) n q (whole p h).1 (g.inside q p (g.symmetric p q next)))
    (and_from (near p q) (is_state mine (b q)) next (state_is mine (b q) m)))
    (all_paired_right g b marks rs parts.1)
  where
    marks : List ℕ
    marks = stones_of rs

    parts : (all_in (whole_test n near b marks) marks ≡ true) × (all_paired n near b marks rs ≡ true)
    parts = and_parts (all_in (whole_test n near b marks) marks) (all_paired n near b marks rs) e

    whole : (p : ℕ) → listed marks p ≡ true → (is_state mine (b p) ≡ true) × (all_below (λ q. implies (near p q && is_state mine (b q)) (listed marks q)) n ≡ true)
    whole p h = and_parts (is_state mine (b p)) (all_below (λ q. implies (near p q && is_state mine (b q)) (listed marks q)) n) (all_in_true (whole_test n near b marks) marks p parts.0 h)

-- ---- rows of moves by the boards after them

-- a move and the bytes of the board after it
pub record Turn : Type 0 where
  pub move : ℕ
  pub bytes : List ℕ

-- whether the move on board b is allowed and makes board d
abbrev pub played_test : ℕ → Near → Board → ℕ → Board → Bool
played_test n near b x d = (ltb x n && is_state none (b x)) && (breathing n near d yours x && all_below (λ q. is_state (after n near b x q) (d q)) n)

played_right : {n : ℕ} {near : Near} → Graph n near → (b d : Board) (x : ℕ) → ((q : ℕ) → n ≤ q → b q ≡ none) → ((q : ℕ) → n ≤ q → d q ≡ none) →
    played_test n near b x d ≡ true → Played near b x d
unfolding after
played_right {n} {near} g b d x b_past d_past e = made_played made (breathing_breathes g d yours x second.0)
  where
    same_below : Bool
    same_below = all_below (λ q. is_state (after n near b x q) (d q)) n

    halves : ((ltb x n && is_state none (b x)) ≡ true) × ((breathing n near d yours x && same_below) ≡ true)
    halves = and_parts (ltb x n && is_state none (b x)) (breathing n near d yours x && same_below) e

    first : (ltb x n ≡ true) × (is_state none (b x) ≡ true)
    first = and_parts (ltb x n) (is_state none (b x)) halves.0

    second : (breathing n near d yours x ≡ true) × (same_below ≡ true)
    second = and_parts (breathing n near d yours x) same_below halves.1

    small : x < n
    small = ltb-true x n first.0

    past : (q : ℕ) → n ≤ q → after n near b x q ≡ none
    past q l = let z : with_stone x b q ≡ none = put_other x b q (λ (s : q ≡ x). omega (arith, small)) ∙ b_past q l in rw z refl

    same : (q : ℕ) → d q ≡ after n near b x q
    same q = elim (cases_lt q n) [
      | inl l ↦ is_state_true (after n near b x q) (d q) (all_below_true (λ q. is_state (after n near b x q) (d q)) n q second.1 l)
      | inr l ↦ d_past q l ∙ sym (past q l)
    ]

    m : Made near b x (after n near b x)
    m = after_made g b x (is_state_true none (b x) first.1)

    made : Made near b x d
    made = record {
      was = m.was;
      there = same x ∙ m.there;
      empty = λ q o z. same q ∙ m.empty q o z;
      stands = λ q z. same q ∙ m.stands q z;
      breathing = λ q z h. same q ∙ m.breathing q z h;
      taken = λ q z h. same q ∙ m.taken q z h;
    }

-- past the points of a board there is nothing
view_past : (n : ℕ) (bytes : List ℕ) (colour : Colour) (q : ℕ) → n ≤ q → view n bytes colour q ≡ none
view_past n bytes colour q l = rw (le-ltb q n l) refl

-- whether each move is allowed and makes the board that is given
abbrev pub row_test : ℕ → Near → Colour → List ℕ → List Turn → Bool
row_test n near colour bytes [] = true
row_test n near colour bytes (t ∷ ts) = played_test n near (view n bytes colour) t.move (view n t.bytes colour) && row_test n near colour t.bytes ts

-- the bytes of the last board
abbrev pub last_bytes : List ℕ → List Turn → List ℕ
last_bytes bytes [] = bytes
last_bytes bytes (t ∷ ts) = last_bytes t.bytes ts

-- the moves of a row
abbrev pub moves_of : List Turn → List ℕ
moves_of [] = []
moves_of (t ∷ ts) = t.move ∷ moves_of ts

-- a row that passes the test can be played
pub row_right : {n : ℕ} {near : Near} → Graph n near → (colour : Colour) (bytes : List ℕ) (ts : List Turn) → row_test n near colour bytes ts ≡ true →
    Plays near (view n bytes colour) (moves_of ts) (view n (last_bytes bytes ts) colour)
row_right g colour bytes [] e = no_more
row_right {n} {near} g colour bytes (t ∷ ts) e =
    let parts = and_parts (played_test n near (view n bytes colour) t.move (view n t.bytes colour)) (row_test n near colour t.bytes ts) e in
    Plays.then
    (played_right g (view n bytes colour) (view n t.bytes colour) t.move (view_past n bytes colour) (view_past n t.bytes colour) parts.0)
    (row_right g colour t.bytes ts parts.1)

-- ---- the judgement

-- the marked stones are safe, and after the row of moves no other stone of the side is left
abbrev pub judged_test : ℕ → Near → Colour → List ℕ → List Roomed → List Turn → Bool
judged_test n near colour bytes rs ts =
    safe_test n near (view n bytes colour) rs
    && (row_test n near colour bytes ts && all_below (λ p. implies (is_state mine (view n (last_bytes bytes ts) colour p)) (listed (stones_of rs) p)) n)

-- a certificate that passes the test is a judgement
pub judged_right : (w h : ℕ) (colour : Colour) (bytes : List ℕ) (rs : List Roomed) (ts : List Turn) → judged_test (points w h) (near w h) colour bytes rs ts ≡ true →
    Judges w h (view (points w h) bytes colour) (listed (stones_of rs))
unfolding Judges SafeStays Stays
judged_right w h colour bytes rs ts e p = (λ i. (safe_stays (near w h) b marks safe p i, safe.stones p i), λ stays m. left p (stays d (plays_comes row)))
  where
    n : ℕ
    n = points w h

    b : Board
    b = view n bytes colour

    d : Board
    d = view n (last_bytes bytes ts) colour

    marks : Marks
    marks = listed (stones_of rs)

    end_test : Bool
    end_test = all_below (λ p. implies (is_state mine (d p)) (marks p)) n

    first : (safe_test n (near w h) b rs ≡ true) × ((row_test n (near w h) colour bytes ts && end_test) ≡ true)
    first = and_parts (safe_test n (near w h) b rs) (row_test n (near w h) colour bytes ts && end_test) e

    second : (row_test n (near w h) colour bytes ts ≡ true) × (end_test ≡ true)
    second = and_parts (row_test n (near w h) colour bytes ts) end_test first.1

    safe : Safe (near w h) b marks
    safe = safe_right (graph w h) b rs first.0

    row : Plays (near w h) b (moves_of ts) d
    row = row_right (graph w h) colour bytes ts second.0

    left : (p : ℕ) → d p ≡ mine → marks p ≡ true
    left p m = elim (cases_lt p n) [
      | inl l ↦ implied (is_state mine (d p)) (marks p) (all_below_true (λ p. implies (is_state mine (d p)) (marks p)) n p second.1 l) (state_is mine (d p) m)
      | inr l ↦ absurd (none_mine (view_past n (last_bytes bytes ts) colour p l) m)
    ]
