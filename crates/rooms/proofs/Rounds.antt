-- The rounds of striking: nothing safe is ever struck, and what is left when nothing more can be struck is safe.
use Rattle.std.proofs.Common.{◌≡◌, ℕ, ◌<◌, true, false, ◌⊎◌, inl, inr}
use Rattle.std.proofs.lemmas.Bool.{both_ways}
use Rattle.grid.specs.Graph.{Near, Graph}
use Rattle.chains.specs.Board.{none, mine, Board, Joined, at, on}
use Rattle.chains.specs.Linked.{here, step}
use Rattle.chains.specs.Computed.{reaches}
use Rattle.chains.proofs.States.{is_none, is_mine, is_yours, kind, none_mine, mine_yours}
use Rattle.chains.proofs.Reach.{linked_last, linked_trans, linked_sym, reaches_linked, linked_reaches}
use Rattle.chains.proofs.Chain.{joined_last, joined_trans, joined_sym}
use Rattle.rooms.specs.Regions.{not_mine, OneRoom, Beside, AllBeside}
use Rattle.rooms.specs.Safe.{Marks, Room, Safe}
use Rattle.rooms.specs.Striking.{Wall, VitalTo, WallsIn, SoundSoFar, TwoOpen, FewOpen, ChainsStruck, RoomsStruck, Whole, Settled}
use Rattle.rooms.proofs.Bundle.{VitalRoom, RoomPair, safe_pair, pairs_safe}
use Rattle.rooms.proofs.Regions.{clear_cases, beside_below}

-- where a room is, there is no stone of mine
pub room_clear : (b : Board) (p : ℕ) → not_mine b p ≡ true → b p ≡ mine → ⊥
room_clear b p h m = elim (clear_cases b p h) [ inl z ↦ none_mine z m | inr y ↦ mine_yours m y ]

-- a stone of mine stands there, or none does
pub mine_or_not : (b : Board) (p : ℕ) → (b p ≡ mine) ⊎ (not_mine b p ≡ true)
mine_or_not b p = elim (kind (b p)) [ is_none z ↦ inr (cc) | is_mine m ↦ inl m | is_yours y ↦ inr (cc) ]

-- an empty point has no stone of mine
pub empty_clear : (b : Board) (p : ℕ) → b p ≡ none → not_mine b p ≡ true
empty_clear b p z = rw z

-- the room of y, as marks
abbrev pub room_of : ℕ → Near → Board → ℕ → Marks
room_of n near b y = reaches n near (not_mine b) y

-- marks that hold whole chains hold the chain of each of their stones
pub chain_within : {near : Near} {b : Board} {s : Marks} {p q : ℕ} → ((p q : ℕ) → s p ≡ true → near p q ≡ true → b q ≡ mine → s q ≡ true) →
    s p ≡ true → Joined near b mine p q → s q ≡ true
chain_within whole h (at e) = h
chain_within whole h (on {q = q} r j next e) = whole q r (chain_within whole h j) next e

-- a room among marked stones of mine holds the whole largest room of each of its points
pub room_within : {near : Near} {b : Board} {s r : Marks} {y z : ℕ} → ((p : ℕ) → s p ≡ true → b p ≡ mine) → Room near b s r → r y ≡ true → OneRoom near b y z → r z ≡ true
room_within stones room i (here h) = i
room_within {b = b} stones room i (step {q = q} z l next h) =
    elim (room.closed q z (room_within stones room i l) next) [ inl k ↦ k | inr k ↦ absurd (room_clear b z h (stones z k)) ]

-- a largest room that is vital to the chain of p and has all its walls among the marks
pub record OwnRoom (n : ℕ) (near : Near) (b : Board) (s : Marks) (p y : ℕ) : Type 0 where
  pub below : y < n
  pub clear : not_mine b y ≡ true
  pub vital : VitalTo near b p y
  pub walls : WallsIn near b s y

-- the largest room of the empty point of a room that safe marks have for p
pub own_room : {n : ℕ} {near : Near} → Graph n near → {b : Board} {s r : Marks} {p : ℕ} → Safe near b s → (v : VitalRoom near b s r p) → OwnRoom n near b s p v.vital.some
own_room {n} {near} g {b} {s} {r} {p} safe v =
    record { below = beside_below g (all y itself v.vital.empty); clear = free; vital = record { point = y; inside = itself; is = v.vital.empty; all = all }; walls = walls }
  where
    y : ℕ
    y = v.vital.some

    free : not_mine b y ≡ true
    free = empty_clear b y v.vital.empty

    itself : OneRoom near b y y
    itself = here free

    within : {z : ℕ} → OneRoom near b y z → r z ≡ true
    within l = room_within safe.stones v.room v.vital.inside l

    all : AllBeside near b p y
    all e l z = let w = v.vital.beside e (within l) z in record { stone = w.0; chain = w.1; next = w.2 }

    walls : WallsIn near b s y
    walls c w =
        let q = w.beside.stone in
        elim (v.room.closed w.point q (within w.inside) (g.symmetric q w.point w.beside.next)) [
          | inl k ↦ absurd (v.room.clear q k (joined_last w.beside.chain))
          | inr k ↦ chain_within safe.whole k (joined_sym g w.beside.chain)
        ]

-- a chain of safe marks has two different largest rooms that are vital to it, with all their walls among the marks; so, if nothing safe was struck, it has two open rooms
pub safe_two_open : {n : ℕ} {near : Near} → Graph n near → {b : Board} {s kept rooms : Marks} {p : ℕ} → SoundSoFar n near b kept rooms → Safe near b s → s p ≡ true → TwoOpen n near b rooms p
safe_two_open {n} {near} g {b} {s} {kept} {rooms} {p} sound safe h =
    record {
      one = t.one_has.vital.some;
      two = t.two_has.vital.some;
      one_below = first.below;
      two_below = second.below;
      one_open = open_room first;
      two_open = open_room second;
      one_vital = first.vital;
      two_vital = second.vital;
      apart = λ l. t.apart t.two_has.vital.some (room_within safe.stones t.one_has.room t.one_has.vital.inside l) t.two_has.vital.inside;
    }
  where
    t : RoomPair near b s p
    t = safe_pair safe p h

    first : OwnRoom n near b s p t.one_has.vital.some
    first = own_room g safe t.one_has

    second : OwnRoom n near b s p t.two_has.vital.some
    second = own_room g safe t.two_has

    open_room : {y : ℕ} → OwnRoom n near b s p y → rooms y ≡ true
    open_room {y} o = sound.rooms_open s safe y o.below o.clear o.walls

-- in the beginning nothing was struck
pub start_sound : {n : ℕ} {near : Near} {b : Board} {kept rooms : Marks} →
    ((p : ℕ) → b p ≡ mine → kept p ≡ true) → ((y : ℕ) → y < n → not_mine b y ≡ true → rooms y ≡ true) → SoundSoFar n near b kept rooms
start_sound all_kept all_open = record { stones_kept = λ s safe p h. all_kept p (safe.stones p h); rooms_open = λ s safe y below clear walls. all_open y below clear }

-- a step that strikes chains without two open rooms strikes nothing safe
pub chains_struck_sound : {n : ℕ} {near : Near} → Graph n near → {b : Board} {kept rooms later : Marks} →
    SoundSoFar n near b kept rooms → ChainsStruck n near b rooms kept later → SoundSoFar n near b later rooms
chains_struck_sound {n} {near} g {b} {kept} {rooms} {later} sound struck = record { stones_kept = still; rooms_open = sound.rooms_open }
  where
    still : (s : Marks) → Safe near b s → (p : ℕ) → s p ≡ true → later p ≡ true
    still s safe p h =
        elim (struck p (sound.stones_kept s safe p h)) [
          | inl k ↦ k
          | inr few ↦ (let t = safe_two_open g sound safe h in absurd (t.apart (few t.one t.two t.one_below t.two_below t.one_open t.two_open t.one_vital t.two_vital)))
        ]

-- a step that strikes rooms with a wall that is not kept strikes nothing safe
pub rooms_struck_sound : {n : ℕ} {near : Near} {b : Board} {kept rooms later : Marks} →
    SoundSoFar n near b kept rooms → RoomsStruck n near b kept rooms later → SoundSoFar n near b kept later
rooms_struck_sound {n} {near} {b} {kept} {rooms} {later} sound struck = record { stones_kept = sound.stones_kept; rooms_open = still }
  where
    still : (s : Marks) → Safe near b s → (y : ℕ) → y < n → not_mine b y ≡ true → WallsIn near b s y → later y ≡ true
    still s safe y below clear walls =
        elim (struck y below (sound.rooms_open s safe y below clear walls)) [
          | inl k ↦ k
          | inr (c, wall, gone) ↦ absurd (both_ways (kept c) gone (sound.stones_kept s safe c (walls c wall)))
        ]

-- a point beside a chain is beside the chain of each of its stones
pub beside_along : {near : Near} {b : Board} {c p e : ℕ} → Joined near b mine c p → Beside near b p e → Beside near b c e
beside_along j s = record { stone = s.stone; chain = joined_trans j s.chain; next = s.next }

-- a room that is vital to a chain is vital to the chain of each of its stones
pub vital_along : {near : Near} {b : Board} {c p y : ℕ} → Joined near b mine c p → VitalTo near b p y → VitalTo near b c y
vital_along j v = record { point = v.point; inside = v.inside; is = v.is; all = λ e l z. beside_along j (v.all e l z) }

-- a wall that is told by one stone of a chain is told by each
pub wall_along : {near : Near} {b : Board} {c p y : ℕ} → Joined near b mine c p → Wall near b p y → Wall near b c y
wall_along j w = record { point = w.point; inside = w.inside; beside = beside_along j w.beside }

-- a wall of a room, told by another point of the room
pub wall_of_room : {near : Near} {b : Board} {c y z : ℕ} → OneRoom near b z y → Wall near b c y → Wall near b c z
wall_of_room l w = record { point = w.point; inside = linked_trans l w.inside; beside = w.beside }

-- a room that is vital to a chain, told by another point of the room
pub vital_of_room : {n : ℕ} {near : Near} → Graph n near → {b : Board} {c y z : ℕ} → OneRoom near b z y → VitalTo near b c y → VitalTo near b c z
vital_of_room g l v = record { point = v.point; inside = linked_trans l v.inside; is = v.is; all = λ e m h. v.all e (linked_trans (linked_sym g l) m) h }

-- to strike the chain of c, which is without two open rooms, strikes nothing safe
pub strike_chain_sound : {n : ℕ} {near : Near} → Graph n near → {b : Board} {kept rooms later : Marks} (c : ℕ) →
    SoundSoFar n near b kept rooms → FewOpen n near b rooms c → ((p : ℕ) → kept p ≡ true → (later p ≡ true) ⊎ Joined near b mine c p) → SoundSoFar n near b later rooms
strike_chain_sound g c sound few struck = chains_struck_sound g sound (λ p h. elim (struck p h) [
  | inl k ↦ inl k
  | inr j ↦ inr (λ y z y_below z_below y_open z_open v w. few y z y_below z_below y_open z_open (vital_along j v) (vital_along j w))
])

-- to strike the room of y, which has a wall that is not kept, strikes nothing safe
pub strike_room_sound : {n : ℕ} {near : Near} → Graph n near → {b : Board} {kept rooms later : Marks} {c : ℕ} (y : ℕ) →
    SoundSoFar n near b kept rooms → Wall near b c y → kept c ≡ false → ((z : ℕ) → z < n → rooms z ≡ true → (later z ≡ true) ⊎ OneRoom near b y z) → SoundSoFar n near b kept later
strike_room_sound g {c = c} y sound wall gone struck = rooms_struck_sound sound (λ z below h. elim (struck z below h) [
  | inl k ↦ inl k
  | inr l ↦ inr (c, wall_of_room (linked_sym g l) wall, gone)
])

-- what is left when nothing more can be struck is safe
pub rest_safe : {n : ℕ} {near : Near} → Graph n near → {b : Board} {kept rooms : Marks} → Whole near b kept → Settled n near b kept rooms → Safe near b kept
rest_safe {n} {near} g {b} {kept} {rooms} chains settled = pairs_safe chains.stones chains.whole (λ p h. pair p (settled.two_rooms p h))
  where
    linked : (y q : ℕ) → room_of n near b y q ≡ true → OneRoom near b y q
    linked y q i = reaches_linked g (not_mine b) y q i

    room : (y : ℕ) → y < n → rooms y ≡ true → Room near b kept (room_of n near b y)
    room y below is_open =
        record {
          clear = λ p i. room_clear b p (linked_last (linked y p i));
          closed = λ p q i next.
              elim (mine_or_not b q) [
                | inl m ↦ inr (settled.walls y below is_open q (record { point = p; inside = linked y p i; beside = record { stone = q; chain = at m; next = g.symmetric p q next } }))
                | inr m ↦ inl (linked_reaches g (not_mine b) y q (step q (linked y p i) next m))
              ];
        }

    vital : (p y : ℕ) → y < n → rooms y ≡ true → VitalTo near b p y → VitalRoom near b kept (room_of n near b y) p
    vital p y below is_open v =
        record {
          room = room y below is_open;
          vital = record {
            some = v.point;
            inside = linked_reaches g (not_mine b) y v.point v.inside;
            empty = v.is;
            beside = λ e i z. let s = v.all e (linked y e i) z in (s.stone, s.chain, s.next);
          };
        }

    pair : (p : ℕ) → TwoOpen n near b rooms p → RoomPair near b kept p
    pair p t =
        record {
          one = room_of n near b t.one;
          two = room_of n near b t.two;
          one_has = vital p t.one t.one_below t.one_open t.one_vital;
          two_has = vital p t.two t.two_below t.two_open t.two_vital;
          apart = λ q i j. t.apart (linked_trans (linked t.one q i) (linked_sym g (linked t.two q j)));
        }
