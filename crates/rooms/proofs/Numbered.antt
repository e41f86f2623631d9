-- The striking by numbers: from counts of bits to rooms of chains, and from one strike to the next.
use Rattle.std.proofs.Common.{◌≡◌, ℕ, ◌<◌, ◌≤◌, Bool, true, false, not, ◌&&◌, eqb, ltb, ◌≢◌, ◌⊎◌, List, get_or, sym, refl, ◌∙◌, subst, inl, inr, arith}
use Rattle.std.proofs.lemmas.Bool.{cases_Bool, and_parts, and_from, and_right, both_ways, not_from_true, not_from_false, eqb-true, eq-eqb, ltb-true, lt-ltb, not-true}
use Rattle.grid.specs.Graph.{Near, Graph}
use Rattle.chains.specs.Board.{mine, Board, Joined, at, on}
use Rattle.chains.specs.Computed.{is_state}
use Rattle.chains.specs.Labels.{of_class, First, Labelled, ChainLabels}
use Rattle.chains.specs.Linked.{Linked}
use Rattle.chains.proofs.States.{is_state_true, state_is, none_mine}
use Rattle.chains.proofs.Reach.{linked_first, linked_last, linked_sym, linked_trans, linked_map}
use Rattle.chains.proofs.Chain.{joined_first}
use Rattle.chains.proofs.Labelling.{first_unique, first_along}
use Rattle.rooms.specs.Bits.{member, in_both, shared_below}
use Rattle.rooms.specs.Regions.{not_mine, OneRoom}
use Rattle.rooms.specs.Striking.{Wall, VitalTo, WallsIn, SoundSoFar, TwoOpen, FewOpen, Whole, Settled}
use Rattle.rooms.specs.Numbered.{RoomLabels, VitalRooms, WallRooms, kept_by, open_by, Going}
use Rattle.rooms.proofs.Regions.{linked_below}
use Rattle.rooms.proofs.Counts.{count_two, few_count}
use Rattle.rooms.proofs.Rounds.{mine_or_not, start_sound, strike_chain_sound, rooms_struck_sound, wall_along, wall_of_room}

-- a chain that shares fewer than two vital rooms with the open ones has no two open rooms
pub few_open : {n : ℕ} {near : Near} → Graph n near → {b : Board} {rooms vital : List ℕ} {c : ℕ} (open_rooms : List ℕ) → RoomLabels n near b rooms → VitalRooms n near b rooms c vital →
    n ≤ 384 → shared_below 384 vital open_rooms < 2 → FewOpen n near b (open_by rooms open_rooms) c
few_open {n} {near} g {b} {rooms} {vital} {c} open_rooms labels v small few y z y_below z_below y_open z_open y_vital z_vital =
    labels.same_room y z y_below z_below (linked_first y_vital.inside) (linked_first z_vital.inside) one
  where
    both : (x : ℕ) → x < n → open_by rooms open_rooms x ≡ true → VitalTo near b c x → in_both vital open_rooms (get_or rooms x 0) ≡ true
    both x below is_open vital_x = and_from (member vital (get_or rooms x 0)) (member open_rooms (get_or rooms x 0)) (v.complete x below vital_x) is_open

    inside : (x : ℕ) → x < n → VitalTo near b c x → get_or rooms x 0 < 384
    inside x below vital_x = let l = (v.is_room (get_or rooms x 0) (v.complete x below vital_x)).below in omega arith

    one : get_or rooms y 0 ≡ get_or rooms z 0
    one = few_count (in_both vital open_rooms) 384 (get_or rooms y 0) (get_or rooms z 0) few (inside y y_below y_vital) (inside z z_below z_vital) (both y y_below y_open y_vital) (both z z_below z_open z_vital)

-- a chain that shares at least two vital rooms with the open ones has two open rooms
pub two_open : {n : ℕ} {near : Near} → {b : Board} {rooms vital : List ℕ} {c : ℕ} (open_rooms : List ℕ) → RoomLabels n near b rooms → VitalRooms n near b rooms c vital →
    2 ≤ shared_below 384 vital open_rooms → TwoOpen n near b (open_by rooms open_rooms) c
two_open {n} {near} {b} {rooms} {vital} {c} open_rooms labels v many =
    let (i, j, less, below, i_in, j_in) = count_two (in_both vital open_rooms) 384 many in
    found i j less i_in j_in
  where
    found : (i j : ℕ) → i < j → in_both vital open_rooms i ≡ true → in_both vital open_rooms j ≡ true → TwoOpen n near b (open_by rooms open_rooms) c
    found i j less i_in j_in =
        let i_parts = and_parts (member vital i) (member open_rooms i) i_in in
        let j_parts = and_parts (member vital j) (member open_rooms j) j_in in
        let i_room = v.is_room i i_parts.0 in
        let j_room = v.is_room j j_parts.0 in
        record {
          one = i;
          two = j;
          one_below = i_room.below;
          two_below = j_room.below;
          one_open = subst (λ (k : ℕ). member open_rooms k ≡ true) (sym i_room.first) i_parts.1;
          two_open = subst (λ (k : ℕ). member open_rooms k ≡ true) (sym j_room.first) j_parts.1;
          one_vital = v.sound i i_parts.0;
          two_vital = v.sound j j_parts.0;
          apart = λ l. let e : i ≡ j = sym i_room.first ∙ labels.one_entry i j i_room.below l ∙ j_room.first in omega arith;
        }

-- chains that are kept by their numbers are whole
pub kept_whole : {n : ℕ} {near : Near} {b : Board} {chains : List ℕ} (kept : List ℕ) → ChainLabels n near b chains → Whole near b (kept_by b chains kept)
kept_whole {n} {near} {b} {chains} kept labels = record { stones = λ p h. is_state_true mine (b p) (parts p h).0; whole = whole }
  where
    parts : (p : ℕ) → kept_by b chains kept p ≡ true → (is_state mine (b p) ≡ true) × (member kept (get_or chains p 0) ≡ true)
    parts p h = and_parts (is_state mine (b p)) (member kept (get_or chains p 0)) h

    whole : (p q : ℕ) → kept_by b chains kept p ≡ true → near p q ≡ true → b q ≡ mine → kept_by b chains kept q ≡ true
    whole p q h next m =
        let e = labels.one_entry mine p q (λ z. none_mine z refl) (on q (at (is_state_true mine (b p) (parts p h).0)) next m) in
        and_from (is_state mine (b q)) (member kept (get_or chains q 0)) (state_is mine (b q) m) (subst (λ (k : ℕ). member kept k ≡ true) e (parts p h).1)

-- before the first strike
pub going_start : {n : ℕ} {near : Near} {b : Board} {chains rooms : List ℕ} (kept open_rooms : List ℕ) →
    ((p : ℕ) → b p ≡ mine → member kept (get_or chains p 0) ≡ true) → ((y : ℕ) → y < n → not_mine b y ≡ true → member open_rooms (get_or rooms y 0) ≡ true) → Going n near b chains rooms kept open_rooms
going_start {n} {near} {b} {chains} {rooms} kept open_rooms all_kept all_open =
    record { sound = start_sound has all_open; walls = λ y below is_open c w. has c (joined_first w.beside.chain) }
  where
    has : (p : ℕ) → b p ≡ mine → kept_by b chains kept p ≡ true
    has p m = and_from (is_state mine (b p)) (member kept (get_or chains p 0)) (state_is mine (b p) m) (all_kept p m)

-- a chain that shares fewer than two vital rooms with the open ones is struck, and with it the rooms that have it for a wall
pub going_strike : {n : ℕ} {near : Near} → Graph n near → {b : Board} {chains rooms kept open_rooms vital beside : List ℕ} (c : ℕ) (later_kept later_open : List ℕ) →
    ChainLabels n near b chains → RoomLabels n near b rooms → VitalRooms n near b rooms c vital → WallRooms n near b rooms c beside → n ≤ 384 → b c ≡ mine →
    shared_below 384 vital open_rooms < 2 →
    ((i : ℕ) → member later_kept i ≡ (member kept i && not (eqb i (get_or chains c 0)))) →
    ((i : ℕ) → member later_open i ≡ (member open_rooms i && not (member beside i))) →
    Going n near b chains rooms kept open_rooms → Going n near b chains rooms later_kept later_open
going_strike {n} {near} g {b} {chains} {rooms} {kept} {open_rooms} {vital} {beside} c later_kept later_open chain_labels room_labels v w small is_mine few kept_is open_is going =
    record { sound = rooms_struck_sound struck_chain struck_rooms; walls = walls }
  where
    was_parts : (p : ℕ) → kept_by b chains kept p ≡ true → (is_state mine (b p) ≡ true) × (member kept (get_or chains p 0) ≡ true)
    was_parts p h = and_parts (is_state mine (b p)) (member kept (get_or chains p 0)) h

    -- what was kept is kept, or is of the chain of c
    still_or_chain : (p : ℕ) → kept_by b chains kept p ≡ true → (kept_by b chains later_kept p ≡ true) ⊎ Joined near b mine c p
    still_or_chain p h = elim (cases_Bool (eqb (get_or chains p 0) (get_or chains c 0))) [
      | inl same ↦
          inr (chain_labels.one_chain mine c p (λ z. none_mine z refl) is_mine (λ z. none_mine z (is_state_true mine (b p) (was_parts p h).0))
          (sym (eqb-true (get_or chains p 0) (get_or chains c 0) same)))
      | inr other ↦
          inl (and_from (is_state mine (b p)) (member later_kept (get_or chains p 0)) (was_parts p h).0
          (kept_is (get_or chains p 0) ∙ and_from (member kept (get_or chains p 0)) (not (eqb (get_or chains p 0) (get_or chains c 0))) (was_parts p h).1 (not_from_false (eqb (get_or chains p 0) (get_or chains c 0)) other)))
    ]

    struck_chain : SoundSoFar n near b (kept_by b chains later_kept) (open_by rooms open_rooms)
    struck_chain = strike_chain_sound g c going.sound (few_open g open_rooms room_labels v small few) still_or_chain

    gone : kept_by b chains later_kept c ≡ false
    gone =
        let x = get_or chains c 0 in
        and_right (is_state mine (b c)) (member later_kept x) (kept_is x ∙ and_right (member kept x) (not (eqb x x)) (not_from_true (eqb x x) (eq-eqb x x refl)))

    -- a point whose number is in the set of rooms beside the chain has no stone of mine
    clear : (y : ℕ) → y < n → member beside (get_or rooms y 0) ≡ true → not_mine b y ≡ true
    clear y below struck = elim (mine_or_not b y) [
      | inl m ↦ (let e = room_labels.own y below m in let l = (w.is_room (get_or rooms y 0) struck).below in absurd (omega arith))
      | inr h ↦ h
    ]

    -- what was open is open, or has the chain of c for a wall
    struck_rooms : (y : ℕ) → y < n → open_by rooms open_rooms y ≡ true → (open_by rooms later_open y ≡ true) ⊎ ((d : ℕ) × Wall near b d y × (kept_by b chains later_kept d ≡ false))
    struck_rooms y below is_open = elim (cases_Bool (member beside (get_or rooms y 0))) [
      | inl struck ↦ inr (c, wall_of_room (room_labels.linked y below (clear y below struck)) (w.sound (get_or rooms y 0) struck), gone)
      | inr other ↦ inl (open_is (get_or rooms y 0) ∙ and_from (member open_rooms (get_or rooms y 0)) (not (member beside (get_or rooms y 0))) is_open (not_from_false (member beside (get_or rooms y 0)) other))
    ]

    walls : (y : ℕ) → y < n → open_by rooms later_open y ≡ true → WallsIn near b (kept_by b chains later_kept) y
    walls y below is_open d wall =
        let parts = and_parts (member open_rooms (get_or rooms y 0)) (not (member beside (get_or rooms y 0))) (sym (open_is (get_or rooms y 0)) ∙ is_open) in
        elim (still_or_chain d (going.walls y below parts.0 d wall)) [
          | inl k ↦ k
          | inr j ↦ absurd (both_ways (member beside (get_or rooms y 0)) (not-true (member beside (get_or rooms y 0)) parts.1) (w.complete y below (wall_along j wall)))
        ]

-- when each chain that is kept shares at least two vital rooms with the open ones, nothing more can be struck
pub going_end : {n : ℕ} {near : Near} {b : Board} {chains rooms kept open_rooms : List ℕ} → RoomLabels n near b rooms → Going n near b chains rooms kept open_rooms →
    ((p : ℕ) → kept_by b chains kept p ≡ true → (vital : List ℕ) × VitalRooms n near b rooms p vital × (2 ≤ shared_below 384 vital open_rooms)) →
    Settled n near b (kept_by b chains kept) (open_by rooms open_rooms)
going_end {open_rooms = open_rooms} labels going many = record { two_rooms = λ p h. let (vital, v, enough) = many p h in two_open open_rooms labels v enough; walls = going.walls }

-- labels over two classes, of which that of the stones of mine is left out, are the labels of the rooms
pub labelled_rooms : {n : ℕ} {near : Near} → Graph n near → (b : Board) (classes labels : List ℕ) (left_out other : ℕ) →
    ((p : ℕ) → p < n → b p ≡ mine → get_or classes p 0 ≡ left_out) → ((p : ℕ) → p < n → not_mine b p ≡ true → get_or classes p 0 ≡ other) → other ≢ left_out →
    Labelled n near classes left_out labels → RoomLabels n near b labels
labelled_rooms {n} {near} g b classes labels left_out other of_mine of_rest apart l =
    record {
      own = λ p below m. l.out p below (of_mine p below m);
      linked = λ y below clear. to_room (first y below clear).linked;
      least = λ y z below way. (first y below (linked_first way)).least z (to_class below way);
      one_entry = λ y z below way. first_unique (first_along g (to_class below way) (first y below (linked_first way))) (first z (reached below way) (linked_last way));
      same_room = λ y z y_below z_below y_clear z_clear e.
          linked_trans (to_room (first y y_below y_clear).linked) (linked_sym g (subst (OneRoom near b z) (sym e) (to_room (first z z_below z_clear).linked)));
    }
  where
    test : ℕ → Bool
    test = of_class n classes other

    reached : {y z : ℕ} → y < n → OneRoom near b y z → z < n
    reached below way = elim (linked_below g way) [ inl e ↦ subst (λ (i : ℕ). i < n) (sym e) below | inr h ↦ h ]

    to_class : {y z : ℕ} → y < n → OneRoom near b y z → Linked near test y z
    to_class below way = linked_map (λ r h.
        and_from (ltb r n) (eqb (get_or classes r 0) other) (lt-ltb r n (reached below h)) (eq-eqb (get_or classes r 0) other (of_rest r (reached below h) (linked_last h)))) way

    to_room : {y z : ℕ} → Linked near test y z → OneRoom near b y z
    to_room way = linked_map (λ r h.
        let parts = and_parts (ltb r n) (eqb (get_or classes r 0) other) (linked_last h) in
        elim (mine_or_not b r) [
          | inl m ↦ absurd (apart (sym (eqb-true (get_or classes r 0) other parts.1) ∙ of_mine r (ltb-true r n parts.0) m))
          | inr clear ↦ clear
        ]) way

    first : (y : ℕ) → y < n → not_mine b y ≡ true → First near test y (get_or labels y 0)
    first y below clear =
        let e = of_rest y below clear in
        subst (λ (k : ℕ). First near (of_class n classes k) y (get_or labels y 0)) e (l.first y below (λ s. apart (sym e ∙ s)))
