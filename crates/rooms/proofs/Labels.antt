-- From the labels of chains and rooms to the rooms of each chain: what the bits of the sets say of the board.
use Rattle.std.proofs.Common.{◌≡◌, ℕ, ◌<◌, ◌≤◌, Bool, true, false, not, ◌&&◌, eqb, ltb, ◌≢◌, List, length, get_or, sym, refl, ◌∙◌, subst, inl, inr, arith}
use Rattle.std.proofs.lemmas.Bool.{cases_Bool, ltb-true, both_ways, false≢true, eqb-true, eqb-false, eq-eqb, ne_eqb, and_parts, and_from, not-true, not_from_false}
use Rattle.std.specs.List.{Contains}
use Rattle.std.proofs.lemmas.List.Folds.{Any-from_list_any, list_any-from_Any}
use Rattle.grid.specs.Graph.{Near, Graph}
use Rattle.grid.specs.declared.size.Size.{Size}
use Rattle.chains.specs.Board.{State, none, mine, yours, Board}
use Rattle.chains.specs.Labels.{Labelled, ChainLabels}
use Rattle.chains.specs.Sized.{count_of, near_of, seen}
use Rattle.chains.specs.Views.{stone_byte, view}
use Rattle.chains.specs.declared.colour.Colour.{Colour}
use Rattle.chains.specs.declared.colour.Colour.TheVariants.{Black, White}
use Rattle.chains.proofs.States.{is_none, is_mine, is_yours, kind, none_mine, none_yours}
use Rattle.chains.proofs.Below.{any_true, true_any}
use Rattle.chains.proofs.Reach.{linked_first, linked_last, linked_trans, linked_sym}
use Rattle.chains.proofs.Chain.{joined_linked, joined_last}
use Rattle.chains.proofs.Views.{view_byte, byte_view}
use Rattle.rooms.specs.Bits.{member}
use Rattle.rooms.specs.Regions.{not_mine, OneRoom, Beside}
use Rattle.rooms.specs.Striking.{Wall, VitalTo}
use Rattle.rooms.specs.Numbered.{RoomLabels, IsFirst, VitalRooms, WallRooms}
use Rattle.rooms.specs.Tables.{set_of, Paired, own_chain, is_chain, meets, in_room, wall_bit, empty_in, some_empty, some_away, vital_bit, own_first}
use Rattle.rooms.specs.Regioned.{own_byte, Regioned}
use Rattle.rooms.specs.declared.region_sets.Regions.{Regions}
use Rattle.rooms.proofs.Numbered.{labelled_rooms}
use Rattle.rooms.proofs.Regions.{linked_below}
use Rattle.rooms.proofs.Rounds.{mine_or_not, room_clear, empty_clear}

-- a board with few points, whose neighbours are listed, and the labels of its chains and rooms
pub record Setting (n : ℕ) (near : Near) (b : Board) (beside : ℕ → List ℕ) (chains rooms : List ℕ) : Type 0 where
  pub graph : Graph n near
  pub sound : (p q : ℕ) → Contains (beside p) q → near p q ≡ true
  pub complete : (p q : ℕ) → near p q ≡ true → Contains (beside p) q
  pub small : n ≤ 361
  pub chain_labels : ChainLabels n near b chains
  pub room_labels : RoomLabels n near b rooms

-- whether a stone of the chain c is beside p
abbrev pub touch_of : (ℕ → List ℕ) → List ℕ → List ℕ → ℕ → ℕ → Bool
touch_of beside chains rooms p c = meets chains rooms c (beside p)

-- the label of a room is a point
pub room_inside : {n : ℕ} {near : Near} {b : Board} {rooms : List ℕ} → Graph n near → RoomLabels n near b rooms → (y : ℕ) → y < n → not_mine b y ≡ true → get_or rooms y 0 < n
room_inside {n} g labels y below clear = elim (linked_below g (labels.linked y below clear)) [ inl e ↦ subst (λ (i : ℕ). i < n) (sym e) below | inr l ↦ l ]

-- so is the label of a chain
pub chain_inside : {n : ℕ} {near : Near} {b : Board} {chains : List ℕ} → Graph n near → ChainLabels n near b chains → (c : State) (p : ℕ) → p < n → c ≢ none → b p ≡ c → get_or chains p 0 < n
chain_inside {n} g labels c p below stone e = elim (linked_below g (joined_linked (labels.joined c p stone e))) [ inl same ↦ subst (λ (i : ℕ). i < n) (sym same) below | inr l ↦ l ]

-- a point without a room is an own stone
pub no_room_own : {n : ℕ} {near : Near} {b : Board} {rooms : List ℕ} → Graph n near → n ≤ 361 → RoomLabels n near b rooms → (q : ℕ) → q < n → get_or rooms q 0 ≡ 65535 → b q ≡ mine
no_room_own {b = b} g small labels q below e = elim (mine_or_not b q) [ inl m ↦ m | inr clear ↦ (let l = room_inside g labels q below clear in absurd (omega arith)) ]

-- a point with a room is none
pub room_not_own : {n : ℕ} {near : Near} {b : Board} {rooms : List ℕ} → RoomLabels n near b rooms → (y : ℕ) → y < n → get_or rooms y 0 ≢ 65535 → not_mine b y ≡ true
room_not_own {b = b} labels y below h = elim (mine_or_not b y) [ inl m ↦ absurd (h (labels.own y below m)) | inr clear ↦ clear ]

-- a point without a chain is empty
pub no_chain_empty : {n : ℕ} {near : Near} {b : Board} {chains : List ℕ} → Graph n near → n ≤ 361 → ChainLabels n near b chains → (p : ℕ) → p < n → get_or chains p 0 ≡ 65535 → b p ≡ none
no_chain_empty {b = b} g small labels p below e = elim (kind (b p)) [
  | is_none z ↦ z
  | is_mine m ↦ (let l = chain_inside g labels mine p below (λ z. none_mine z refl) m in absurd (omega arith))
  | is_yours y ↦ (let l = chain_inside g labels yours p below (λ z. none_yours z refl) y in absurd (omega arith))
]

-- labels of one board go together
pub paired : {n : ℕ} {near : Near} {b : Board} {chains rooms : List ℕ} → Graph n near → n ≤ 361 → ChainLabels n near b chains → RoomLabels n near b rooms →
    n ≤ length chains → n ≤ length rooms → Paired n chains rooms
paired g small chain_labels room_labels chains_long rooms_long = record {
  chains_long = chains_long;
  rooms_long = rooms_long;
  own_chain = λ q below e. chain_inside g chain_labels mine q below (λ z. none_mine z refl) (no_room_own g small room_labels q below e);
  room_below = λ y below h. room_inside g room_labels y below (room_not_own room_labels y below h);
}

-- the number of a room stands for it
pub room_first : {n : ℕ} {near : Near} {b : Board} {rooms : List ℕ} → Graph n near → RoomLabels n near b rooms → (y : ℕ) → y < n → not_mine b y ≡ true → IsFirst n b rooms (get_or rooms y 0)
room_first {rooms = rooms} g labels y below clear = record {
  below = room_inside g labels y below clear;
  clear = linked_last (labels.linked y below clear);
  first = sym (labels.one_entry y (get_or rooms y 0) below (labels.linked y below clear));
}

-- a point with that chain is an own stone of it
met : (chains rooms : List ℕ) (c q : ℕ) → is_chain c (own_chain chains rooms q) ≡ true → (get_or rooms q 0 ≡ 65535) × (c ≡ get_or chains q 0)
met chains rooms c q e = elim (cases_Bool (eqb (get_or rooms q 0) 65535)) [
  | inl own ↦ (eqb-true (get_or rooms q 0) 65535 own, eqb-true c (get_or chains q 0) (rw own at e))
  | inr other ↦ absurd (false≢true (rw other at e))
]

-- a point beside a chain has an own stone of it for a neighbour
touched : {n : ℕ} {near : Near} {b : Board} {beside : ℕ → List ℕ} {chains rooms : List ℕ} → Setting n near b beside chains rooms →
    (c y : ℕ) → touch_of beside chains rooms y c ≡ true → (q : ℕ) × (near q y ≡ true) × (b q ≡ mine) × (c ≡ get_or chains q 0)
touched {n} {near} {b} {beside} {chains} {rooms} s c y t =
    let (k, q, below, there, is) = Any-from_list_any (λ q. is_chain c (own_chain chains rooms q)) (beside y) t in
    let (no_room, same) = met chains rooms c q is in
    let next : near q y ≡ true = s.graph.symmetric y q (s.sound y q (k, below, there)) in
    (q, next, no_room_own s.graph s.small s.room_labels q (s.graph.inside q y next) no_room, same)

-- a point that is found to be beside the chain of p is
pub touch_beside : {n : ℕ} {near : Near} {b : Board} {beside : ℕ → List ℕ} {chains rooms : List ℕ} → Setting n near b beside chains rooms →
    (p y : ℕ) → b p ≡ mine → touch_of beside chains rooms y (get_or chains p 0) ≡ true → Beside near b p y
touch_beside {chains = chains} s p y own t =
    let (q, next, stone, same) = touched s (get_or chains p 0) y t in
    record { stone = q; chain = s.chain_labels.one_chain mine p q (λ z. none_mine z refl) own (λ z. none_mine z stone) same; next = next }

-- and a point beside it is found to be
pub beside_touch : {n : ℕ} {near : Near} {b : Board} {beside : ℕ → List ℕ} {chains rooms : List ℕ} → Setting n near b beside chains rooms →
    (p y : ℕ) → Beside near b p y → touch_of beside chains rooms y (get_or chains p 0) ≡ true
beside_touch {n} {near} {b} {beside} {chains} {rooms} s p y w =
    let q = w.stone in
    let (k, below, there) = s.complete y q (s.graph.symmetric q y w.next) in
    let own : get_or rooms q 0 ≡ 65535 = s.room_labels.own q (s.graph.inside q y w.next) (joined_last w.chain) in
    list_any-from_Any (λ q. is_chain (get_or chains p 0) (own_chain chains rooms q)) (beside y)
    (k, q, below, there, rw (eq-eqb (get_or rooms q 0) 65535 own) (eq-eqb (get_or chains p 0) (get_or chains q 0) (s.chain_labels.one_entry mine p q (λ z. none_mine z refl) w.chain)))

-- sets with the bits of the walls hold the rooms that have the chain of p for a wall
pub wall_rooms : {n : ℕ} {near : Near} {b : Board} {beside : ℕ → List ℕ} {chains rooms : List ℕ} → Setting n near b beside chains rooms →
    (p : ℕ) (words : List ℕ) → b p ≡ mine → ((i : ℕ) → member words i ≡ wall_bit (touch_of beside chains rooms) rooms n (get_or chains p 0) i) → WallRooms n near b rooms p words
wall_rooms {n} {near} {b} {beside} {chains} {rooms} s p words own bits = record {
  is_room = λ i m. let (y, below, clear, same, t) = given i m in subst (λ (j : ℕ). IsFirst n b rooms j) same (room_first s.graph s.room_labels y below clear);
  sound = λ i m.
      let (y, below, clear, same, t) = given i m in
      subst (λ (j : ℕ). Wall near b p j) same (record { point = y; inside = linked_sym s.graph (s.room_labels.linked y below clear); beside = touch_beside s p y own t });
  complete = λ y below w. bits (get_or rooms y 0) ∙ true_any (λ z. in_room rooms (get_or rooms y 0) z && touch z (get_or chains p 0)) n w.point (reached below w.inside)
      (and_from (in_room rooms (get_or rooms y 0) w.point) (touch w.point (get_or chains p 0))
      (and_from (not (eqb (get_or rooms w.point 0) 65535)) (eqb (get_or rooms w.point 0) (get_or rooms y 0))
      (not_from_false (eqb (get_or rooms w.point 0) 65535) (has_room w.point (reached below w.inside) (linked_last w.inside)))
      (eq-eqb (get_or rooms w.point 0) (get_or rooms y 0) (sym (s.room_labels.one_entry y w.point below w.inside))))
      (beside_touch s p w.point w.beside));
}
  where
    touch : ℕ → ℕ → Bool
    touch = touch_of beside chains rooms

    reached : {y z : ℕ} → y < n → OneRoom near b y z → z < n
    reached below way = elim (linked_below s.graph way) [ inl e ↦ subst (λ (i : ℕ). i < n) (sym e) below | inr l ↦ l ]

    has_room : (y : ℕ) → y < n → not_mine b y ≡ true → eqb (get_or rooms y 0) 65535 ≡ false
    has_room y below clear = ne_eqb (get_or rooms y 0) 65535 (λ e. let l = room_inside s.graph s.room_labels y below clear in let small = s.small in omega arith)

    given : (i : ℕ) → member words i ≡ true → (y : ℕ) × (y < n) × (not_mine b y ≡ true) × (get_or rooms y 0 ≡ i) × (touch y (get_or chains p 0) ≡ true)
    given i m =
        let (y, below, is) = any_true (λ y. in_room rooms i y && touch y (get_or chains p 0)) n (sym (bits i) ∙ m) in
        let parts = and_parts (in_room rooms i y) (touch y (get_or chains p 0)) is in
        let in_it = and_parts (not (eqb (get_or rooms y 0) 65535)) (eqb (get_or rooms y 0) i) parts.0 in
        (y, below, room_not_own s.room_labels y below (eqb-false (get_or rooms y 0) 65535 (not-true (eqb (get_or rooms y 0) 65535) in_it.0)), eqb-true (get_or rooms y 0) i in_it.1, parts.1)

-- sets with the bits of vital rooms hold the rooms that are vital to the chain of p
pub vital_rooms : {n : ℕ} {near : Near} {b : Board} {beside : ℕ → List ℕ} {chains rooms : List ℕ} → Setting n near b beside chains rooms →
    (p : ℕ) (words : List ℕ) → b p ≡ mine → ((i : ℕ) → member words i ≡ vital_bit (touch_of beside chains rooms) chains rooms n (get_or chains p 0) i) → VitalRooms n near b rooms p words
vital_rooms {n} {near} {b} {beside} {chains} {rooms} s p words own bits = record {
  is_room = λ i m. let (e, below, empty, same) = some i (parts i m).0 in subst (λ (j : ℕ). IsFirst n b rooms j) same (room_first s.graph s.room_labels e below (empty_clear b e empty));
  sound = λ i m.
      let (e, below, empty, same) = some i (parts i m).0 in
      let way : OneRoom near b e i = subst (λ (j : ℕ). OneRoom near b e j) same (s.room_labels.linked e below (empty_clear b e empty)) in
      record {
        point = e;
        inside = linked_sym s.graph way;
        is = empty;
        all = λ d to_d d_empty.
            let here_d = linked_trans way to_d in
            touch_beside s p d own (no_away i (parts i m).1 d (reached below here_d) d_empty (sym (s.room_labels.one_entry e d below here_d) ∙ same));
      };
  complete = λ y below v.
      let e = v.point in
      let e_below = reached below v.inside in
      bits (get_or rooms y 0)
      ∙ and_from (some_empty chains rooms n (get_or rooms y 0)) (not (some_away touch chains rooms n (get_or chains p 0) (get_or rooms y 0)))
      (true_any (empty_in chains rooms (get_or rooms y 0)) n e e_below (empty_here (get_or rooms y 0) e e_below v.is (sym (s.room_labels.one_entry y e below v.inside))))
      (not_from_false (some_away touch chains rooms n (get_or chains p 0) (get_or rooms y 0)) (none_away y below v));
}
  where
    touch : ℕ → ℕ → Bool
    touch = touch_of beside chains rooms

    reached : {y z : ℕ} → y < n → OneRoom near b y z → z < n
    reached below way = elim (linked_below s.graph way) [ inl e ↦ subst (λ (i : ℕ). i < n) (sym e) below | inr l ↦ l ]

    parts : (i : ℕ) → member words i ≡ true → (some_empty chains rooms n i ≡ true) × (some_away touch chains rooms n (get_or chains p 0) i ≡ false)
    parts i m =
        let both = and_parts (some_empty chains rooms n i) (not (some_away touch chains rooms n (get_or chains p 0) i)) (sym (bits i) ∙ m) in
        (both.0, not-true (some_away touch chains rooms n (get_or chains p 0) i) both.1)

    emptied : (i e : ℕ) → e < n → empty_in chains rooms i e ≡ true → (b e ≡ none) × (get_or rooms e 0 ≡ i)
    emptied i e below is =
        let both = and_parts (eqb (get_or chains e 0) 65535) (eqb (get_or rooms e 0) i) is in
        (no_chain_empty s.graph s.small s.chain_labels e below (eqb-true (get_or chains e 0) 65535 both.0), eqb-true (get_or rooms e 0) i both.1)

    empty_here : (i e : ℕ) → e < n → b e ≡ none → get_or rooms e 0 ≡ i → empty_in chains rooms i e ≡ true
    empty_here i e below empty same =
        and_from (eqb (get_or chains e 0) 65535) (eqb (get_or rooms e 0) i) (eq-eqb (get_or chains e 0) 65535 (s.chain_labels.empty e below empty)) (eq-eqb (get_or rooms e 0) i same)

    some : (i : ℕ) → some_empty chains rooms n i ≡ true → (e : ℕ) × (e < n) × (b e ≡ none) × (get_or rooms e 0 ≡ i)
    some i t =
        let (e, below, is) = any_true (empty_in chains rooms i) n t in
        let both = emptied i e below is in
        (e, below, both.0, both.1)

    no_away : (i : ℕ) → some_away touch chains rooms n (get_or chains p 0) i ≡ false → (d : ℕ) → d < n → b d ≡ none → get_or rooms d 0 ≡ i → touch d (get_or chains p 0) ≡ true
    no_away i f d below empty same = elim (cases_Bool (touch d (get_or chains p 0))) [
      | inl t ↦ t
      | inr away ↦ absurd (both_ways (some_away touch chains rooms n (get_or chains p 0) i) f
          (true_any (λ e. empty_in chains rooms i e && not (touch e (get_or chains p 0))) n d below
          (and_from (empty_in chains rooms i d) (not (touch d (get_or chains p 0))) (empty_here i d below empty same) (not_from_false (touch d (get_or chains p 0)) away))))
    ]

    none_away : (y : ℕ) → y < n → VitalTo near b p y → some_away touch chains rooms n (get_or chains p 0) (get_or rooms y 0) ≡ false
    none_away y below v = elim (cases_Bool (some_away touch chains rooms n (get_or chains p 0) (get_or rooms y 0))) [
      | inr f ↦ f
      | inl t ↦
          (let (d, d_below, is) = any_true (λ e. empty_in chains rooms (get_or rooms y 0) e && not (touch e (get_or chains p 0))) n t in
          let both = and_parts (empty_in chains rooms (get_or rooms y 0) d) (not (touch d (get_or chains p 0))) is in
          let there = emptied (get_or rooms y 0) d d_below both.0 in
          let way : OneRoom near b y d = s.room_labels.same_room y d below d_below (linked_first v.inside) (empty_clear b d there.0) (sym there.1) in
          absurd (both_ways (touch d (get_or chains p 0)) (not-true (touch d (get_or chains p 0)) both.1) (beside_touch s p d (v.all d way there.0))))
    ]

-- a stone is not written as an empty point
own_not_empty : (colour : Colour) → ◌≢◌ {A = ℕ} 46 (stone_byte colour)
own_not_empty Black e = absurd (omega arith)
own_not_empty White e = absurd (omega arith)

-- labels over the points without the other side's stones are those of the rooms, where own stones are left out
pub rooms_labelled : {n : ℕ} {near : Near} → Graph n near → (cells classes labels : List ℕ) (colour : Colour) →
    ((p : ℕ) → p < n → get_or classes p 0 ≡ own_byte (stone_byte colour) (get_or cells p 0)) → Labelled n near classes (stone_byte colour) labels → RoomLabels n near (view n cells colour) labels
rooms_labelled {n} {near} g cells classes labels colour class l = labelled_rooms g (view n cells colour) classes labels (stone_byte colour) 46 own rest (own_not_empty colour) l
  where
    own : (p : ℕ) → p < n → view n cells colour p ≡ mine → get_or classes p 0 ≡ stone_byte colour
    own p below m = class p below ∙ rw (eq-eqb (get_or cells p 0) (stone_byte colour) (view_byte n cells colour mine p (λ z. none_mine z refl) m).1) refl

    rest : (p : ℕ) → p < n → not_mine (view n cells colour) p ≡ true → get_or classes p 0 ≡ 46
    rest p below clear = class p below ∙ rw (ne_eqb (get_or cells p 0) (stone_byte colour) (λ e.
        room_clear (view n cells colour) p clear (byte_view n cells colour mine p (λ z. none_mine z refl) below e))) refl

-- a number that no own stone has for its chain is beside no point
pub touch_none : {n : ℕ} {near : Near} {b : Board} {beside : ℕ → List ℕ} {chains rooms : List ℕ} → Setting n near b beside chains rooms →
    (c : ℕ) → ((p : ℕ) → b p ≡ mine → get_or chains p 0 ≢ c) → (y : ℕ) → touch_of beside chains rooms y c ≡ false
touch_none {beside = beside} {chains} {rooms} s c unowned y = elim (cases_Bool (touch_of beside chains rooms y c)) [
  | inr f ↦ f
  | inl t ↦ (let (q, next, stone, same) = touched s c y t in absurd (unowned q stone (sym same)))
]

-- and is the first point of no own chain
pub first_none : {n : ℕ} {near : Near} {b : Board} {beside : ℕ → List ℕ} {chains rooms : List ℕ} → Setting n near b beside chains rooms →
    (c : ℕ) → ((p : ℕ) → b p ≡ mine → get_or chains p 0 ≢ c) → (ltb c n && own_first chains rooms c) ≡ false
first_none {n} {chains = chains} {rooms} s c unowned = elim (cases_Bool (ltb c n && own_first chains rooms c)) [
  | inr f ↦ f
  | inl t ↦
      (let (below, first) = and_parts (ltb c n) (own_first chains rooms c) t in
      let (own, same) = met chains rooms c c first in
      absurd (unowned c (no_room_own s.graph s.small s.room_labels c (ltb-true c n below) own) (sym same)))
]

-- the first stone of an own chain is its own label
pub first_own : {n : ℕ} {near : Near} {b : Board} {chains : List ℕ} → ChainLabels n near b chains → (p : ℕ) → b p ≡ mine →
    (b (get_or chains p 0) ≡ mine) × (get_or chains (get_or chains p 0) 0 ≡ get_or chains p 0)
first_own {chains = chains} labels p own =
    let j = labels.joined mine p (λ z. none_mine z refl) own in
    (joined_last j, sym (labels.one_entry mine p (get_or chains p 0) (λ z. none_mine z refl) j))

-- and is told by the labels
pub chain_first : {n : ℕ} {near : Near} {b : Board} {beside : ℕ → List ℕ} {chains rooms : List ℕ} → Setting n near b beside chains rooms →
    (p : ℕ) → p < n → b p ≡ mine → (get_or chains p 0 < n) × (own_first chains rooms (get_or chains p 0) ≡ true)
chain_first {chains = chains} {rooms} s p below own =
    let (first, same) = first_own s.chain_labels p own in
    let inside = chain_inside s.graph s.chain_labels mine p below (λ z. none_mine z refl) own in (
      inside,
      rw (eq-eqb (get_or rooms (get_or chains p 0) 0) 65535 (s.room_labels.own (get_or chains p 0) inside first)) (eq-eqb (get_or chains p 0) (get_or chains (get_or chains p 0) 0) (sym same)),
    )

-- the set for the first point of an own chain holds exactly the rooms that are vital to it
pub first_vital : {size : Size} {cells : List ℕ} {colour : Colour} {old_chains old_rooms chains rooms : List ℕ} {regions : Regions} → Regioned size cells colour old_chains old_rooms chains rooms regions →
    (p : ℕ) → seen size cells colour p ≡ mine → VitalRooms (count_of size) (near_of size) (seen size cells colour) rooms (get_or chains p 0) (set_of regions.vital (get_or chains p 0))
first_vital {size} {cells} {colour} {chains = chains} {rooms} {regions} r p own =
    let (first, same) = first_own (r.chained colour) p own in
    subst (λ (c : ℕ). VitalRooms (count_of size) (near_of size) (seen size cells colour) rooms (get_or chains p 0) (set_of regions.vital c)) same (r.vital (get_or chains p 0) first)

-- and those that have it for a wall
pub first_walls : {size : Size} {cells : List ℕ} {colour : Colour} {old_chains old_rooms chains rooms : List ℕ} {regions : Regions} → Regioned size cells colour old_chains old_rooms chains rooms regions →
    (p : ℕ) → seen size cells colour p ≡ mine → WallRooms (count_of size) (near_of size) (seen size cells colour) rooms (get_or chains p 0) (set_of regions.walls (get_or chains p 0))
first_walls {size} {cells} {colour} {chains = chains} {rooms} {regions} r p own =
    let (first, same) = first_own (r.chained colour) p own in
    subst (λ (c : ℕ). WallRooms (count_of size) (near_of size) (seen size cells colour) rooms (get_or chains p 0) (set_of regions.walls c)) same (r.walls (get_or chains p 0) first)
