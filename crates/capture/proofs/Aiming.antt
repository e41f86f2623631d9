-- The chain that is taken next: one with at most one vital room, unless all stones are held by safe marks.
use Rattle.std.proofs.Common.{◌≡◌, ℕ, zero, suc, ◌<◌, ◌≤◌, Bool, true, false, ◌&&◌, ltb, List, [], ◌∷◌, length, get_or, Some, None, Option, sym, refl, ap, ◌∙◌, subst, inl, inr, arith}
use Rattle.std.specs.List.{find, range_with_len}
use Rattle.std.proofs.lemmas.Bool.{cases_Bool, and_parts, ltb-true, ltb-false}
use Rattle.std.proofs.lemmas.List.FromFn.{length-range_with_len, get_or-range_with_len}
use Rattle.grid.specs.Graph.{Near, Graph}
use Rattle.chains.specs.Board.{mine, Board, Joined}
use Rattle.chains.specs.Labels.{ChainLabels}
use Rattle.chains.specs.Computed.{is_state}
use Rattle.chains.specs.Linked.{here}
use Rattle.chains.specs.Sized.{count_of, near_of, seen}
use Rattle.chains.specs.Views.{view}
use Rattle.chains.specs.declared.colour.Colour.{Colour}
use Rattle.chains.proofs.Chain.{joined_last}
use Rattle.chains.proofs.Reach.{linked_sym, linked_trans}
use Rattle.chains.proofs.States.{is_state_true, state_is}
use Rattle.chains.proofs.Views.{view_byte}
use Rattle.chains.specs.declared.position.Position.{Position}
use Rattle.rooms.specs.Bits.{member, shared_below}
use Rattle.rooms.specs.Regioned.{RegionsWritten}
use Rattle.rooms.specs.Tables.{set_of}
use Rattle.rooms.specs.declared.region_sets.Regions.{Regions}
use Rattle.rooms.specs.Numbered.{RoomLabels, VitalRooms}
use Rattle.rooms.specs.Regions.{Liberty, AllBeside, TwoRooms, FewRooms}
use Rattle.rooms.specs.Striking.{VitalTo, TwoOpen}
use Rattle.rooms.proofs.All.{all_mine, all_safe}
use Rattle.rooms.proofs.Numbered.{few_open, two_open}
use Rattle.rooms.proofs.Regions.{beside_below}
use Rattle.rooms.proofs.Rounds.{empty_clear}
use Rattle.capture.specs.Target.{Surveyed, Aimed, AllHeld}
use Rattle.capture.specs.Weak.{is_weak}
use Rattle.capture.proofs.Choosing.{mine_stone}

-- the label of a stone is a point of the board
pub label_below : {n : ℕ} {near : Near} (cells : List ℕ) (colour : Colour) {chains : List ℕ} → ChainLabels n near (view n cells colour) chains → (p : ℕ) → view n cells colour p ≡ mine → get_or chains p 0 < n
label_below {n} cells colour {chains} chained p own = (view_byte n cells colour mine (get_or chains p 0) mine_stone (joined_last (chained.joined mine p mine_stone own))).0

-- a chain with fewer than two vital rooms by number has at most one
pub few_rooms : {n : ℕ} {near : Near} → Graph n near → {b : Board} {rooms vital : List ℕ} {c : ℕ} → RoomLabels n near b rooms → VitalRooms n near b rooms c vital → n ≤ 384 →
    shared_below 384 vital vital < 2 → FewRooms near b c
few_rooms {n} {near} g {b} {rooms} {vital} {c} labels v small few y z y_liberty z_liberty y_all z_all =
    few_open g vital labels v small few y z (below y_liberty) (below z_liberty) (v.complete y (below y_liberty) (vital_to y_liberty y_all)) (v.complete z (below z_liberty) (vital_to z_liberty z_all))
    (vital_to y_liberty y_all) (vital_to z_liberty z_all)
  where
    below : {x : ℕ} → Liberty near b c x → x < n
    below l = beside_below g l.beside

    vital_to : {x : ℕ} → Liberty near b c x → AllBeside near b c x → VitalTo near b c x
    vital_to {x} l all = record { point = x; inside = here (empty_clear b x l.is); is = l.is; all = all }

-- a chain with two vital rooms by number has two
pub two_rooms : {n : ℕ} {near : Near} → Graph n near → {b : Board} {rooms vital : List ℕ} {c : ℕ} → RoomLabels n near b rooms → VitalRooms n near b rooms c vital →
    2 ≤ shared_below 384 vital vital → TwoRooms near b c
two_rooms {n} {near} g {b} {rooms} {vital} {c} labels v many = made (two_open vital labels v many)
  where
    liberty : {y : ℕ} (t : VitalTo near b c y) → Liberty near b c t.point
    liberty t = record { beside = t.all t.point t.inside t.is; is = t.is }

    all : {y : ℕ} (t : VitalTo near b c y) → AllBeside near b c t.point
    all t = λ e way z. t.all e (linked_trans t.inside way) z

    made : TwoOpen n near b (λ y. member vital (get_or rooms y 0)) c → TwoRooms near b c
    made t = record {
      one = t.one_vital.point;
      two = t.two_vital.point;
      one_liberty = liberty t.one_vital;
      two_liberty = liberty t.two_vital;
      one_vital = all t.one_vital;
      two_vital = all t.two_vital;
      apart = λ way. t.apart (linked_trans t.one_vital.inside (linked_trans way (linked_sym g t.two_vital.inside)));
    }

-- the chain of a stone that has fewer than two vital rooms by number
pub aimed : {n : ℕ} {near : Near} → Graph n near → (cells : List ℕ) {chains rooms : List ℕ} (colour : Colour) {sets : ℕ → List ℕ} {c : ℕ} {words : List ℕ} → n ≤ 361 → Surveyed n near (view n cells colour) chains rooms sets → words ≡ sets c →
    (p : ℕ) → c ≡ get_or chains p 0 → is_weak (view n cells colour) chains sets p ≡ true → Aimed n near (view n cells colour) c chains rooms words
aimed {n} {near} g cells {chains} {rooms} colour {sets} {c} {words} small survey is p label weak =
    record {
      below = (view_byte n cells colour mine c mine_stone stone).0;
      stone = stone;
      few = few_rooms g survey.room_labels v (omega arith) few;
      named = named;
      chain_labels = survey.chain_labels;
      room_labels = survey.room_labels;
      vital_rooms = subst (VitalRooms n near b rooms c) (sym is) v;
    }
  where
    b : Board
    b = view n cells colour

    parts : (is_state mine (b p) ≡ true) × (ltb (shared_below 384 (sets (get_or chains p 0)) (sets (get_or chains p 0))) 2 ≡ true)
    parts = and_parts (is_state mine (b p)) (ltb (shared_below 384 (sets (get_or chains p 0)) (sets (get_or chains p 0))) 2) weak

    own : b p ≡ mine
    own = is_state_true mine (b p) parts.0

    few : shared_below 384 (sets c) (sets c) < 2
    few = subst (λ (i : ℕ). shared_below 384 (sets i) (sets i) < 2) (sym label) (ltb-true (shared_below 384 (sets (get_or chains p 0)) (sets (get_or chains p 0))) 2 parts.1)

    joined : Joined near b mine p c
    joined = subst (Joined near b mine p) (sym label) (survey.chain_labels.joined mine p mine_stone own)

    stone : b c ≡ mine
    stone = joined_last joined

    named : get_or chains c 0 ≡ c
    named = sym (survey.chain_labels.one_entry mine p c mine_stone joined) ∙ sym label

    v : VitalRooms n near b rooms c (sets c)
    v = subst (λ (i : ℕ). VitalRooms n near b rooms c (sets i)) named (survey.vital_rooms c stone)

-- where no chain has fewer, all stones are held by safe marks
pub all_held : {n : ℕ} {near : Near} → Graph n near → (cells : List ℕ) {chains rooms : List ℕ} (colour : Colour) {sets : ℕ → List ℕ} → Surveyed n near (view n cells colour) chains rooms sets →
    ((p : ℕ) → p < n → is_weak (view n cells colour) chains sets p ≡ false) → AllHeld near (view n cells colour)
all_held {n} {near} g cells {chains} {rooms} colour {sets} survey none_weak p m = (all_mine b, all_safe g b two, state_is mine (b p) m)
  where
    b : Board
    b = view n cells colour

    many : (q : ℕ) → b q ≡ mine → 2 ≤ shared_below 384 (sets (get_or chains q 0)) (sets (get_or chains q 0))
    many q own =
        let shared = shared_below 384 (sets (get_or chains q 0)) (sets (get_or chains q 0)) in
        let not_few : ltb shared 2 ≡ false = sym (ap (λ (t : Bool). t && ltb shared 2) (state_is mine (b q) own)) ∙ none_weak q (view_byte n cells colour mine q mine_stone own).0 in
        ltb-false shared 2 not_few

    two : (q : ℕ) → b q ≡ mine → TwoRooms near b q
    two q own = two_rooms g survey.room_labels (survey.vital_rooms q own) (many q own)

-- what is found passes, and where nothing is found nothing does
pub found_passes : (t : ℕ → Bool) (xs : List ℕ) {p : ℕ} → Some p ≡ find t xs → t p ≡ true
found_passes t [] e = let z : ◌≡◌ {A = ℕ} 0 1 = cc in absurd (omega arith)
found_passes t (x ∷ xs) {p} e = elim (cases_Bool (t x)) [
  | inl hit ↦
      (let here : Some p ≡ Some x = e ∙ rw hit refl in
      subst (λ (q : ℕ). t q ≡ true) (sym (ap (λ (o : Option ℕ). elim o [ Some q ↦ q | None ↦ 0 ]) here)) hit)
  | inr miss ↦ found_passes t xs (e ∙ rw miss refl)
]

pub none_passes : (t : ℕ → Bool) (xs : List ℕ) → None ≡ find t xs → (k : ℕ) → k < length xs → t (get_or xs k 0) ≡ false
none_passes t [] e k l = absurd (omega arith)
none_passes t (x ∷ xs) e k l = elim (cases_Bool (t x)) [
  | inl hit ↦ (let z : None ≡ Some x = e ∙ rw hit refl in cc)
  | inr miss ↦ none_later t x xs k l miss (none_passes t xs (e ∙ rw miss refl))
]
  where
    none_later : (t : ℕ → Bool) (x : ℕ) (xs : List ℕ) (k : ℕ) → k < length (x ∷ xs) → t x ≡ false → ((i : ℕ) → i < length xs → t (get_or xs i 0) ≡ false) → t (get_or (x ∷ xs) k 0) ≡ false
    none_later t x xs zero l miss later = miss
    none_later t x xs (suc k) l miss later = later k (omega arith)

pub none_below : (t : ℕ → Bool) (wanted n : ℕ) → None ≡ find t (wanted ∷ range_with_len 0 n) → (p : ℕ) → p < n → t p ≡ false
none_below t wanted n e p l =
    let index : get_or (range_with_len 0 n) p 0 ≡ p = get_or-range_with_len 0 n p 0 l ∙ omega arith in
    subst (λ (q : ℕ). t q ≡ false) index (none_passes t (wanted ∷ range_with_len 0 n) e (suc p) (omega (arith, length-range_with_len 0 n)))

-- what the regions say of the board
pub survey_of : (position : Position) (colour : Colour) {chains rooms chains_after rooms_after : List ℕ} {old r : Regions} → RegionsWritten position.size position.cells colour chains rooms chains_after rooms_after old r →
    Surveyed (count_of position.size) (near_of position.size) (seen position.size position.cells colour) chains_after rooms_after (set_of r.vital)
survey_of position colour said = record { chain_labels = said.regioned.chained colour; room_labels = said.regioned.roomed; vital_rooms = said.regioned.vital }

-- the stone that is found has a weak chain, and is on the board
pub found_weak : (position : Position) (colour : Colour) (chains : List ℕ) (sets : ℕ → List ℕ) (wanted : ℕ) {p : ℕ} →
    Some p ≡ find (is_weak (seen position.size position.cells colour) chains sets) (wanted ∷ range_with_len 0 (count_of position.size)) → is_weak (seen position.size position.cells colour) chains sets p ≡ true
found_weak position colour chains sets wanted found =
    found_passes (is_weak (seen position.size position.cells colour) chains sets) (wanted ∷ range_with_len 0 (count_of position.size)) found

-- so it is one of mine
weak_mine : (b : Board) (chains : List ℕ) (sets : ℕ → List ℕ) (p : ℕ) → is_weak b chains sets p ≡ true → b p ≡ mine
weak_mine b chains sets p weak = is_state_true mine (b p) (and_parts (is_state mine (b p)) (ltb (shared_below 384 (sets (get_or chains p 0)) (sets (get_or chains p 0))) 2) weak).0

pub found_below : (position : Position) (colour : Colour) (chains : List ℕ) (sets : ℕ → List ℕ) (wanted : ℕ) {p : ℕ} →
    Some p ≡ find (is_weak (seen position.size position.cells colour) chains sets) (wanted ∷ range_with_len 0 (count_of position.size)) → p < count_of position.size
found_below position colour chains sets wanted {p} found =
    (view_byte (count_of position.size) position.cells colour mine p mine_stone
    (weak_mine (seen position.size position.cells colour) chains sets p (found_weak position colour chains sets wanted found))).0

-- and so is the label of its chain
pub label_of_weak : (position : Position) (colour : Colour) {chains : List ℕ} (sets : ℕ → List ℕ) (p : ℕ) → ChainLabels (count_of position.size) (near_of position.size) (seen position.size position.cells colour) chains →
    is_weak (seen position.size position.cells colour) chains sets p ≡ true → get_or chains p 0 < count_of position.size
label_of_weak position colour {chains} sets p labels weak =
    label_below position.cells colour labels p (weak_mine (seen position.size position.cells colour) chains sets p weak)
