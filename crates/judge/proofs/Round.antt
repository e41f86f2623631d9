-- The rounds of the judge by numbers: what holds while the chains are looked at, and from one round to the next.
use Rattle.std.proofs.Common.{◌≡◌, ℕ, ◌+◌, ◌<◌, ◌≤◌, Bool, true, false, not, ◌&&◌, ◌||◌, eqb, ltb, ◌⊎◌, List, get_or, sym, refl, ap, ◌∙◌, subst, inl, inr, arith}
use Rattle.std.proofs.lemmas.Bool.{cases_Bool, cases_eq, and_parts, and_from, and_right, and_cases, or_cases, or_left, or_right, both_ways, not_from_true, not_from_false, eqb-true, eqb-false, eq-eqb, ltb-true, ltb-false, not-true}
use Rattle.grid.specs.Graph.{Near, Graph}
use Rattle.grid.specs.Grid.{points, near}
use Rattle.grid.proofs.Square.{graph}
use Rattle.chains.specs.Board.{mine, Board}
use Rattle.chains.specs.Computed.{is_state, count}
use Rattle.chains.specs.Labels.{ChainLabels}
use Rattle.chains.specs.Stands.{Stand, Stands}
use Rattle.chains.proofs.Below.{count_less}
use Rattle.chains.proofs.Chain.{joined_last}
use Rattle.chains.proofs.Square.{stands_stand}
use Rattle.chains.proofs.States.{is_state_true, state_is, none_mine}
use Rattle.rooms.specs.Bits.{member, in_both, shared_below}
use Rattle.rooms.specs.declared.room_set.RoomSet.{RoomSet}
use Rattle.rooms.specs.Regions.{not_mine}
use Rattle.rooms.specs.Safe.{Marks}
use Rattle.rooms.specs.Striking.{WallsIn, FewOpen, ChainsStruck, RoomsStruck}
use Rattle.rooms.specs.Numbered.{RoomLabels, VitalRooms, WallRooms, kept_by, open_by}
use Rattle.rooms.proofs.Counts.{count_same, count_some, none_count}
use Rattle.rooms.proofs.Numbered.{few_open, going_start}
use Rattle.rooms.proofs.Rounds.{mine_or_not, chains_struck_sound, rooms_struck_sound, wall_of_room}
use Rattle.judge.specs.AnyBoard.{JudgesOver}
use Rattle.judge.specs.Promise.{Judges}
use Rattle.judge.specs.Round.{Round, Rounds, start, more, Enough, RoomSets, Judging}
use Rattle.judge.proofs.Marked.{judges_going, judges_same, judges_square}

-- no chain is looked at yet
pub round_start : {vital walls : ℕ → List ℕ} {kept open_rooms struck : List ℕ} → ((c : ℕ) → member struck c ≡ false) → Round vital walls kept open_rooms 0 struck open_rooms
round_start {struck = struck} none_struck =
    record {
      below = λ c h. absurd (both_ways (member struck c) (none_struck c) h);
      was_kept = λ c h. absurd (both_ways (member struck c) (none_struck c) h);
      few = λ c h. absurd (both_ways (member struck c) (none_struck c) h);
      others = λ c l h. absurd (omega arith);
      was_open = λ y h. h;
      no_wall = λ c y h i. absurd (both_ways (member struck c) (none_struck c) h);
      rooms = λ y h. inl h;
    }

-- the chain k is not kept, or has two open rooms
pub round_skip : {vital walls : ℕ → List ℕ} {kept open_rooms : List ℕ} {k : ℕ} {struck later_open struck_too open_still : RoomSet} → Round vital walls kept open_rooms k struck.words later_open.words →
    false ≡ (member kept k && ltb (shared_below 384 (vital k) open_rooms) 2) → struck_too ≡ struck → open_still ≡ later_open → Round vital walls kept open_rooms (k + 1) struck_too.words open_still.words
round_skip {vital} {walls} {kept} {open_rooms} {k} {struck} {later_open} {struck_too} {open_still} r test struck_is open_is =
    subst (λ (s : RoomSet). Round vital walls kept open_rooms (k + 1) s.words open_still.words) (sym struck_is)
    (subst (λ (s : RoomSet). Round vital walls kept open_rooms (k + 1) struck.words s.words) (sym open_is)
    (record {
      below = λ c h. let l = r.below c h in omega arith;
      was_kept = r.was_kept;
      few = r.few;
      others = λ c l h. elim (cases_eq c k) [
        | inl same ↦ inr (subst (λ (i : ℕ). 2 ≤ shared_below 384 (vital i) open_rooms) (sym same) (enough (subst (λ (i : ℕ). member kept i ≡ true) same h)))
        | inr other ↦ r.others c (omega arith) h
      ];
      was_open = r.was_open;
      no_wall = r.no_wall;
      rooms = r.rooms;
    }))
  where
    enough : member kept k ≡ true → 2 ≤ shared_below 384 (vital k) open_rooms
    enough h = elim (and_cases (member kept k) (ltb (shared_below 384 (vital k) open_rooms) 2) (sym test)) [
      | inl gone ↦ absurd (both_ways (member kept k) gone h)
      | inr many ↦ ltb-false (shared_below 384 (vital k) open_rooms) 2 many
    ]

-- the chain k is struck, and the rooms that have it for a wall
pub round_strike : {vital walls : ℕ → List ℕ} {kept open_rooms struck later_open : List ℕ} {k : ℕ} {struck_too open_still : RoomSet} (struck_set open_set : RoomSet) → Round vital walls kept open_rooms k struck later_open →
    true ≡ (member kept k && ltb (shared_below 384 (vital k) open_rooms) 2) → struck_too ≡ struck_set → open_still ≡ open_set →
    ((c : ℕ) → member struck_set.words c ≡ (member struck c || eqb c k)) → ((y : ℕ) → member open_set.words y ≡ (member later_open y && not (member (walls k) y))) →
    Round vital walls kept open_rooms (k + 1) struck_too.words open_still.words
round_strike {vital} {walls} {kept} {open_rooms} {struck} {later_open} {k} {struck_too} {open_still} struck_set open_set r test struck_same open_same put taken =
    record {
      below = λ c h. elim (which c h) [ inl was ↦ (let l = r.below c was in omega arith) | inr same ↦ omega arith ];
      was_kept = λ c h. elim (which c h) [ inl was ↦ r.was_kept c was | inr same ↦ subst (λ (i : ℕ). member kept i ≡ true) (sym same) parts.0 ];
      few = λ c h. elim (which c h) [
        | inl was ↦ r.few c was
        | inr same ↦ subst (λ (i : ℕ). shared_below 384 (vital i) open_rooms < 2) (sym same) (ltb-true (shared_below 384 (vital k) open_rooms) 2 parts.1)
      ];
      others = λ c l h. elim (cases_eq c k) [
        | inl same ↦ inl (here c same)
        | inr other ↦ elim (r.others c (omega arith) h) [ inl was ↦ inl (still c was) | inr enough ↦ inr enough ]
      ];
      was_open = λ y h. r.was_open y (open_parts y h).0;
      no_wall = λ c y h i. elim (which c h) [
        | inl was ↦ r.no_wall c y was (open_parts y i).0
        | inr same ↦ subst (λ (j : ℕ). member (walls j) y ≡ false) (sym same) (not-true (member (walls k) y) (open_parts y i).1)
      ];
      rooms = λ y h. elim (r.rooms y h) [
        | inl was ↦ elim (cases_Bool (member (walls k) y)) [
          | inl wall ↦ inr (k, here k refl, wall)
          | inr free ↦ inl (open_is y ∙ and_from (member later_open y) (not (member (walls k) y)) was (not_from_false (member (walls k) y) free))
        ]
        | inr (c, was, wall) ↦ inr (c, still c was, wall)
      ];
    }
  where
    parts : (member kept k ≡ true) × (ltb (shared_below 384 (vital k) open_rooms) 2 ≡ true)
    parts = and_parts (member kept k) (ltb (shared_below 384 (vital k) open_rooms) 2) (sym test)

    struck_is : (c : ℕ) → member struck_too.words c ≡ (member struck c || eqb c k)
    struck_is c = subst (λ (s : RoomSet). member s.words c ≡ (member struck c || eqb c k)) (sym struck_same) (put c)

    open_is : (y : ℕ) → member open_still.words y ≡ (member later_open y && not (member (walls k) y))
    open_is y = subst (λ (s : RoomSet). member s.words y ≡ (member later_open y && not (member (walls k) y))) (sym open_same) (taken y)

    which : (c : ℕ) → member struck_too.words c ≡ true → (member struck c ≡ true) ⊎ (c ≡ k)
    which c h = elim (or_cases (member struck c) (eqb c k) (sym (struck_is c) ∙ h)) [ inl was ↦ inl was | inr same ↦ inr (eqb-true c k same) ]

    still : (c : ℕ) → member struck c ≡ true → member struck_too.words c ≡ true
    still c was = struck_is c ∙ or_left (member struck c) (eqb c k) was

    here : (c : ℕ) → c ≡ k → member struck_too.words c ≡ true
    here c same = struck_is c ∙ or_right (member struck c) (eqb c k) (eq-eqb c k same)

    open_parts : (y : ℕ) → member open_still.words y ≡ true → (member later_open y ≡ true) × (not (member (walls k) y) ≡ true)
    open_parts y h = and_parts (member later_open y) (not (member (walls k) y)) (sym (open_is y) ∙ h)

-- all chains are looked at
pub round_whole : {vital walls : ℕ → List ℕ} {kept open_rooms struck later_open : List ℕ} {k n : ℕ} → Round vital walls kept open_rooms k struck later_open → k ≡ n → Round vital walls kept open_rooms n struck later_open
round_whole {vital} {walls} {kept} {open_rooms} {struck} {later_open} r all = subst (λ (i : ℕ). Round vital walls kept open_rooms i struck later_open) all r

-- after a round that struck a chain fewer chains are kept
pub round_falls : {vital walls : ℕ → List ℕ} {kept open_rooms struck later_open : List ℕ} {n : ℕ} (later_kept : List ℕ) → Round vital walls kept open_rooms n struck later_open → n ≤ 384 →
    ((c : ℕ) → member later_kept c ≡ (member kept c && not (member struck c))) → false ≡ eqb (shared_below 384 struck struck) 0 → count (member later_kept) 384 < count (member kept) 384
round_falls {kept = kept} {struck = struck} later_kept r small is some =
    let more_than_none : 1 ≤ shared_below 384 struck struck = let apart = eqb-false (shared_below 384 struck struck) 0 (sym some) in omega arith in
    let (c, l, h) = count_some (in_both struck struck) 384 more_than_none in
    falls c l (and_parts (member struck c) (member struck c) h).0
  where
    falls : (c : ℕ) → c < 384 → member struck c ≡ true → count (member later_kept) 384 < count (member kept) 384
    falls c l h =
        count_less (member kept) (member later_kept) 384 c (λ i m e. (and_parts (member kept i) (not (member struck i)) (sym (is i) ∙ e)).0) l (r.was_kept c h)
        (is c ∙ and_right (member kept c) (not (member struck c)) (not_from_true (member struck c) h))

-- after a round that struck nothing each chain that is kept has enough rooms
pub round_enough : {vital walls : ℕ → List ℕ} {kept open_rooms struck later_open : List ℕ} {n : ℕ} (later_kept : List ℕ) → Round vital walls kept open_rooms n struck later_open → n ≤ 384 →
    ((c : ℕ) → member later_kept c ≡ (member kept c && not (member struck c))) → true ≡ eqb (shared_below 384 struck struck) 0 → Enough n vital later_kept later_open
round_enough {vital} {walls} {kept} {open_rooms} {struck} {later_open} {n} later_kept r small is none c l h =
    subst (λ (total : ℕ). 2 ≤ total) (count_same (in_both (vital c) open_rooms) (in_both (vital c) later_open) 384 (λ y m. ap (λ (x : Bool). member (vital c) y && x) (same y)))
    (elim (r.others c l (and_parts (member kept c) (not (member struck c)) (sym (is c) ∙ h)).0) [ inl was ↦ absurd (never c was) | inr enough ↦ enough ])
  where
    never : (c : ℕ) → member struck c ≡ true → ⊥
    never c was =
        let l = r.below c was in
        both_ways (in_both struck struck c) (none_count (in_both struck struck) 384 c (eqb-true (shared_below 384 struck struck) 0 (sym none)) (omega arith)) (and_from (member struck c) (member struck c) was was)

    -- the same rooms are open as before
    same : (y : ℕ) → member open_rooms y ≡ member later_open y
    same y = elim (cases_Bool (member open_rooms y)) [
      | inl was ↦ elim (r.rooms y was) [ inl is_still ↦ was ∙ sym is_still | inr (c, gone, wall) ↦ absurd (never c gone) ]
      | inr shut ↦ elim (cases_Bool (member later_open y)) [ inl is_still ↦ absurd (both_ways (member open_rooms y) shut (r.was_open y is_still)) | inr is_shut ↦ shut ∙ sym is_shut ]
    ]

-- before the first round
pub judging_start : {n : ℕ} {near : Near} {b : Board} {chains rooms : List ℕ} (kept open_rooms : List ℕ) → ChainLabels n near b chains →
    ((c : ℕ) → member kept c ≡ true → (p : ℕ) × (b p ≡ mine) × (get_or chains p 0 ≡ c)) →
    ((p : ℕ) → b p ≡ mine → member kept (get_or chains p 0) ≡ true) → ((y : ℕ) → y < n → not_mine b y ≡ true → member open_rooms (get_or rooms y 0) ≡ true) →
    Judging n near b chains rooms kept open_rooms
judging_start {b = b} {chains} kept open_rooms labels own all_kept all_open =
    record {
      going = going_start kept open_rooms all_kept all_open;
      first = λ c h.
          let (p, m, e) = own c h in
          let j = labels.joined mine p (λ z. none_mine z refl) m in
          (subst (λ (i : ℕ). b i ≡ mine) e (joined_last j), subst (λ (i : ℕ). get_or chains i 0 ≡ c) e (sym (labels.one_entry mine p (get_or chains p 0) (λ z. none_mine z refl) j) ∙ e));
    }

-- a round strikes nothing safe
pub round_judging : {n : ℕ} {near : Near} → Graph n near → {b : Board} {chains rooms kept open_rooms struck later_open : List ℕ} {vital walls : ℕ → List ℕ} (later_kept : List ℕ) →
    RoomLabels n near b rooms → RoomSets n near b chains rooms vital walls → n ≤ 384 →
    Round vital walls kept open_rooms n struck later_open → ((c : ℕ) → member later_kept c ≡ (member kept c && not (member struck c))) →
    Judging n near b chains rooms kept open_rooms → Judging n near b chains rooms later_kept later_open
round_judging {n} {near} g {b} {chains} {rooms} {kept} {open_rooms} {struck} {later_open} {vital} {walls} later_kept room_labels sets small r kept_is was =
    record {
      going = record { sound = rooms_struck_sound (chains_struck_sound g was.going.sound struck_chains) struck_rooms; walls = walls_kept };
      first = λ c h. was.first c (later_parts c h).0;
    }
  where
    later_parts : (c : ℕ) → member later_kept c ≡ true → (member kept c ≡ true) × (not (member struck c) ≡ true)
    later_parts c h = and_parts (member kept c) (not (member struck c)) (sym (kept_is c) ∙ h)

    kept_parts : (p : ℕ) → kept_by b chains kept p ≡ true → (b p ≡ mine) × (member kept (get_or chains p 0) ≡ true)
    kept_parts p h = let parts = and_parts (is_state mine (b p)) (member kept (get_or chains p 0)) h in (is_state_true mine (b p) parts.0, parts.1)

    still_or_struck : (p : ℕ) → kept_by b chains kept p ≡ true → (kept_by b chains later_kept p ≡ true) ⊎ (member struck (get_or chains p 0) ≡ true)
    still_or_struck p h = elim (cases_Bool (member struck (get_or chains p 0))) [
      | inl gone ↦ inr gone
      | inr free ↦
          inl (and_from (is_state mine (b p)) (member later_kept (get_or chains p 0)) (state_is mine (b p) (kept_parts p h).0)
          (kept_is (get_or chains p 0) ∙ and_from (member kept (get_or chains p 0)) (not (member struck (get_or chains p 0))) (kept_parts p h).1 (not_from_false (member struck (get_or chains p 0)) free)))
    ]

    few : (p : ℕ) → b p ≡ mine → member struck (get_or chains p 0) ≡ true → FewOpen n near b (open_by rooms open_rooms) p
    few p m gone = few_open g open_rooms room_labels (sets.vital_rooms p m) small (r.few (get_or chains p 0) gone)

    struck_chains : ChainsStruck n near b (open_by rooms open_rooms) (kept_by b chains kept) (kept_by b chains later_kept)
    struck_chains p h = elim (still_or_struck p h) [ inl k ↦ inl k | inr gone ↦ inr (few p (kept_parts p h).0 gone) ]

    -- the sets of a chain that is kept, by its first point
    wall_rooms : (c : ℕ) → member kept c ≡ true → WallRooms n near b rooms c (walls c)
    wall_rooms c h = let (m, e) = was.first c h in subst (λ (i : ℕ). WallRooms n near b rooms c (walls i)) e (sets.wall_rooms c m)

    not_kept : (c : ℕ) → member struck c ≡ true → kept_by b chains later_kept c ≡ false
    not_kept c gone =
        let (m, e) = was.first c (r.was_kept c gone) in
        and_right (is_state mine (b c)) (member later_kept (get_or chains c 0))
        (subst (λ (i : ℕ). member later_kept i ≡ false) (sym e) (kept_is c ∙ and_right (member kept c) (not (member struck c)) (not_from_true (member struck c) gone)))

    -- a point whose number is in a set of rooms has no stone of mine
    clear : (c y : ℕ) → member kept c ≡ true → y < n → member (walls c) (get_or rooms y 0) ≡ true → not_mine b y ≡ true
    clear c y h below wall = elim (mine_or_not b y) [
      | inl m ↦ (let e = room_labels.own y below m in let l = ((wall_rooms c h).is_room (get_or rooms y 0) wall).below in absurd (omega arith))
      | inr free ↦ free
    ]

    struck_rooms : RoomsStruck n near b (kept_by b chains later_kept) (open_by rooms open_rooms) (open_by rooms later_open)
    struck_rooms y below is_open = elim (r.rooms (get_or rooms y 0) is_open) [
      | inl still ↦ inl still
      | inr (c, gone, wall) ↦
          (let h = r.was_kept c gone in
          inr (c, wall_of_room (room_labels.linked y below (clear c y h below wall)) ((wall_rooms c h).sound (get_or rooms y 0) wall), not_kept c gone))
    ]

    walls_kept : (y : ℕ) → y < n → open_by rooms later_open y ≡ true → WallsIn near b (kept_by b chains later_kept) y
    walls_kept y below is_open d wall =
        let h = was.going.walls y below (r.was_open (get_or rooms y 0) is_open) d wall in
        elim (still_or_struck d h) [
          | inl k ↦ k
          | inr gone ↦
              (let m = (kept_parts d h).0 in
              absurd (both_ways (member (walls (get_or chains d 0)) (get_or rooms y 0)) (r.no_wall (get_or chains d 0) (get_or rooms y 0) gone is_open) ((sets.wall_rooms d m).complete y below wall)))
        ]

-- so do any rounds
pub rounds_judging : {n : ℕ} {near : Near} → Graph n near → {b : Board} {chains rooms kept open_rooms : List ℕ} {vital walls : ℕ → List ℕ} {later_kept later_open : List ℕ} →
    RoomLabels n near b rooms → RoomSets n near b chains rooms vital walls → n ≤ 384 →
    Rounds n vital walls kept open_rooms later_kept later_open → Judging n near b chains rooms kept open_rooms → Judging n near b chains rooms later_kept later_open
rounds_judging g room_labels sets small start was = was
rounds_judging g room_labels sets small (more struck later_kept later_open before r kept_is) was =
    round_judging g later_kept room_labels sets small r kept_is (rounds_judging g room_labels sets small before was)

-- when rounds end because nothing was struck, the stones of the chains that are kept are the judgement
pub judges_rounds : {n : ℕ} {near : Near} → Graph n near → {b : Board} {chains rooms kept open_rooms : List ℕ} {vital walls : ℕ → List ℕ} {later_kept later_open : List ℕ} →
    Stand n near b → ChainLabels n near b chains → RoomLabels n near b rooms → RoomSets n near b chains rooms vital walls → n ≤ 384 →
    Judging n near b chains rooms kept open_rooms → Rounds n vital walls kept open_rooms later_kept later_open → Enough n vital later_kept later_open →
    JudgesOver near b (kept_by b chains later_kept)
judges_rounds {n} {near} g {b} {chains} {rooms} {kept} {open_rooms} {vital} {walls} {later_kept} {later_open} stand chain_labels room_labels sets small was rounds enough =
    judges_going g stand chain_labels room_labels (rounds_judging g room_labels sets small rounds was).going many
  where
    many : (p : ℕ) → kept_by b chains later_kept p ≡ true → (words : List ℕ) × VitalRooms n near b rooms p words × (2 ≤ shared_below 384 words later_open)
    many p h =
        let parts = and_parts (is_state mine (b p)) (member later_kept (get_or chains p 0)) h in
        let m = is_state_true mine (b p) parts.0 in
        let j = chain_labels.joined mine p (λ z. none_mine z refl) m in (
          vital (get_or chains p 0),
          sets.vital_rooms p m,
          enough (get_or chains p 0) (stand.inside (get_or chains p 0) (λ z. none_mine z (joined_last j))) parts.1,
        )

-- the same on the square board, for marks that say of each point whether it has a stone of such a chain
pub judges_marks : (w h : ℕ) {k : ℕ} {b : Board} {chains rooms kept open_rooms : List ℕ} {vital walls : ℕ → List ℕ} {later_kept later_open : List ℕ} (marks : Marks) →
    Stands w h b → ChainLabels (points w h) (near w h) b chains → RoomLabels (points w h) (near w h) b rooms → RoomSets (points w h) (near w h) b chains rooms vital walls → points w h ≤ 361 →
    Judging (points w h) (near w h) b chains rooms kept open_rooms → k ≡ points w h → Rounds k vital walls kept open_rooms later_kept later_open → Enough k vital later_kept later_open →
    ((p : ℕ) → marks p ≡ kept_by b chains later_kept p) → Judges w h b marks
judges_marks w h {k} {b} {chains} {rooms} {kept} {open_rooms} {vital} {walls} {later_kept} {later_open} marks stands chain_labels room_labels sets small was all rounds enough same =
    judges_same w h b (kept_by b chains later_kept) marks same (judges_square w h b (kept_by b chains later_kept)
    (judges_rounds (graph w h) (stands_stand stands) chain_labels room_labels sets (omega arith) was
    (subst (λ (n : ℕ). Rounds n vital walls kept open_rooms later_kept later_open) all rounds)
    (subst (λ (n : ℕ). Enough n vital later_kept later_open) all enough)))
