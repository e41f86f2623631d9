-- Sets of rooms, one for each chain: what holds while the neighbours of a point, and then the points, are gone through.
use Rattle.std.proofs.Common.{◌≡◌, ℕ, ◌+◌, ◌<◌, ◌≤◌, Bool, true, false, not, ◌&&◌, ◌||◌, eqb, ltb, ◌⊎◌, List, [], ◌∷◌, ◌++◌, cond, map-id, length, get_or, set, replicate, Some, None, Option, sym, refl, ap, ◌∙◌, subst, inl, inr, add-one, arith, length-set}
use Rattle.std.specs.Iterator.{Yields, YieldsFirst}
use lib.ListN.{length-replicate}
use Rattle.std.proofs.lemmas.Bool.{cases_Bool, lt-ltb, cases_eq, cases_lt, both_ways, eqb-true, eq-eqb, ne_eqb, and_parts, and_from, not_from_false, cond-true, cond-false}
use Rattle.std.proofs.lemmas.List.{get_or-set_same, get_or-set_other, get_or-replicate, get_or_past}
use Rattle.std.proofs.lemmas.List.Folds.{list_any-append}
use Rattle.std.proofs.lemmas.Iterator.Consumers.{YieldsList-from_first, YieldsList-end}
use Rattle.grid.specs.Neighbours.{neighbours_of}
use Rattle.grid.specs.Ahead.{ahead}
use Rattle.grid.specs.declared.neighbours.Neighbours.{Neighbours}
use Rattle.chains.specs.Computed.{any}
use Rattle.chains.proofs.Below.{any_true, true_any}
use Rattle.rooms.specs.Bits.{member}
use Rattle.rooms.specs.Tables.{Paired, holds, own_chain, is_chain, meets, in_room, wall_bit, empty_in, some_empty, some_away, vital_bit, put_bit, keep_bit, empty_bit, empty_firsts, wall_next, vital_next, firsts_next, own_first, clear_bit, NoRoom, RestKept}
use Rattle.rooms.specs.declared.room_set.RoomSet.{RoomSet}
use Rattle.rooms.proofs.Bits.{member_past}

-- no point is below 0
any_none : (t : ℕ → Bool) → any t 0 ≡ false
unfolding any
any_none t = refl

-- one point more
any_more : (t : ℕ → Bool) (k : ℕ) → any t (k + 1) ≡ (any t k || t k)
unfolding any
any_more t k = rw add-one refl

or_false : (x : Bool) → (x || false) ≡ x
or_false true = refl
or_false false = refl

and_false : (x : Bool) → (x && false) ≡ false
and_false true = refl
and_false false = refl

and_true : (x : Bool) → (x && true) ≡ x
and_true true = refl
and_true false = refl

-- at the end of a loop over the neighbours of p all of them were gone through
pub neighbours_all :
    (w h p : ℕ) (s : Neighbours) → ahead s ≡ neighbours_of w h p → (xs : List ℕ) (t : Neighbours) → Yields (YieldsFirst ahead) s xs t
    → (r : Option ℕ) (u : Neighbours) → r ≡ None → YieldsFirst ahead t r u → xs ≡ neighbours_of w h p
neighbours_all w h p s e xs t y r u is step = sym (map-id xs) ∙ (YieldsList-end (YieldsList-from_first (λ (x : ℕ). x) ahead (neighbours_of w h p) e) xs t y r u is step).0

-- one more point, a stone of that chain
meets_some : (chains rooms xs : List ℕ) (q chain : ℕ) → Some chain ≡ own_chain chains rooms q → (c : ℕ) → meets chains rooms c (xs ++ q ∷ []) ≡ (meets chains rooms c xs || eqb c chain)
meets_some chains rooms xs q chain some c =
    list_any-append (λ p. is_chain c (own_chain chains rooms p)) xs (q ∷ [])
    ∙ ap (λ (o : Option ℕ). meets chains rooms c xs || (is_chain c o || false)) (sym some)
    ∙ ap (λ (x : Bool). meets chains rooms c xs || x) (or_false (eqb c chain))

-- one more point, no own stone
meets_none : (chains rooms xs : List ℕ) (q : ℕ) → None ≡ own_chain chains rooms q → (c : ℕ) → meets chains rooms c (xs ++ q ∷ []) ≡ meets chains rooms c xs
meets_none chains rooms xs q none c =
    list_any-append (λ p. is_chain c (own_chain chains rooms p)) xs (q ∷ [])
    ∙ ap (λ (o : Option ℕ). meets chains rooms c xs || (is_chain c o || false)) (sym none)
    ∙ or_false (meets chains rooms c xs)

-- the bits of the chains of own stones among these points are changed by f, and else the sets are as they were
pub record Changed (f : ℕ → ℕ → Bool → Bool) (chains rooms : List ℕ) (was is : List RoomSet) (points : List ℕ) : Type 0 where
  pub long : length is ≡ 361
  pub bits : (c i : ℕ) → holds is c i ≡ cond (meets chains rooms c points) (f c i (holds was c i)) (holds was c i)

-- no point is gone through yet
pub changed_start : {f : ℕ → ℕ → Bool → Bool} {chains rooms : List ℕ} {was : List RoomSet} → length was ≡ 361 → Changed f chains rooms was was []
changed_start long = record { long = long; bits = λ c i. refl }

-- one point more, no own stone
pub changed_past : {f : ℕ → ℕ → Bool → Bool} {chains rooms : List ℕ} {was is after : List RoomSet} {points : List ℕ} (q : ℕ) →
    Changed f chains rooms was is points → after ≡ is → None ≡ own_chain chains rooms q → Changed f chains rooms was after (points ++ q ∷ [])
changed_past {f} {chains} {rooms} {was} {is} {after} {points} q w e none = subst (λ (s : List RoomSet). Changed f chains rooms was s (points ++ q ∷ [])) (sym e) (record {
  long = w.long;
  bits = λ c i. w.bits c i ∙ ap (λ (x : Bool). cond x (f c i (holds was c i)) (holds was c i)) (sym (meets_none chains rooms points q none c));
})

-- a change that was made is not made again
once : (g : Bool → Bool) → ((x : Bool) → g (g x) ≡ g x) → (m e x : Bool) → cond e (g (cond m (g x) x)) (cond m (g x) x) ≡ cond (m || e) (g x) x
once g same true true x = same x
once g same true false x = refl
once g same false true x = refl
once g same false false x = refl

-- one point more, a stone of that chain
changed_step : {f : ℕ → ℕ → Bool → Bool} {chains rooms : List ℕ} {was is new : List RoomSet} {points : List ℕ} (q chain : ℕ) → ((c i : ℕ) (x : Bool) → f c i (f c i x) ≡ f c i x) →
    Changed f chains rooms was is points → length new ≡ 361 → Some chain ≡ own_chain chains rooms q →
    ((c i : ℕ) → holds new c i ≡ cond (eqb c chain) (f c i (holds is c i)) (holds is c i)) → Changed f chains rooms was new (points ++ q ∷ [])
changed_step {f} {chains} {rooms} {was} {is} {new} {points} q chain same w long some next = record {
  long = long;
  bits = λ c i.
      next c i
      ∙ ap (λ (x : Bool). cond (eqb c chain) (f c i x) x) (w.bits c i)
      ∙ once (f c i) (same c i) (meets chains rooms c points) (eqb c chain) (holds was c i)
      ∙ ap (λ (x : Bool). cond x (f c i (holds was c i)) (holds was c i)) (sym (meets_some chains rooms points q chain some c));
}

-- the room is put in
abbrev pub put_room : ℕ → ℕ → ℕ → Bool → Bool
put_room room c i was = was || eqb i room

-- the room is taken out, unless the chain passes the test
abbrev pub keep_room : (ℕ → Bool) → ℕ → ℕ → ℕ → Bool → Bool
keep_room test room c i was = was && not (eqb i room && not (test c))

or_twice : (x y : Bool) → ((x || y) || y) ≡ (x || y)
or_twice true y = refl
or_twice false true = refl
or_twice false false = refl

and_twice : (x y : Bool) → ((x && y) && y) ≡ (x && y)
and_twice false y = refl
and_twice true true = refl
and_twice true false = refl

-- the set of one chain was changed, as f changes its bits
set_changed : (f : ℕ → ℕ → Bool → Bool) (sets : List RoomSet) (chain : ℕ) (s : RoomSet) → length sets ≡ 361 → chain < 361 → ((i : ℕ) → member s.words i ≡ f chain i (holds sets chain i)) →
    (c i : ℕ) → holds (set sets chain s) c i ≡ cond (eqb c chain) (f c i (holds sets c i)) (holds sets c i)
set_changed f sets chain s long below bits c i = elim (cases_eq c chain) [
  | inl same ↦ subst (λ (d : ℕ). holds (set sets chain s) d i ≡ cond (eqb d chain) (f d i (holds sets d i)) (holds sets d i)) (sym same)
      (ap (λ (t : RoomSet). member t.words i) (get_or-set_same sets chain s (record { words = [] }) (omega (arith, long)))
      ∙ bits i
      ∙ sym (cond-true (eqb chain chain) (f chain i (holds sets chain i)) (holds sets chain i) (eq-eqb chain chain refl)))
  | inr other ↦ ap (λ (t : RoomSet). member t.words i) (get_or-set_other sets chain c s (record { words = [] }) other)
      ∙ sym (cond-false (eqb c chain) (f c i (holds sets c i)) (holds sets c i) (ne_eqb c chain other))
]

-- the room is put into the set of the chain of one stone more
pub put_step : {chains rooms : List ℕ} (room : ℕ) {was is : List RoomSet} {points : List ℕ} (q : ℕ) {chain : ℕ} (s : RoomSet) → Changed (put_room room) chains rooms was is points →
    Some chain ≡ own_chain chains rooms q → chain < 361 → ((i : ℕ) → member s.words i ≡ (holds is chain i || eqb i room)) →
    Changed (put_room room) chains rooms was (set is chain s) (points ++ q ∷ [])
put_step room {is = is} q {chain} s w some below put = changed_step q chain (λ c i x. or_twice x (eqb i room)) w (length-set is chain s ∙ w.long) some (set_changed (put_room room) is chain s w.long below put)

-- and taken out of it, if the chain does not pass the test
pub keep_step : {chains rooms : List ℕ} (test : ℕ → Bool) (room : ℕ) {was is : List RoomSet} {points : List ℕ} (q : ℕ) {chain : ℕ} (s : RoomSet) → Changed (keep_room test room) chains rooms was is points →
    Some chain ≡ own_chain chains rooms q → chain < 361 → test chain ≡ false → ((i : ℕ) → member s.words i ≡ (holds is chain i && not (eqb i room))) →
    Changed (keep_room test room) chains rooms was (set is chain s) (points ++ q ∷ [])
keep_step test room {is = is} q {chain} s w some below away taken =
    changed_step q chain (λ c i x. and_twice x (not (eqb i room && not (test c)))) w (length-set is chain s ∙ w.long) some
    (set_changed (keep_room test room) is chain s w.long below (λ i. taken i ∙ sym (rw (away, and_true (eqb i room)) refl)))

-- and it stays, if the chain passes the test
pub keep_stay : {chains rooms : List ℕ} (test : ℕ → Bool) (room : ℕ) {was is : List RoomSet} {points : List ℕ} (q : ℕ) {chain : ℕ} → Changed (keep_room test room) chains rooms was is points →
    Some chain ≡ own_chain chains rooms q → test chain ≡ true → Changed (keep_room test room) chains rooms was is (points ++ q ∷ [])
keep_stay test room {is = is} q {chain} w some passes =
    changed_step q chain (λ c i x. and_twice x (not (eqb i room && not (test c)))) w w.long some (λ c i. same c i (cases_eq c chain))
  where
    same : (c i : ℕ) → (c ≡ chain) ⊎ (c ≡ chain → ⊥) → holds is c i ≡ cond (eqb c chain) (keep_room test room c i (holds is c i)) (holds is c i)
    same c i (inl here) = rw (eq-eqb c chain here, ap test here ∙ passes, and_false (eqb i room)) (sym (and_true (holds is c i)))
    same c i (inr other) = rw (ne_eqb c chain other) refl

put_all : (w x t : Bool) → cond t (w || x) w ≡ (w || (x && t))
put_all w true true = refl
put_all w false true = refl
put_all w x false = sym (rw (and_false x) (or_false w))

keep_all : (w x t u : Bool) → cond u (w && not (x && not t)) w ≡ (w && not (x && (u && not t)))
keep_all w x t true = refl
keep_all w x t false = sym (rw (and_false x) (and_true w))

-- all points are gone through
pub put_end : {chains rooms : List ℕ} (room : ℕ) {was is : List RoomSet} {points : List ℕ} (all : List ℕ) → points ≡ all →
    Changed (put_room room) chains rooms was is points → (c i : ℕ) → holds is c i ≡ (holds was c i || (eqb i room && meets chains rooms c all))
put_end {chains} {rooms} room {was} {is} all e w c i =
    (subst (λ (xs : List ℕ). Changed (put_room room) chains rooms was is xs) e w).bits c i ∙ put_all (holds was c i) (eqb i room) (meets chains rooms c all)

pub keep_end : {chains rooms : List ℕ} (test : ℕ → Bool) (room : ℕ) {was is : List RoomSet} {points : List ℕ} (all : List ℕ) → points ≡ all →
    Changed (keep_room test room) chains rooms was is points → (c i : ℕ) → holds is c i ≡ (holds was c i && not (eqb i room && (meets chains rooms c all && not (test c))))
keep_end {chains} {rooms} test room {was} {is} all e w c i =
    (subst (λ (xs : List ℕ). Changed (keep_room test room) chains rooms was is xs) e w).bits c i ∙ keep_all (holds was c i) (eqb i room) (test c) (meets chains rooms c all)

eqb_turned : (a b : ℕ) → eqb a b ≡ eqb b a
eqb_turned a b = elim (cases_eq a b) [ inl e ↦ eq-eqb a b e ∙ sym (eq-eqb b a (sym e)) | inr other ↦ ne_eqb a b other ∙ sym (ne_eqb b a (λ e. other (sym e))) ]

-- a point that the chain is not beside leaves its bits as they are
put_rest : (touch : ℕ → ℕ → Bool) (p room c i : ℕ) (was : Bool) → touch p c ≡ false → put_bit touch p room c i was ≡ was
put_rest touch p room c i was away = rw (away, and_false (eqb i room)) (or_false was)

keep_rest : (touch : ℕ → ℕ → Bool) (from p room c i : ℕ) (was : Bool) → touch from c ≡ false → keep_bit touch from p room c i was ≡ was
keep_rest touch from p room c i was away = rw (away, and_false (eqb i room)) (and_true was)

wall_rest : (touch : ℕ → ℕ → Bool) (rooms : List ℕ) (p c i : ℕ) (was : Bool) → ((q : ℕ) → touch q c ≡ false) → wall_next touch rooms p c i was ≡ was
wall_rest touch rooms p c i was away = elim (cases_Bool own) [
  | inl t ↦ cond-true own was (put_bit touch p (get_or rooms p 0) c i was) t
  | inr t ↦ cond-false own was (put_bit touch p (get_or rooms p 0) c i was) t ∙ put_rest touch p (get_or rooms p 0) c i was (away p)
]
  where
    own : Bool
    own = eqb (get_or rooms p 0) 65535

empty_rest : (touch : ℕ → ℕ → Bool) (first : Option ℕ) (p room c i : ℕ) (was : Bool) → ((q : ℕ) → touch q c ≡ false) → empty_bit touch first p room c i was ≡ was
empty_rest touch None p room c i was away = put_rest touch p room c i was (away p)
empty_rest touch (Some first) p room c i was away = keep_rest touch first p room c i was (away first)

-- the sets of walls that had no room have what the points below k give, and those of chains beside no point are as they were
pub record Walling (touch : ℕ → ℕ → Bool) (rooms : List ℕ) (old sets : List RoomSet) (k : ℕ) : Type 0 where
  pub bits : (c i : ℕ) → NoRoom old c → holds sets c i ≡ wall_bit touch rooms k c i
  pub rest : RestKept touch old sets

-- no point is gone through yet
pub walling_start : {touch : ℕ → ℕ → Bool} {rooms : List ℕ} {old : List RoomSet} → Walling touch rooms old old 0
walling_start {touch} {rooms} = record { bits = λ c i none. none i ∙ sym (any_none (λ y. in_room rooms i y && touch y c)); rest = λ c i away. refl }

-- one point more
pub walling_step : {touch : ℕ → ℕ → Bool} {rooms : List ℕ} {old sets new : List RoomSet} {k : ℕ} → Walling touch rooms old sets k →
    ((c i : ℕ) → holds new c i ≡ wall_next touch rooms k c i (holds sets c i)) → Walling touch rooms old new (k + 1)
walling_step {touch} {rooms} {old} {sets} {new} {k} w next = record {
  bits = λ c i none. next c i ∙ step c i none (cases_Bool (eqb (get_or rooms k 0) 65535));
  rest = λ c i away. next c i ∙ wall_rest touch rooms k c i (holds sets c i) away ∙ w.rest c i away;
}
  where
    more : (c i : ℕ) → wall_bit touch rooms (k + 1) c i ≡ (wall_bit touch rooms k c i || (in_room rooms i k && touch k c))
    more c i = any_more (λ y. in_room rooms i y && touch y c) k

    step : (c i : ℕ) → NoRoom old c → (eqb (get_or rooms k 0) 65535 ≡ true) ⊎ (eqb (get_or rooms k 0) 65535 ≡ false) → wall_next touch rooms k c i (holds sets c i) ≡ wall_bit touch rooms (k + 1) c i
    step c i none (inl own) = rw (more c i, own, w.bits c i none) (sym (or_false (wall_bit touch rooms k c i)))
    step c i none (inr clear) = rw (more c i, clear, w.bits c i none, eqb_turned (get_or rooms k 0) i) refl

-- all points are gone through
pub walling_end : {touch : ℕ → ℕ → Bool} {rooms : List ℕ} {old sets : List RoomSet} {k : ℕ} (n : ℕ) → k ≡ n → Walling touch rooms old sets k →
    (c i : ℕ) → NoRoom old c → holds sets c i ≡ wall_bit touch rooms n c i
walling_end {touch} {rooms} {old} {sets} n e w = (subst (λ (j : ℕ). Walling touch rooms old sets j) e w).bits

-- what is known of the first empty point below k of the room i
abbrev Known : List ℕ → List ℕ → ℕ → ℕ → Option ℕ → Type 0
Known chains rooms k i None = some_empty chains rooms k i ≡ false
Known chains rooms k i (Some first) = (first < k) × (empty_in chains rooms i first ≡ true)

-- the sets of vital rooms that had no room have what the points below k give, those of chains beside no point are as they were,
-- and the first empty points of the rooms among these are known
pub record Finding (touch : ℕ → ℕ → Bool) (chains rooms : List ℕ) (firsts : List (Option ℕ)) (old sets : List RoomSet) (k : ℕ) : Type 0 where
  pub known : (i : ℕ) → i < 361 → Known chains rooms k i (get_or firsts i None)
  pub bits : (c i : ℕ) → NoRoom old c → holds sets c i ≡ vital_bit touch chains rooms k c i
  pub rest : RestKept touch old sets

-- no point is gone through yet
pub finding_start : {touch : ℕ → ℕ → Bool} {chains rooms : List ℕ} {old : List RoomSet} → Finding touch chains rooms (replicate 361 None) old old 0
finding_start {touch} {chains} {rooms} = record {
  known = λ i l. subst (λ (first : Option ℕ). Known chains rooms 0 i first) (sym (get_or-replicate 361 i None None l)) (any_none (empty_in chains rooms i));
  bits = λ c i none. none i ∙ sym (rw (any_none (empty_in chains rooms i)) refl);
  rest = λ c i away. refl;
}

-- one point more that is no empty point of the room
known_same : (chains rooms : List ℕ) (k i : ℕ) (first : Option ℕ) → some_empty chains rooms (k + 1) i ≡ some_empty chains rooms k i → Known chains rooms k i first → Known chains rooms (k + 1) i first
known_same chains rooms k i None same none = same ∙ none
known_same chains rooms k i (Some first) same (below, there) = (omega arith, there)

fresh_bit : (s a x y t : Bool) → x ≡ y → (y ≡ true → s ≡ false) → (s ≡ false → a ≡ false) → ((s && not a) || (x && t)) ≡ ((s || y) && not (a || (y && not t)))
fresh_bit s a x false t e none quiet = rw (e, or_false s, or_false a) (or_false (s && not a))
fresh_bit s a x true t e none quiet = rw (e, quiet (none refl), none refl) (twice t)
  where
    twice : (t : Bool) → t ≡ not (not t)
    twice true = refl
    twice false = refl

later_bit : (s a x y u t : Bool) → x ≡ y → (y ≡ true → s ≡ true) → (y ≡ true → u ≡ false → a ≡ true) →
    ((s && not a) && not (x && (u && not t))) ≡ ((s || y) && not (a || (y && not t)))
later_bit s a x false u t e some first = rw (e, or_false s, or_false a) (and_true (s && not a))
later_bit s a x true true t e some first = rw (e, some refl) (both a t)
  where
    both : (a t : Bool) → (not a && not (not t)) ≡ not (a || not t)
    both true t = refl
    both false t = refl
later_bit s a x true false t e some first = rw (e, some refl, first refl refl) refl

-- what no point passes, no point passes under a further test
away_none : (touch : ℕ → ℕ → Bool) (chains rooms : List ℕ) (k c i : ℕ) → some_empty chains rooms k i ≡ false → some_away touch chains rooms k c i ≡ false
away_none touch chains rooms k c i none = elim (cases_Bool (some_away touch chains rooms k c i)) [
  | inr f ↦ f
  | inl t ↦
      (let (e, below, passes) = any_true (λ e. empty_in chains rooms i e && not (touch e c)) k t in
      absurd (both_ways (some_empty chains rooms k i) none (true_any (empty_in chains rooms i) k e below (and_parts (empty_in chains rooms i e) (not (touch e c)) passes).0)))
]

-- a stone stands there
finding_stone : {touch : ℕ → ℕ → Bool} {chains rooms : List ℕ} {firsts : List (Option ℕ)} {old sets new : List RoomSet} {k : ℕ} → Finding touch chains rooms firsts old sets k →
    eqb (get_or chains k 0) 65535 ≡ false → ((c i : ℕ) → holds new c i ≡ holds sets c i) → Finding touch chains rooms firsts old new (k + 1)
finding_stone {touch} {chains} {rooms} {firsts} {old} {sets} {new} {k} w stone same = record {
  known = λ i l. known_same chains rooms k i (get_or firsts i None) (some_same i) (w.known i l);
  bits = λ c i none. same c i ∙ w.bits c i none ∙ sym (rw (some_same i, away_same c i) refl);
  rest = λ c i away. same c i ∙ w.rest c i away;
}
  where
    some_same : (i : ℕ) → some_empty chains rooms (k + 1) i ≡ some_empty chains rooms k i
    some_same i = any_more (empty_in chains rooms i) k ∙ rw stone (or_false (some_empty chains rooms k i))

    away_same : (c i : ℕ) → some_away touch chains rooms (k + 1) c i ≡ some_away touch chains rooms k c i
    away_same c i = any_more (λ e. empty_in chains rooms i e && not (touch e c)) k ∙ rw stone (or_false (some_away touch chains rooms k c i))

-- an empty point of a room
finding_empty : {touch : ℕ → ℕ → Bool} {chains rooms : List ℕ} {firsts : List (Option ℕ)} {old sets new : List RoomSet} {k : ℕ} → Finding touch chains rooms firsts old sets k → length firsts ≡ 361 →
    eqb (get_or chains k 0) 65535 ≡ true → get_or rooms k 0 < 361 →
    ((c i : ℕ) → holds new c i ≡ empty_bit touch (get_or firsts (get_or rooms k 0) None) k (get_or rooms k 0) c i (holds sets c i)) →
    Finding touch chains rooms (empty_firsts firsts k (get_or rooms k 0) (get_or firsts (get_or rooms k 0) None)) old new (k + 1)
finding_empty {touch} {chains} {rooms} {firsts} {old} {sets} {new} {k} w long empty below put = by (get_or firsts room None) refl
  where
    room : ℕ
    room = get_or rooms k 0

    some_more : (i : ℕ) → some_empty chains rooms (k + 1) i ≡ (some_empty chains rooms k i || eqb room i)
    some_more i = any_more (empty_in chains rooms i) k ∙ rw empty refl

    away_more : (c i : ℕ) → some_away touch chains rooms (k + 1) c i ≡ (some_away touch chains rooms k c i || (eqb room i && not (touch k c)))
    away_more c i = any_more (λ p. empty_in chains rooms i p && not (touch p c)) k ∙ rw empty refl

    more : (c i : ℕ) → vital_bit touch chains rooms (k + 1) c i ≡ ((some_empty chains rooms k i || eqb room i) && not (some_away touch chains rooms k c i || (eqb room i && not (touch k c))))
    more c i = rw (some_more i, away_more c i) refl

    known_here : (first : Option ℕ) → get_or firsts room None ≡ first → Known chains rooms k room first
    known_here first e = subst (λ (o : Option ℕ). Known chains rooms k room o) e (w.known room below)

    known_there : (i : ℕ) → i < 361 → (i ≡ room → ⊥) → Known chains rooms (k + 1) i (get_or firsts i None)
    known_there i l other = known_same chains rooms k i (get_or firsts i None) (some_more i ∙ rw (ne_eqb room i (λ same. other (sym same))) (or_false (some_empty chains rooms k i))) (w.known i l)

    in_own : (first i : ℕ) → eqb room i ≡ true → empty_in chains rooms room first ≡ true → empty_in chains rooms i first ≡ true
    in_own first i same there = subst (λ (j : ℕ). empty_in chains rooms j first ≡ true) (eqb-true room i same) there

    stepped : (first : Option ℕ) → get_or firsts room None ≡ first → (c i : ℕ) → NoRoom old c → holds new c i ≡ empty_bit touch first k room c i (vital_bit touch chains rooms k c i)
    stepped first e c i none = put c i ∙ ap (λ (o : Option ℕ). empty_bit touch o k room c i (holds sets c i)) e ∙ ap (empty_bit touch first k room c i) (w.bits c i none)

    rest_kept : RestKept touch old new
    rest_kept c i away = put c i ∙ empty_rest touch (get_or firsts room None) k room c i (holds sets c i) away ∙ w.rest c i away

    bits_later : (first : ℕ) → get_or firsts room None ≡ Some first → (first < k) × (empty_in chains rooms room first ≡ true) → (c i : ℕ) → NoRoom old c → holds new c i ≡ vital_bit touch chains rooms (k + 1) c i
    bits_later first e (before, there) c i none =
        stepped (Some first) e c i none
        ∙ later_bit (some_empty chains rooms k i) (some_away touch chains rooms k c i) (eqb i room) (eqb room i) (touch first c) (touch k c) (eqb_turned i room)
        (λ same. true_any (empty_in chains rooms i) k first before (in_own first i same there))
        (λ same away. true_any (λ p. empty_in chains rooms i p && not (touch p c)) k first before
        (and_from (empty_in chains rooms i first) (not (touch first c)) (in_own first i same there) (not_from_false (touch first c) away)))
        ∙ sym (more c i)

    by : (first : Option ℕ) → get_or firsts room None ≡ first → Finding touch chains rooms (empty_firsts firsts k room first) old new (k + 1)
    by None e = record {
      known = λ i l. elim (cases_eq i room) [
        | inl same ↦ subst (λ (o : Option ℕ). Known chains rooms (k + 1) i o)
            (sym (ap (λ (j : ℕ). get_or (set firsts room (Some k)) j None) same ∙ get_or-set_same firsts room (Some k) None (omega (arith, long))))
            (omega arith, and_from (eqb (get_or chains k 0) 65535) (eqb room i) empty (eq-eqb room i (sym same)))
        | inr other ↦ subst (λ (o : Option ℕ). Known chains rooms (k + 1) i o) (sym (get_or-set_other firsts room i (Some k) None other)) (known_there i l other)
      ];
      bits = λ c i none.
          stepped None e c i none
          ∙ fresh_bit (some_empty chains rooms k i) (some_away touch chains rooms k c i) (eqb i room) (eqb room i) (touch k c) (eqb_turned i room)
          (λ same. ap (some_empty chains rooms k) (sym (eqb-true room i same)) ∙ known_here None e) (away_none touch chains rooms k c i)
          ∙ sym (more c i);
      rest = rest_kept;
    }
    by (Some first) e = record {
      known = λ i l. elim (cases_eq i room) [
        | inl same ↦ (let (before, there) = known_here (Some first) e in
            subst (λ (o : Option ℕ). Known chains rooms (k + 1) i o) (sym (ap (λ (j : ℕ). get_or firsts j None) same ∙ e)) (omega arith, in_own first i (eq-eqb room i (sym same)) there))
        | inr other ↦ known_there i l other
      ];
      bits = bits_later first e (known_here (Some first) e);
      rest = rest_kept;
    }

-- an empty point has a room, and its label is a point
pub empty_room : {n : ℕ} {chains rooms : List ℕ} → Paired n chains rooms → n ≤ 361 → (p : ℕ) → p < n → get_or chains p 0 ≡ 65535 → get_or rooms p 0 < n
empty_room w small p below empty = w.room_below p below (λ own. let l = w.own_chain p below own in omega arith)

-- one point more
pub finding_step : {touch : ℕ → ℕ → Bool} {n : ℕ} {chains rooms : List ℕ} {firsts : List (Option ℕ)} {old sets new : List RoomSet} {k : ℕ} (new_firsts : List (Option ℕ)) → Paired n chains rooms → n ≤ 361 → k < n →
    Finding touch chains rooms firsts old sets k → length firsts ≡ 361 → new_firsts ≡ firsts_next chains rooms firsts k →
    ((c i : ℕ) → holds new c i ≡ vital_next touch chains rooms firsts k c i (holds sets c i)) → Finding touch chains rooms new_firsts old new (k + 1)
finding_step {touch} {n} {chains} {rooms} {firsts} {old} {sets} {new} {k} new_firsts pair small below w long first next = subst (λ (s : List (Option ℕ)). Finding touch chains rooms s old new (k + 1)) (sym first)
    (elim (cases_Bool vacant) [
      | inl t ↦ subst (λ (s : List (Option ℕ)). Finding touch chains rooms s old new (k + 1)) (sym (cond-true vacant (empty_firsts firsts k room known) firsts t))
          (finding_empty w long t (inside t) (λ c i. next c i ∙ cond-true vacant (empty_bit touch known k room c i (holds sets c i)) (holds sets c i) t))
      | inr t ↦ subst (λ (s : List (Option ℕ)). Finding touch chains rooms s old new (k + 1)) (sym (cond-false vacant (empty_firsts firsts k room known) firsts t))
          (finding_stone w t (λ c i. next c i ∙ cond-false vacant (empty_bit touch known k room c i (holds sets c i)) (holds sets c i) t))
    ])
  where
    room : ℕ
    room = get_or rooms k 0

    known : Option ℕ
    known = get_or firsts room None

    vacant : Bool
    vacant = eqb (get_or chains k 0) 65535

    inside : vacant ≡ true → room < 361
    inside t = let l = empty_room pair small k below (eqb-true (get_or chains k 0) 65535 t) in omega arith

-- all points are gone through
pub finding_end : {touch : ℕ → ℕ → Bool} {chains rooms : List ℕ} {firsts : List (Option ℕ)} {old sets : List RoomSet} {k : ℕ} (n : ℕ) → k ≡ n → Finding touch chains rooms firsts old sets k →
    (c i : ℕ) → NoRoom old c → holds sets c i ≡ vital_bit touch chains rooms n c i
finding_end {touch} {chains} {rooms} {firsts} {old} {sets} n e w = (subst (λ (j : ℕ). Finding touch chains rooms firsts old sets j) e w).bits

-- sets without a room
pub none_held : (n : ℕ) (s : RoomSet) (c i : ℕ) → member s.words i ≡ false → holds (replicate n s) c i ≡ false
none_held n s c i none = elim (cases_lt c n) [
  | inl l ↦ ap (λ (t : RoomSet). member t.words i) (get_or-replicate n c s (record { words = [] }) l) ∙ none
  | inr l ↦ ap (λ (t : RoomSet). member t.words i) (get_or_past (replicate n s) c (record { words = [] }) (simp length-replicate l)) ∙ member_past [] i (omega arith)
]

-- sets that were cleared for the own chains and then written: those without a room get the bits, and those of chains beside no point are as they were
pub record Rewritten (touch : ℕ → ℕ → Bool) (chains rooms : List ℕ) (n : ℕ) (bit : ℕ → ℕ → Bool) (was is : List RoomSet) : Type 0 where
  pub cleared : List RoomSet
  pub clear : (c i : ℕ) → holds cleared c i ≡ clear_bit chains rooms n c (holds was c i)
  pub bits : (c i : ℕ) → NoRoom cleared c → holds is c i ≡ bit c i
  pub rest : RestKept touch cleared is

-- the set of an own chain has the bits
pub rewritten_own : {touch : ℕ → ℕ → Bool} {chains rooms : List ℕ} {n : ℕ} {bit : ℕ → ℕ → Bool} {was is : List RoomSet} → Rewritten touch chains rooms n bit was is →
    (c : ℕ) → c < n → own_first chains rooms c ≡ true → (i : ℕ) → holds is c i ≡ bit c i
rewritten_own {n = n} {was = was} w c below first i = w.bits c i (λ j. w.clear c j ∙ rw (lt-ltb c n below, first) (and_false (holds was c j)))

-- the set of a number that is no own chain's is as it was
pub rewritten_rest : {touch : ℕ → ℕ → Bool} {chains rooms : List ℕ} {n : ℕ} {bit : ℕ → ℕ → Bool} {was is : List RoomSet} → Rewritten touch chains rooms n bit was is →
    (c : ℕ) → (ltb c n && own_first chains rooms c) ≡ false → ((p : ℕ) → touch p c ≡ false) → (i : ℕ) → holds is c i ≡ holds was c i
rewritten_rest {was = was} w c none away i = w.rest c i away ∙ w.clear c i ∙ rw none (and_true (holds was c i))
