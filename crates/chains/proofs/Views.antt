-- The bytes of a board as each side sees them: which byte says which state, and chains as points of one byte.
use Rattle.std.proofs.Common.{◌≡◌, ℕ, ◌<◌, Bool, true, false, eqb, ltb, ◌≢◌, List, get_or, take, sym, refl, ap, ◌∙◌, subst, inl, inr, arith, get_or-take}
use mathlib.Core.Path.{fun_ext}
use Rattle.std.proofs.lemmas.Bool.{both_ways, cases_Bool, eqb-true, eq-eqb, ne_eqb, ltb-true, lt-ltb, or_cases, or_parts}
use Rattle.grid.specs.Graph.{Near, Graph}
use Rattle.chains.specs.Board.{pick, State, none, mine, yours, Board, Joined}
use Rattle.chains.specs.Linked.{Linked}
use Rattle.chains.specs.Labels.{of_class, First, Labelled, ChainLabels}
use Rattle.chains.specs.Views.{stone_byte, other, is_point, is_stone, state_of, view}
use Rattle.chains.specs.declared.colour.Colour.{Colour}
use Rattle.chains.specs.declared.colour.Colour.TheVariants.{Black, White}
use Rattle.chains.proofs.States.{none_mine, none_yours, mine_yours, state_is}
use Rattle.chains.proofs.Reach.{linked_map}
use Rattle.chains.proofs.Chain.{joined_linked, linked_joined, joined_first, joined_last, joined_trans, joined_sym}
use Rattle.chains.proofs.Walk.{own_class}
use Rattle.chains.proofs.Labelling.{linked_class, linked_inside, first_along, first_unique}

-- the byte by which a state is written, seen from a colour
abbrev pub byte_of : Colour → State → ℕ
byte_of colour none = 46
byte_of colour mine = stone_byte colour
byte_of colour yours = stone_byte (other colour)

picked_mine : (x y : Bool) → pick x mine (pick y yours none) ≡ mine → x ≡ true
picked_mine true y e = refl
picked_mine false true e = absurd (mine_yours e refl)
picked_mine false false e = absurd (none_mine refl e)

picked_yours : (x y : Bool) → pick x mine (pick y yours none) ≡ yours → y ≡ true
picked_yours true y e = absurd (mine_yours refl e)
picked_yours false true e = refl
picked_yours false false e = absurd (none_yours refl e)

picked_none : (x y : Bool) → pick x mine (pick y yours none) ≡ none → (x ≡ false) × (y ≡ false)
picked_none true y e = absurd (none_mine e refl)
picked_none false true e = absurd (none_yours e refl)
picked_none false false e = (refl, refl)

two_bytes : (colour : Colour) → stone_byte (other colour) ≢ stone_byte colour
two_bytes Black e = omega arith
two_bytes White e = omega arith

-- a stone's byte is the one that its state is written by
pub state_byte : (colour : Colour) (c : State) (byte : ℕ) → c ≢ none → state_of colour byte ≡ c → byte ≡ byte_of colour c
state_byte colour none byte h e = absurd (h refl)
state_byte colour mine byte h e = eqb-true byte (stone_byte colour) (picked_mine (eqb byte (stone_byte colour)) (eqb byte (stone_byte (other colour))) e)
state_byte colour yours byte h e = eqb-true byte (stone_byte (other colour)) (picked_yours (eqb byte (stone_byte colour)) (eqb byte (stone_byte (other colour))) e)

-- and says that state
pub byte_state : (colour : Colour) (c : State) (byte : ℕ) → c ≢ none → byte ≡ byte_of colour c → state_of colour byte ≡ c
byte_state colour none byte h e = absurd (h refl)
byte_state colour mine byte h e = rw (eq-eqb byte (stone_byte colour) e) refl
byte_state colour yours byte h e = rw (ne_eqb byte (stone_byte colour) (λ s. two_bytes colour (sym e ∙ s)), eq-eqb byte (stone_byte (other colour)) e) refl

-- a byte that says nothing writes no stone
pub none_byte : (colour : Colour) (byte : ℕ) → state_of colour byte ≡ none → is_stone byte ≡ false
none_byte Black byte e = let f = picked_none (eqb byte 88) (eqb byte 79) e in rw (f.0, f.1) refl
none_byte White byte e = let f = picked_none (eqb byte 79) (eqb byte 88) e in rw (f.0, f.1) refl

-- a byte that writes no stone says nothing
pub byte_none : (colour : Colour) (byte : ℕ) → is_stone byte ≡ false → state_of colour byte ≡ none
byte_none Black byte e = let f = or_parts (eqb byte 88) (eqb byte 79) e in rw (f.0, f.1) refl
byte_none White byte e = let f = or_parts (eqb byte 88) (eqb byte 79) e in rw (f.0, f.1) refl

-- the byte of a stone is not that of an empty point
pub byte_of_stone : (colour : Colour) (c : State) → c ≢ none → byte_of colour c ≢ 46
byte_of_stone colour none h e = h refl
byte_of_stone Black mine h e = omega arith
byte_of_stone Black yours h e = omega arith
byte_of_stone White mine h e = omega arith
byte_of_stone White yours h e = omega arith

picked_inside : (x : Bool) (s c : State) → c ≢ none → pick x s none ≡ c → (x ≡ true) × (s ≡ c)
picked_inside true s c h e = (refl, e)
picked_inside false s c h e = absurd (h (sym e))

-- a stone that is seen lies on the board, and its byte is that of its state
pub view_byte : (n : ℕ) (bytes : List ℕ) (colour : Colour) (c : State) (p : ℕ) → c ≢ none → view n bytes colour p ≡ c → (p < n) × (get_or bytes p 0 ≡ byte_of colour c)
view_byte n bytes colour c p h e =
    let f = picked_inside (ltb p n) (state_of colour (get_or bytes p 0)) c h e in
    (ltb-true p n f.0, state_byte colour c (get_or bytes p 0) h f.1)

-- and back
pub byte_view : (n : ℕ) (bytes : List ℕ) (colour : Colour) (c : State) (p : ℕ) → c ≢ none → p < n → get_or bytes p 0 ≡ byte_of colour c → view n bytes colour p ≡ c
byte_view n bytes colour c p h l e = rw (lt-ltb p n l) (byte_state colour c (get_or bytes p 0) h e)

-- on the board an empty point is one whose byte writes no stone
pub view_none : (n : ℕ) (bytes : List ℕ) (colour : Colour) (p : ℕ) → p < n → view n bytes colour p ≡ none → is_stone (get_or bytes p 0) ≡ false
view_none n bytes colour p l e = none_byte colour (get_or bytes p 0) (rw (lt-ltb p n l) at e)

pub none_view : (n : ℕ) (bytes : List ℕ) (colour : Colour) (p : ℕ) → is_stone (get_or bytes p 0) ≡ false → view n bytes colour p ≡ none
none_view n bytes colour p e = elim (cases_Bool (ltb p n)) [ inl l ↦ rw l (byte_none colour (get_or bytes p 0) e) | inr l ↦ rw l refl ]

-- a stone that is seen has a byte that writes one
pub stone_byte_of : (n : ℕ) (bytes : List ℕ) (colour : Colour) (p : ℕ) → view n bytes colour p ≢ none → is_stone (get_or bytes p 0) ≡ true
stone_byte_of n bytes colour p h = elim (cases_Bool (is_stone (get_or bytes p 0))) [ inl e ↦ e | inr e ↦ absurd (h (none_view n bytes colour p e)) ]

-- and back, on the board
pub stone_view : (n : ℕ) (bytes : List ℕ) (colour : Colour) (p : ℕ) → p < n → is_stone (get_or bytes p 0) ≡ true → view n bytes colour p ≢ none
stone_view n bytes colour p l e h = both_ways (is_stone (get_or bytes p 0)) (view_none n bytes colour p l h) e

-- a byte that writes a point and no stone is that of an empty point
pub empty_byte : (byte : ℕ) → is_point byte ≡ true → is_stone byte ≡ false → byte ≡ 46
empty_byte byte e f = elim (or_cases (eqb byte 46) (is_stone byte) e) [ inl g ↦ eqb-true byte 46 g | inr g ↦ absurd (both_ways (is_stone byte) f g) ]

-- a chain as points of one byte
pub chain_linked : (n : ℕ) (bytes : List ℕ) (colour : Colour) {near : Near} (c : State) → c ≢ none → {p q : ℕ} →
    Joined near (view n bytes colour) c p q → Linked near (of_class n bytes (byte_of colour c)) p q
chain_linked n bytes colour c h j =
    linked_map (λ r l. let f = view_byte n bytes colour c r h (joined_last (linked_joined l)) in own_class n bytes (byte_of colour c) r f.0 f.1) (joined_linked j)

-- and back
pub linked_chain : (n : ℕ) (bytes : List ℕ) (colour : Colour) {near : Near} (c : State) → c ≢ none → {p q : ℕ} →
    Linked near (of_class n bytes (byte_of colour c)) p q → Joined near (view n bytes colour) c p q
linked_chain n bytes colour c h l =
    linked_joined (linked_map (λ r m. state_is c (view n bytes colour r)
    (byte_view n bytes colour c r h (linked_inside n bytes (byte_of colour c) m) (linked_class n bytes (byte_of colour c) m))) l)

-- the label of a stone is the first point of its chain
pub chain_first : {n : ℕ} {near : Near} {bytes labels : List ℕ} → Labelled n near bytes 46 labels → (colour : Colour) (c : State) (p : ℕ) → c ≢ none →
    view n bytes colour p ≡ c → First near (of_class n bytes (byte_of colour c)) p (get_or labels p 0)
chain_first {n} {near} {bytes} {labels} w colour c p h e =
    let f = view_byte n bytes colour c p h e in
    subst (λ (k : ℕ). First near (of_class n bytes k) p (get_or labels p 0)) f.1 (w.first p f.0 (λ g. byte_of_stone colour c h (sym f.1 ∙ g)))

-- a stone is joined to its label
pub label_joined : {n : ℕ} {near : Near} {bytes labels : List ℕ} → Labelled n near bytes 46 labels → (colour : Colour) (c : State) (p : ℕ) → c ≢ none →
    view n bytes colour p ≡ c → Joined near (view n bytes colour) c p (get_or labels p 0)
label_joined {n} {near} {bytes} w colour c p h e = linked_chain n bytes colour c h (chain_first w colour c p h e).linked

-- stones of one chain have one label
pub one_label : {n : ℕ} {near : Near} → Graph n near → {bytes labels : List ℕ} → Labelled n near bytes 46 labels → (colour : Colour) (c : State) (p q : ℕ) → c ≢ none →
    Joined near (view n bytes colour) c p q → get_or labels p 0 ≡ get_or labels q 0
one_label {n} {near} g {bytes} w colour c p q h j =
    first_unique (first_along g (chain_linked n bytes colour c h j) (chain_first w colour c p h (joined_first j))) (chain_first w colour c q h (joined_last j))

-- stones of one label are of one chain
pub label_chain : {n : ℕ} {near : Near} → Graph n near → {bytes labels : List ℕ} → Labelled n near bytes 46 labels → (colour : Colour) (c : State) (p q : ℕ) → c ≢ none →
    view n bytes colour p ≡ c → view n bytes colour q ≢ none → get_or labels p 0 ≡ get_or labels q 0 → Joined near (view n bytes colour) c p q
label_chain {n} {near} g {bytes} {labels} w colour c p q h e f s =
    let b : Board = view n bytes colour in
    let j : Joined near b c p (get_or labels q 0) = subst (λ (r : ℕ). Joined near b c p r) s (label_joined w colour c p h e) in
    let k : Joined near b (b q) q (get_or labels q 0) = label_joined w colour (b q) q f refl in
    let same : b q ≡ c = sym (joined_last k) ∙ joined_last j in
    joined_trans j (joined_sym g (subst (λ (d : State). Joined near b d q (get_or labels q 0)) same k))

-- labels of a board that writes only points are those of its chains, seen from either colour
pub labelled_chains : {n : ℕ} {near : Near} → Graph n near → {bytes labels : List ℕ} → Labelled n near bytes 46 labels →
    ((p : ℕ) → p < n → is_point (get_or bytes p 0) ≡ true) → (colour : Colour) → ChainLabels n near (view n bytes colour) labels
labelled_chains {n} {near} g {bytes} {labels} w good colour = record {
  empty = λ p l e. w.out p l (empty_byte (get_or bytes p 0) (good p l) (view_none n bytes colour p l e));
  joined = λ c p h e. label_joined w colour c p h e;
  least = λ c p q h j. (chain_first w colour c p h (joined_first j)).least q (chain_linked n bytes colour c h j);
  one_entry = λ c p q h j. one_label g w colour c p q h j;
  one_chain = λ c p q h e f s. label_chain g w colour c p q h e f s;
}

-- bytes that agree on the board write one board
pub same_view : (n : ℕ) (xs ys : List ℕ) (colour : Colour) → take n xs ≡ take n ys → view n xs colour ≡ view n ys colour
same_view n xs ys colour e = fun_ext at_point
  where
    at_point : (p : ℕ) → view n xs colour p ≡ view n ys colour p
    at_point p =
        elim (cases_Bool (ltb p n)) [
          | inl t ↦
              let l : p < n = ltb-true p n t in
              ap (λ (byte : ℕ). pick (ltb p n) (state_of colour byte) none) (sym (get_or-take n xs p 0 l) ∙ (ap (λ (zs : List ℕ). get_or zs p 0) e ∙ get_or-take n ys p 0 l))
          | inr f ↦ rw f refl
        ]
