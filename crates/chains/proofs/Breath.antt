-- Stones without breath: the computed tests against what they say, the first such stone, and boards that can stand.
use Rattle.std.proofs.Common.{◌≡◌, ℕ, zero, suc, ◌<◌, ◌≤◌, Bool, true, false, cond, eqb, ltb, ◌≢◌, ◌⊎◌, List, get_or, None, sym, refl, ap, ◌∙◌, subst, inl, inr, arith}
use Rattle.std.proofs.lemmas.Bool.{both_ways, cases_Bool, cases_eq, cases_lt, cases_order, eqb-true, ne_eqb, ltb-true, ltb-false, le-leb, lt-leb, or_cases, or_left, or_right}
use Rattle.grid.specs.Graph.{Near, Graph}
use Rattle.chains.specs.Board.{pick, State, none, mine, yours, Board, Joined, at, on, Breathes}
use Rattle.chains.specs.Breath.{calm, first_failing, first_breathless, stand_refusal, BreathesAt, BreathlessFrom, FirstBreathless}
use Rattle.chains.specs.Computed.{is_state, breathing}
use Rattle.chains.specs.Stands.{Stand}
use Rattle.chains.specs.Views.{other, view}
use Rattle.chains.specs.declared.colour.Colour.{Colour}
use Rattle.chains.specs.declared.colour.Colour.TheVariants.{Black, White}
use Rattle.chains.proofs.States.{is_state_true, state_is, none_mine, none_yours}
use Rattle.chains.proofs.Chain.{joined_first, joined_last, breathing_breathes, breathes_breathing, breathes_along}

-- a stone on a calm point breathes
pub calm_breathes : {n : ℕ} {near : Near} → Graph n near → (b : Board) (c : State) (p : ℕ) → c ≢ none → b p ≡ c → calm n near b p ≡ true → Breathes near b c p
unfolding calm
calm_breathes {n} {near} g b c p h e k = elim (or_cases (is_state none (b p)) (breathing n near b (b p) p) k) [
  | inl f ↦ absurd (h (sym e ∙ is_state_true none (b p) f))
  | inr f ↦ subst (λ (s : State). Breathes near b s p) e (breathing_breathes g b (b p) p f)
]

-- a point is calm where its stone breathes, if one stands there
pub breathes_calm : {n : ℕ} {near : Near} → Graph n near → (b : Board) (p : ℕ) → (b p ≢ none → Breathes near b (b p) p) → calm n near b p ≡ true
unfolding calm
breathes_calm {n} {near} g b p f = elim (cases_Bool (is_state none (b p))) [
  | inl e ↦ or_left (is_state none (b p)) (breathing n near b (b p) p) e
  | inr e ↦ or_right (is_state none (b p)) (breathing n near b (b p) p)
      (breathes_breathing g b (b p) p (f (λ z. both_ways (is_state none (b p)) e (state_is none (b p) z))))
]

-- a point whose stone does not breathe is not calm
pub breathless_not_calm : {n : ℕ} {near : Near} → Graph n near → (b : Board) (p : ℕ) → b p ≢ none → (Breathes near b (b p) p → ⊥) → calm n near b p ≡ false
breathless_not_calm {n} {near} g b p h f = elim (cases_Bool (calm n near b p)) [ inl e ↦ absurd (f (calm_breathes g b (b p) p h refl e)) | inr e ↦ e ]

-- r is the first point below k that fails, or k
pub record LeastFailing (t : ℕ → Bool) (k r : ℕ) : Type 0 where
  pub bound : r ≤ k
  pub before : (j : ℕ) → j < r → t j ≡ true
  pub fails : r < k → t r ≡ false

-- that is what is computed
pub first_failing_least : (t : ℕ → Bool) (k : ℕ) → LeastFailing t k (first_failing t k)
unfolding first_failing
first_failing_least t zero = record { bound = omega arith; before = λ j l. absurd (omega arith); fails = λ l. absurd (omega arith) }
first_failing_least t (suc k) = join (first_failing t k) (first_failing_least t k) (cases_Bool (ltb (first_failing t k) k)) (cases_Bool (t k))
  where
    join : (r : ℕ) → LeastFailing t k r → (ltb r k ≡ true) ⊎ (ltb r k ≡ false) → (t k ≡ true) ⊎ (t k ≡ false) → LeastFailing t (suc k) (cond (ltb r k) r (cond (t k) (suc k) k))
    join r w (inl e) d = rw e (record { bound = omega (arith, w.bound); before = w.before; fails = λ l. w.fails (ltb-true r k e) })
    join r w (inr e) (inl f) = rw (e, f) (record {
      bound = omega arith;
      before = λ j l. elim (cases_eq k j) [ inl s ↦ subst (λ (i : ℕ). t i ≡ true) s f | inr s ↦ w.before j (omega (arith, ltb-false r k e)) ];
      fails = λ l. absurd (omega arith);
    })
    join r w (inr e) (inr f) = rw (e, f) (record {
      bound = omega arith;
      before = λ j l. w.before j (omega (arith, ltb-false r k e));
      fails = λ l. f;
    })

-- and there is one
pub least_failing_unique : {t : ℕ → Bool} {k r s : ℕ} → LeastFailing t k r → LeastFailing t k s → r ≡ s
least_failing_unique {t} {k} {r} {s} v w = elim (cases_order r s) [
  | inl e ↦ e
  | inr o ↦ elim o [
    | inl l ↦ absurd (both_ways (t r) (v.fails (omega (arith, w.bound))) (w.before r l))
    | inr l ↦ absurd (both_ways (t s) (w.fails (omega (arith, v.bound))) (v.before s l))
  ]
]

-- a point is the first breathless one exactly if it is the least that is not calm
pub first_breathless_is : (n : ℕ) (near : Near) (b : Board) {r : ℕ} → LeastFailing (calm n near b) n r → first_breathless n near b ≡ r
unfolding first_breathless
first_breathless_is n near b w = least_failing_unique (first_failing_least (calm n near b) n) w

-- the first breathless point is the least that is not calm
pub first_breathless_least : (n : ℕ) (near : Near) (b : Board) → LeastFailing (calm n near b) n (first_breathless n near b)
unfolding first_breathless
first_breathless_least n near b = first_failing_least (calm n near b) n

-- where every point is calm, the board can stand
pub calm_stand : {n : ℕ} {near : Near} → Graph n near → (b : Board) → ((p : ℕ) → b p ≢ none → p < n) → ((p : ℕ) → p < n → calm n near b p ≡ true) → Stand n near b
calm_stand {n} {near} g b inside f = record {
  inside = inside;
  mine_breathe = λ p e. breathe mine p (λ s. none_mine s refl) e;
  yours_breathe = λ p e. breathe yours p (λ s. none_yours s refl) e;
}
  where
    breathe : (c : State) (p : ℕ) → c ≢ none → b p ≡ c → Breathes near b c p
    breathe c p h e = calm_breathes g b c p h e (f p (inside p (λ z. h (sym e ∙ z))))

-- a stone of a board that can stand breathes, whatever its state
pub stand_breathes : {n : ℕ} {near : Near} {b : Board} → Stand n near b → (c : State) (p : ℕ) → c ≢ none → b p ≡ c → Breathes near b c p
stand_breathes w none p h e = absurd (h refl)
stand_breathes w mine p h e = w.mine_breathe p e
stand_breathes w yours p h e = w.yours_breathe p e

-- a board that can stand has no first breathless point
pub stand_first : {n : ℕ} {near : Near} → Graph n near → {b : Board} → Stand n near b → first_breathless n near b ≡ n
stand_first {n} {near} g {b} w = first_breathless_is n near b (record {
  bound = omega arith;
  before = λ j l. breathes_calm g b j (λ h. stand_breathes w (b j) j h refl);
  fails = λ l. absurd (omega arith);
})

-- and is not refused
pub stand_not_refused : {n : ℕ} {near : Near} → Graph n near → {b : Board} → Stand n near b → stand_refusal n near b ≡ None
stand_not_refused {n} {near} g {b} w = rw (le-leb n (first_breathless n near b) (omega (arith, stand_first g w))) refl

-- a board that is not refused can stand, if nothing is seen off its points
pub not_refused_stand : {n : ℕ} {near : Near} → Graph n near → (b : Board) → ((p : ℕ) → b p ≢ none → p < n) → stand_refusal n near b ≡ None → Stand n near b
not_refused_stand {n} {near} g b inside e = calm_stand g b inside (λ p l. (first_breathless_least n near b).before p (omega (arith, reached (cases_lt (first_breathless n near b) n))))
  where
    reached : (first_breathless n near b < n) ⊎ (n ≤ first_breathless n near b) → n ≤ first_breathless n near b
    reached (inl l) = absurd (let f = rw (lt-leb n (first_breathless n near b) l) at e in let z : ◌≡◌ {A = ℕ} 0 1 = cc in omega arith)
    reached (inr l) = l

-- what is found from the first point on is the first breathless point
pub from_first : {n : ℕ} {near : Near} → Graph n near → {b : Board} {from r : ℕ} → from ≡ 0 → BreathlessFrom n near b from r → first_breathless n near b ≡ r
from_first {n} {near} g {b} {from} {r} z w = first_breathless_is n near b (record {
  bound = w.bound;
  before = λ j l. breathes_calm g b j (λ h. w.before (b j) j (omega arith) l h refl);
  fails = λ l. breathless_not_calm g b r (w.stone l) (w.breathless (b r) l (w.stone l) refl);
})

-- and the first stone of its chain
pub found_first : {n : ℕ} {near : Near} → Graph n near → {b : Board} {from r : ℕ} → from ≡ 0 → BreathlessFrom n near b from r → r < n → FirstBreathless near b r
found_first {n} {near} g {b} {from} {r} z w l = record {
  stone = w.stone l;
  breathless = λ c h e. w.breathless c l h e;
  before = λ c q m h e. w.before c q (omega arith) m h e;
  first = λ c q h j. elim (cases_lt q r) [
    | inl m ↦ absurd (w.breathless c l h (joined_first j) (breathes_along j (w.before c q (omega arith) m h (joined_last j))))
    | inr m ↦ m
  ];
}

-- where none is found the board can stand
pub none_found : {n : ℕ} {near : Near} → Graph n near → {b : Board} {from r : ℕ} → from ≡ 0 → ((p : ℕ) → b p ≢ none → p < n) → BreathlessFrom n near b from r → n ≤ r → Stand n near b
none_found {n} {near} g {b} {from} {r} z inside w l =
    calm_stand g b inside (λ p m. breathes_calm g b p (λ h. w.before (b p) p (omega arith) (omega arith) h refl))

-- a state as the other side sees it
abbrev pub turned : State → State
turned none = none
turned mine = yours
turned yours = mine

turned_none : (s : State) → turned s ≡ none → s ≡ none
turned_none none e = refl
turned_none mine e = absurd (none_yours e refl)
turned_none yours e = absurd (none_mine e refl)

-- a chain as the other side sees it
pub joined_turned : {near : Near} {b d : Board} {c : State} {p q : ℕ} → ((r : ℕ) → d r ≡ turned (b r)) → Joined near b c p q → Joined near d (turned c) p q
joined_turned f (at {p = p} e) = at (f p ∙ ap turned e)
joined_turned f (on r j s e) = on r (joined_turned f j) s (f r ∙ ap turned e)

-- breath as the other side sees it
pub breathes_turned : {near : Near} {b d : Board} {c : State} {p : ℕ} → ((r : ℕ) → d r ≡ turned (b r)) → Breathes near b c p → Breathes near d (turned c) p
breathes_turned f w = record { stone = w.stone; chain = joined_turned f w.chain; empty = w.empty; next = w.next; is = f w.empty ∙ ap turned w.is }

calm_turned : {n : ℕ} {near : Near} → Graph n near → (b d : Board) → ((r : ℕ) → d r ≡ turned (b r)) → (p : ℕ) → calm n near b p ≡ true → calm n near d p ≡ true
calm_turned {n} {near} g b d f p e = breathes_calm g d p (λ h.
    subst (λ (s : State). Breathes near d s p) (sym (f p)) (breathes_turned f (calm_breathes g b (b p) p (λ z. h (f p ∙ ap turned z)) refl e)))

picks_turned : (l x y : Bool) → (x ≡ true → y ≡ false) → pick l (pick y mine (pick x yours none)) none ≡ turned (pick l (pick x mine (pick y yours none)) none)
picks_turned false x y h = refl
picks_turned true true true h = absurd (both_ways true (h refl) refl)
picks_turned true true false h = refl
picks_turned true false true h = refl
picks_turned true false false h = refl

-- what the other side sees
pub view_turned : (n : ℕ) (bytes : List ℕ) (colour : Colour) (p : ℕ) → view n bytes (other colour) p ≡ turned (view n bytes colour p)
view_turned n bytes Black p = picks_turned (ltb p n) (eqb (get_or bytes p 0) 88) (eqb (get_or bytes p 0) 79) (λ e. ne_eqb (get_or bytes p 0) 79 (λ f. omega (arith, eqb-true (get_or bytes p 0) 88 e)))
view_turned n bytes White p = picks_turned (ltb p n) (eqb (get_or bytes p 0) 79) (eqb (get_or bytes p 0) 88) (λ e. ne_eqb (get_or bytes p 0) 88 (λ f. omega (arith, eqb-true (get_or bytes p 0) 79 e)))

-- the first breathless point is the same to both sides
pub first_breathless_turned : {n : ℕ} {near : Near} → Graph n near → (bytes : List ℕ) (colour : Colour) →
    first_breathless n near (view n bytes (other colour)) ≡ first_breathless n near (view n bytes colour)
first_breathless_turned {n} {near} g bytes colour = first_breathless_is n near (view n bytes (other colour)) (record {
  bound = least.bound;
  before = λ j l. calm_turned g (view n bytes colour) (view n bytes (other colour)) (view_turned n bytes colour) j (least.before j l);
  fails = λ l. elim (cases_Bool (calm n near (view n bytes (other colour)) r)) [
    | inl e ↦ absurd (both_ways (calm n near (view n bytes colour) r) (least.fails l) (calm_turned g (view n bytes (other colour)) (view n bytes colour) (back colour) r e))
    | inr e ↦ e
  ];
})
  where
    r : ℕ
    r = first_breathless n near (view n bytes colour)

    least : LeastFailing (calm n near (view n bytes colour)) n (first_breathless n near (view n bytes colour))
    least = first_breathless_least n near (view n bytes colour)

    back : (k : Colour) (p : ℕ) → view n bytes k p ≡ turned (view n bytes (other k) p)
    back Black p = view_turned n bytes White p
    back White p = view_turned n bytes Black p

-- an answer that says whether the stone at p breathes is what is computed
pub breathes_at_is : {n : ℕ} {near : Near} → Graph n near → {b : Board} {p : ℕ} {answer : Bool} → BreathesAt near b p answer → (c : State) → c ≢ none → b p ≡ c → answer ≡ breathing n near b c p
breathes_at_is {n} {near} g {b} {p} {answer} w c h e = elim (cases_Bool answer) [
  | inl t ↦ t ∙ sym (breathes_breathing g b c p (w.sound c h e t))
  | inr f ↦ f ∙ sym (not_breathing f (cases_Bool (breathing n near b c p)))
]
  where
    not_breathing : answer ≡ false → (breathing n near b c p ≡ true) ⊎ (breathing n near b c p ≡ false) → breathing n near b c p ≡ false
    not_breathing f (inl t) = absurd (both_ways answer f (w.complete c h e (breathing_breathes g b c p t)))
    not_breathing f (inr s) = s
