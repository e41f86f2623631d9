-- Chains that breathe: what holds while their labels are marked.
use Rattle.std.proofs.Common.{◌≡◌, ℕ, ◌+◌, ◌<◌, ◌≤◌, Bool, true, false, ◌&&◌, ltb, ◌≢◌, ◌⊎◌, List, [], ◌∷◌, ◌++◌, length, get_or, set, replicate, Some, None, Option, sym, refl, ap, ◌∙◌, subst, inl, inr, arith}
use Rattle.std.proofs.lemmas.Bool.{both_ways, cases_eq, cases_lt, lt-ltb, le-ltb, ltb-true, and_parts, and_from}
use Rattle.std.proofs.lemmas.List.{get_or-set_same, get_or-set_other, length-set, length-replicate, get_or-replicate, get_or_past}
use Rattle.std.proofs.lemmas.List.Elements.{Contains-push_cases}
use Rattle.std.specs.List.{Contains}
use Rattle.grid.specs.Graph.{Near, Graph}
use Rattle.chains.specs.Board.{State, none, Breathes}
use Rattle.chains.specs.Labels.{Labelled}
use Rattle.chains.specs.Views.{is_stone, view}
use Rattle.chains.specs.Marks.{Beside, MarkedBeside, MarkedBelow, stone_mark, BreathMarks}
use Rattle.chains.specs.declared.colour.Colour.{Colour}
use Rattle.chains.proofs.Chain.{joined_last}
use Rattle.chains.proofs.Labelling.{linked_inside}
use Rattle.chains.proofs.Views.{view_byte, view_none, none_view, stone_byte_of, stone_view, one_label, label_chain}

-- the neighbours xs of x are gone through
pub record Marking (near : Near) (cells labels : List ℕ) (x : ℕ) (old new : List Bool) (xs : List ℕ) : Type 0 where
  pub sound : (r : ℕ) → get_or new r false ≡ true → (get_or old r false ≡ true) ⊎ Beside near cells labels x r
  pub kept : (r : ℕ) → get_or old r false ≡ true → get_or new r false ≡ true
  pub seen : (q : ℕ) → Contains xs q → is_stone (get_or cells q 0) ≡ true → get_or new (get_or labels q 0) false ≡ true

-- nothing is gone through yet
pub marking_start : {near : Near} {cells labels : List ℕ} {x : ℕ} {old : List Bool} → Marking near cells labels x old old []
marking_start = record { sound = λ r e. inl e; kept = λ r e. e; seen = λ q c s. absurd (omega (arith, c.1)) }

more : {near : Near} {cells labels : List ℕ} {x : ℕ} {old new after : List Bool} {xs : List ℕ} (q : ℕ) →
    Marking near cells labels x old new xs → after ≡ new →
    (is_stone (get_or cells q 0) ≡ true → get_or new (get_or labels q 0) false ≡ true) →
    Marking near cells labels x old after (xs ++ q ∷ [])
more {near} {cells} {labels} {x} {old} {new} {after} {xs} q w is f = subst (λ (m : List Bool). Marking near cells labels x old m (xs ++ q ∷ [])) (sym is) (record {
  sound = w.sound;
  kept = w.kept;
  seen = λ r c. elim (Contains-push_cases xs q r c) [
    | inl was ↦ w.seen r was
    | inr e ↦ subst (λ (i : ℕ). is_stone (get_or cells i 0) ≡ true → get_or new (get_or labels i 0) false ≡ true) e f
  ];
})

-- the next neighbour is no stone
pub marking_past : {near : Near} {cells labels : List ℕ} {x : ℕ} {old new after : List Bool} {xs : List ℕ} (q : ℕ) →
    Marking near cells labels x old new xs → after ≡ new → is_stone (get_or cells q 0) ≡ false → Marking near cells labels x old after (xs ++ q ∷ [])
marking_past {cells = cells} q w is e = more q w is (λ s. absurd (both_ways (is_stone (get_or cells q 0)) e s))

-- the next neighbour's label is marked
pub marking_step : {near : Near} {cells labels : List ℕ} {x : ℕ} {old new after : List Bool} {xs : List ℕ} {q : ℕ} →
    Marking near cells labels x old new xs → after ≡ set new (get_or labels q 0) true → near x q ≡ true →
    get_or labels q 0 < length new → is_stone (get_or cells q 0) ≡ true → Marking near cells labels x old after (xs ++ q ∷ [])
marking_step {near} {cells} {labels} {x} {old} {new} {after} {xs} {q} w is next long stone =
    more q (record {
      sound = λ r e. elim (cases_eq r (get_or labels q 0)) [
        | inl same ↦ inr (record { stone = q; next = next; is = stone; label = sym same })
        | inr other ↦ w.sound r (sym (get_or-set_other new (get_or labels q 0) r true false other) ∙ e)
      ];
      kept = λ r e. stays r (w.kept r e);
      seen = λ r c s. stays (get_or labels r 0) (w.seen r c s);
    }) is
    (λ s. get_or-set_same new (get_or labels q 0) true false long)
  where
    stays : (r : ℕ) → get_or new r false ≡ true → get_or (set new (get_or labels q 0) true) r false ≡ true
    stays r e = elim (cases_eq r (get_or labels q 0)) [
      | inl same ↦ subst (λ (i : ℕ). get_or (set new (get_or labels q 0) true) i false ≡ true) (sym same) (get_or-set_same new (get_or labels q 0) true false long)
      | inr other ↦ get_or-set_other new (get_or labels q 0) r true false other ∙ e
    ]

-- all neighbours are gone through
pub marking_end : {near : Near} {cells labels : List ℕ} {x : ℕ} {old new : List Bool} {xs : List ℕ} →
    ((q : ℕ) → near x q ≡ true → Contains xs q) → Marking near cells labels x old new xs → MarkedBeside near cells labels x old new
marking_end complete w = record {
  sound = w.sound;
  kept = w.kept;
  complete = λ q s. w.seen q (complete q s);
}

-- no empty point is gone through yet
pub marked_start : {near : Near} {cells labels : List ℕ} {marks : List Bool} → ((r : ℕ) → get_or marks r false ≡ false) → MarkedBelow near cells labels 0 marks
marked_start {marks = marks} f = record {
  sound = λ r e. absurd (both_ways (get_or marks r false) (f r) e);
  complete = λ x q l e s t. absurd (omega arith);
}

-- a stone stands at p
pub marked_skip : {near : Near} {cells labels : List ℕ} {marks after : List Bool} {p : ℕ} →
    MarkedBelow near cells labels p marks → after ≡ marks → is_stone (get_or cells p 0) ≡ true → MarkedBelow near cells labels (p + 1) after
marked_skip {near} {cells} {labels} {marks} {after} {p} w is f = subst (λ (m : List Bool). MarkedBelow near cells labels (p + 1) m) (sym is) (record {
  sound = w.sound;
  complete = λ x q l e s t. elim (cases_eq x p) [
    | inl same ↦ absurd (both_ways (is_stone (get_or cells p 0)) (subst (λ (i : ℕ). is_stone (get_or cells i 0) ≡ false) same e) f)
    | inr other ↦ w.complete x q (omega arith) e s t
  ];
})

-- p is empty, and what is beside it is marked
pub marked_step : {near : Near} {cells labels : List ℕ} {marks new after : List Bool} {p : ℕ} →
    MarkedBelow near cells labels p marks → after ≡ new → is_stone (get_or cells p 0) ≡ false → MarkedBeside near cells labels p marks new →
    MarkedBelow near cells labels (p + 1) after
marked_step {near} {cells} {labels} {marks} {new} {after} {p} w is f d = subst (λ (m : List Bool). MarkedBelow near cells labels (p + 1) m) (sym is) (record {
  sound = λ r e. elim (d.sound r e) [ inl was ↦ w.sound r was | inr here ↦ (p, f, here) ];
  complete = λ x q l e s t. elim (cases_eq x p) [
    | inl same ↦ d.complete q (subst (λ (i : ℕ). near i q ≡ true) same s) t
    | inr other ↦ d.kept (get_or labels q 0) (w.complete x q (omega arith) e s t)
  ];
})

-- all points are gone through
pub marked_end : {near : Near} {cells labels : List ℕ} {marks : List Bool} {p : ℕ} (n : ℕ) → n ≤ p → MarkedBelow near cells labels p marks → MarkedBelow near cells labels n marks
marked_end n l w = record { sound = w.sound; complete = λ x q m e s t. w.complete x q (omega arith) e s t }

-- where every entry is false, no point is marked
pub unmarked : (n q : ℕ) → get_or (replicate n false) q false ≡ false
unmarked n q = elim (cases_lt q n) [
  | inl l ↦ get_or-replicate n q false false l
  | inr l ↦ get_or_past (replicate n false) q false (omega (arith, length-replicate n false))
]

-- the first p entries are what the test gives, and the others false
pub record StonesMarked (t : ℕ → Bool) (marks : List Bool) (p : ℕ) : Type 0 where
  pub long : length marks ≡ 361
  pub below : (q : ℕ) → q < p → get_or marks q false ≡ t q
  pub above : (q : ℕ) → p ≤ q → get_or marks q false ≡ false

-- nothing is marked yet
pub stones_start : {t : ℕ → Bool} → StonesMarked t (replicate 361 false) 0
stones_start = record { long = length-replicate {A = Bool} 361 false; below = λ q l. absurd (omega arith); above = λ q l. unmarked 361 q }

-- one entry more
pub stones_step : {t : ℕ → Bool} {marks : List Bool} {p : ℕ} {m : Bool} → StonesMarked t marks p → p < 361 → m ≡ t p → StonesMarked t (set marks p m) (p + 1)
stones_step {t} {marks} {p} {m} w l e = record {
  long = length-set marks p m ∙ w.long;
  below = λ q k. elim (cases_eq q p) [
    | inl same ↦ subst (λ (i : ℕ). get_or (set marks p m) i false ≡ t i) (sym same) (get_or-set_same marks p m false (omega (arith, w.long)) ∙ e)
    | inr other ↦ get_or-set_other marks p q m false other ∙ w.below q (omega arith)
  ];
  above = λ q k. get_or-set_other marks p q m false (λ s. omega arith) ∙ w.above q (omega arith);
}

-- all points are gone through, and past them the test gives nothing
pub stones_end : {t : ℕ → Bool} {marks : List Bool} {n p : ℕ} → ((q : ℕ) → n ≤ q → t q ≡ false) → StonesMarked t marks p → p ≡ n → (q : ℕ) → get_or marks q false ≡ t q
stones_end {t} {marks} {n} {p} past w e q = elim (cases_lt q p) [
  | inl l ↦ w.below q l
  | inr l ↦ w.above q l ∙ sym (past q (omega arith))
]

-- past the board there is no mark
pub no_mark_past : (n : ℕ) (cells labels : List ℕ) (chains : List Bool) (p : ℕ) → n ≤ p → stone_mark n cells labels chains p ≡ false
no_mark_past n cells labels chains p l = rw (le-ltb p n l) refl

-- labels of stones are points
pub label_inside : {n : ℕ} {near : Near} {cells labels : List ℕ} → Labelled n near cells 46 labels → (q : ℕ) → q < n → is_stone (get_or cells q 0) ≡ true → get_or labels q 0 < n
label_inside {n} {near} {cells} {labels} w q l e =
    linked_inside n cells (get_or cells q 0) (w.first q l (λ f. both_ways (is_stone (get_or cells q 0)) (ap is_stone f) e)).linked

-- the marks of stones say whether their chains breathe, seen from either colour
pub breath_marks : {n : ℕ} {near : Near} → Graph n near → {cells labels : List ℕ} {chains : List Bool} (marks : List Bool) →
    Labelled n near cells 46 labels → MarkedBelow near cells labels n chains → ((p : ℕ) → get_or marks p false ≡ stone_mark n cells labels chains p) →
    (colour : Colour) → BreathMarks near (view n cells colour) marks
breath_marks {n} {near} g {cells} {labels} {chains} marks w d f colour p = record {
  stone = λ e. let m = parts p e in stone_view n cells colour p m.0 m.1;
  sound = λ c h e m. breathes c p h e (d.sound (get_or labels p 0) (parts p m).2);
  complete = λ c h e m. marked c p h e m;
}
  where
    parts : (p : ℕ) → get_or marks p false ≡ true → (p < n) × (is_stone (get_or cells p 0) ≡ true) × (get_or chains (get_or labels p 0) false ≡ true)
    parts p e =
        let a = and_parts (ltb p n && is_stone (get_or cells p 0)) (get_or chains (get_or labels p 0) false) (sym (f p) ∙ e) in
        let b = and_parts (ltb p n) (is_stone (get_or cells p 0)) a.0 in
        (ltb-true p n b.0, b.1, a.1)

    breathes : (c : State) (p : ℕ) → c ≢ none → view n cells colour p ≡ c →
        (x : ℕ) × (is_stone (get_or cells x 0) ≡ false) × Beside near cells labels x (get_or labels p 0) → Breathes near (view n cells colour) c p
    breathes c p h e s =
        let t = s.2 in
        let back : near t.stone s.0 ≡ true = g.symmetric s.0 t.stone t.next in
        record {
          stone = t.stone;
          chain = label_chain g w colour c p t.stone h e (stone_view n cells colour t.stone (g.inside t.stone s.0 back) t.is) (sym t.label);
          empty = s.0;
          next = back;
          is = none_view n cells colour s.0 s.1;
        }

    marked : (c : State) (p : ℕ) → c ≢ none → view n cells colour p ≡ c → Breathes near (view n cells colour) c p → get_or marks p false ≡ true
    marked c p h e t =
        let back : near t.empty t.stone ≡ true = g.symmetric t.stone t.empty t.next in
        let inside : t.empty < n = g.inside t.empty t.stone back in
        let one : get_or labels p 0 ≡ get_or labels t.stone 0 = one_label g w colour c p t.stone h t.chain in
        let mark = d.complete t.empty t.stone inside (view_none n cells colour t.empty inside t.is) back
        (stone_byte_of n cells colour t.stone (λ z. h (sym (joined_last t.chain) ∙ z))) in
        f p ∙ and_from (ltb p n && is_stone (get_or cells p 0)) (get_or chains (get_or labels p 0) false)
        (and_from (ltb p n) (is_stone (get_or cells p 0)) (lt-ltb p n (view_byte n cells colour c p h e).0) (stone_byte_of n cells colour p (λ z. h (sym e ∙ z))))
        (subst (λ (r : ℕ). get_or chains r false ≡ true) (sym one) mark)
