-- Labels by first points: what holds while the points are gone through in order, and that there is one labelling.
use Rattle.std.proofs.Common.{◌≡◌, ℕ, ◌+◌, ◌-◌, ◌<◌, ◌≤◌, Bool, true, eqb, ltb, ◌≢◌, List, ◌++◌, length, get_or, drop, replicate, sym, refl, ap, ◌∙◌, subst, inl, inr, le_antisymm, arith}
use Rattle.std.proofs.lemmas.Bool.{cases_eq, cases_lt, eqb-true, ltb-true, and_parts}
use Rattle.std.proofs.lemmas.List.{get_or-drop, ext_get_or, length-drop, get_or_append_left, get_or-replicate, length-replicate}
use Rattle.std.proofs.lemmas.Slice.{drop-append-drop}
use Rattle.grid.specs.Graph.{Near, Graph}
use Rattle.chains.specs.Linked.{Linked, here, step}
use Rattle.chains.specs.Labels.{of_class, First, Labelled}
use Rattle.chains.specs.Walked.{KeptOrNamed, kept, named, Walked}
use Rattle.chains.proofs.Reach.{linked_last, linked_trans, linked_sym}
use Rattle.chains.proofs.Walk.{label_stays, own_class}

-- a point that is linked by the test of a class has that class
pub linked_class : (n : ℕ) (classes : List ℕ) (c : ℕ) {near : Near} {p q : ℕ} → Linked near (of_class n classes c) p q → get_or classes q 0 ≡ c
linked_class n classes c {near} {p} {q} l = eqb-true (get_or classes q 0) c (and_parts (ltb q n) (eqb (get_or classes q 0) c) (linked_last l)).1

-- and lies on the board
pub linked_inside : (n : ℕ) (classes : List ℕ) (c : ℕ) {near : Near} {p q : ℕ} → Linked near (of_class n classes c) p q → q < n
linked_inside n classes c {near} {p} {q} l = ltb-true q n (and_parts (ltb q n) (eqb (get_or classes q 0) c) (linked_last l)).0

-- what holds of each neighbour of one class holds of all that is linked
pub linked_carries : (n : ℕ) (classes : List ℕ) (c : ℕ) {near : Near} {P : ℕ → Type 0} →
    ((q r : ℕ) → q < n → P q → near q r ≡ true → get_or classes r 0 ≡ get_or classes q 0 → P r) →
    {p q : ℕ} → Linked near (of_class n classes c) p q → P p → P q
linked_carries n classes c f (here e) h = h
linked_carries n classes c f (step {q = q} r l s e) h =
    f q r (linked_inside n classes c l) (linked_carries n classes c f l h) s (linked_class n classes c (step r l s e) ∙ sym (linked_class n classes c l))

-- the first points of what is linked to p are one
pub first_unique : {near : Near} {t : ℕ → Bool} {p r s : ℕ} → First near t p r → First near t p s → r ≡ s
first_unique {r = r} {s = s} f g = le_antisymm (f.least s g.linked) (g.least r f.linked)

-- linked points have one first point
pub first_along : {n : ℕ} {near : Near} → Graph n near → {t : ℕ → Bool} {p q r : ℕ} → Linked near t p q → First near t p r → First near t q r
first_along g l f = record { linked = linked_trans (linked_sym g l) f.linked; least = λ x m. f.least x (linked_trans l m) }

-- there is one labelling
pub labelled_unique : {n : ℕ} {near : Near} {classes : List ℕ} {left_out : ℕ} {a b : List ℕ} →
    Labelled n near classes left_out a → Labelled n near classes left_out b → (p : ℕ) → p < n → get_or a p 0 ≡ get_or b p 0
labelled_unique {classes = classes} {left_out = left_out} f g p l = elim (cases_eq (get_or classes p 0) left_out) [
  | inl e ↦ f.out p l e ∙ sym (g.out p l e)
  | inr e ↦ first_unique (f.first p l e) (g.first p l e)
]

-- the points below p are gone through
pub record Labelling (n : ℕ) (near : Near) (classes : List ℕ) (left_out : ℕ) (start labels : List ℕ) (p : ℕ) : Type 0 where
  pub out : (q : ℕ) → q < n → get_or classes q 0 ≡ left_out → get_or labels q 0 ≡ 65535
  pub done : (q : ℕ) → q < p → get_or classes q 0 ≢ left_out → get_or labels q 0 ≢ 65535
  pub first : (q : ℕ) → q < n → get_or labels q 0 ≢ 65535 → First near (of_class n classes (get_or classes q 0)) q (get_or labels q 0)
  pub closed : (q r : ℕ) → q < n → get_or labels q 0 ≢ 65535 → near q r ≡ true → get_or classes r 0 ≡ get_or classes q 0 → get_or labels r 0 ≢ 65535
  pub past : (q : ℕ) → n ≤ q → get_or labels q 0 ≡ get_or start q 0

-- no point has a label yet
pub labelling_start : {n : ℕ} {near : Near} {classes : List ℕ} {left_out : ℕ} {start : List ℕ} →
    ((q : ℕ) → q < n → get_or start q 0 ≡ 65535) → Labelling n near classes left_out start start 0
labelling_start free = record {
  out = λ q l e. free q l;
  done = λ q l e. absurd (omega arith);
  first = λ q l e. absurd (e (free q l));
  closed = λ q r l e. absurd (e (free q l));
  past = λ q l. refl;
}

-- p is left out or has a label
pub labelling_skip : {n : ℕ} {near : Near} {classes : List ℕ} {left_out : ℕ} {start labels after : List ℕ} {p : ℕ} →
    Labelling n near classes left_out start labels p → after ≡ labels → (get_or classes p 0 ≢ left_out → get_or labels p 0 ≢ 65535) →
    Labelling n near classes left_out start after (p + 1)
labelling_skip {n} {near} {classes} {left_out} {start} {labels} {after} {p} w is f = subst (λ (x : List ℕ). Labelling n near classes left_out start x (p + 1)) (sym is) (record {
  out = w.out;
  done = λ q l e. elim (cases_eq p q) [
    | inl s ↦ subst (λ (i : ℕ). get_or classes i 0 ≢ left_out → get_or labels i 0 ≢ 65535) s f e
    | inr s ↦ w.done q (omega arith) e
  ];
  first = w.first;
  closed = w.closed;
  past = w.past;
})

-- a walk from p, which is the first of what it reaches
pub labelling_step : {n : ℕ} {near : Near} → Graph n near → {classes : List ℕ} {left_out : ℕ} {start labels new after : List ℕ} {p : ℕ} →
    Labelling n near classes left_out start labels p → after ≡ new → n ≤ 361 → p < n → get_or classes p 0 ≢ left_out → get_or labels p 0 ≡ 65535 →
    Walked n near classes p p labels new → Labelling n near classes left_out start after (p + 1)
labelling_step {n} {near} g {classes} {left_out} {start} {labels} {new} {after} {p} w is few inside in_class free d = subst (λ (x : List ℕ). Labelling n near classes left_out start x (p + 1)) (sym is) (record {
  out = λ q l e. out q l e (d.entries q);
  done = λ q l e. elim (cases_eq p q) [
    | inl s ↦ subst (λ (i : ℕ). get_or new i 0 ≢ 65535) s (λ f. omega (arith, d.there))
    | inr s ↦ label_stays (d.entries q) (w.done q (omega arith) e)
  ];
  first = λ q l e. first q l e (d.entries q);
  closed = λ q r l e s c. elim (cases_eq (get_or labels q 0) 65535) [
    | inl f ↦ d.closed q r f e s c
    | inr f ↦ label_stays (d.entries r) (w.closed q r l f s c)
  ];
  past = λ q l. past q l (d.entries q);
})
  where
    out : (q : ℕ) → q < n → get_or classes q 0 ≡ left_out → KeptOrNamed n near classes p p labels new q → get_or new q 0 ≡ 65535
    out q l e (kept f) = f ∙ w.out q l e
    out q l e (named was now_is k) = absurd (in_class (sym (linked_class n classes (get_or classes p 0) k) ∙ e))

    past : (q : ℕ) → n ≤ q → KeptOrNamed n near classes p p labels new q → get_or new q 0 ≡ get_or start q 0
    past q l (kept f) = f ∙ w.past q l
    past q l (named was now_is k) = absurd (omega (arith, linked_inside n classes (get_or classes p 0) k))

    -- a smaller point that is linked to p would have a label, and so would p
    least : (x : ℕ) → Linked near (of_class n classes (get_or classes p 0)) p x → p ≤ x
    least x k = elim (cases_lt x p) [
      | inl l ↦ absurd (linked_carries n classes (get_or classes p 0) {P = λ q. get_or labels q 0 ≢ 65535} w.closed (linked_sym g k)
          (w.done x l (λ e. in_class (sym (linked_class n classes (get_or classes p 0) k) ∙ e))) free)
      | inr l ↦ l
    ]

    first : (q : ℕ) → q < n → get_or new q 0 ≢ 65535 → KeptOrNamed n near classes p p labels new q → First near (of_class n classes (get_or classes q 0)) q (get_or new q 0)
    first q l e (kept f) = subst (λ (i : ℕ). First near (of_class n classes (get_or classes q 0)) q i) (sym f) (w.first q l (λ h. e (f ∙ h)))
    first q l e (named was now_is k) =
        subst (λ (i : ℕ). First near (of_class n classes (get_or classes q 0)) q i) (sym now_is)
        (subst (λ (c : ℕ). First near (of_class n classes c) q p) (sym (linked_class n classes (get_or classes p 0) k))
        (first_along g k (record { linked = here (own_class n classes (get_or classes p 0) p inside refl); least = least })))

-- all points are gone through
pub labelling_end : {n : ℕ} {near : Near} {classes : List ℕ} {left_out : ℕ} {start labels : List ℕ} {p : ℕ} →
    Labelling n near classes left_out start labels p → n ≤ p → Labelled n near classes left_out labels
labelling_end w all = record { out = w.out; first = λ q l e. w.first q l (w.done q (omega arith) e) }

-- what lies past the board is unchanged
pub past_same : {n : ℕ} (a b : List ℕ) → length a ≡ length b → ((q : ℕ) → n ≤ q → get_or a q 0 ≡ get_or b q 0) → drop n a ≡ drop n b
past_same {n} a b e f =
    ext_get_or 0 (drop n a) (drop n b) (length-drop n a ∙ (ap (λ m. m - n) e ∙ sym (length-drop n b)))
    (λ i l. get_or-drop n a i 0 ∙ (f (n + i) (omega arith) ∙ sym (get_or-drop n b i 0)))

-- after the labels of the first n points were taken off: they have none, and the others are as they were
pub taken_off : (n q : ℕ) (old : List ℕ) → q < n → get_or (replicate n 65535 ++ drop n old) q 0 ≡ 65535
taken_off n q old l =
    let long : q < length (replicate n 65535) = omega (arith, length-replicate {A = ℕ} n 65535) in
    get_or_append_left (replicate n 65535) (drop n old) 0 q long ∙ get_or-replicate {A = ℕ} n q 65535 0 l

pub others_kept : (n : ℕ) (old : List ℕ) → drop n (replicate n 65535 ++ drop n old) ≡ drop n old
others_kept n old = drop-append-drop n old (replicate n 65535) n (omega arith) (length-replicate {A = ℕ} n 65535)
