-- A walk over the points of one class: what holds while the neighbours of p are gone through, and that ever fewer points have no label.
use Rattle.std.proofs.Common.{◌≡◌, ℕ, ◌+◌, ◌<◌, ◌≤◌, Bool, true, eqb, ltb, ◌≢◌, ◌⊎◌, List, [], ◌∷◌, ◌++◌, length, get_or, set, Some, None, Option, sym, refl, ap, ◌∙◌, subst, inl, inr, arith}
use Rattle.std.proofs.lemmas.Bool.{cases_eq, eqb-true, eq-eqb, ne_eqb, lt-ltb, and_from, cond-true}
use Rattle.std.proofs.lemmas.List.{get_or-set_same, get_or-set_other}
use Rattle.std.proofs.lemmas.List.Elements.{Contains-push_cases}
use Rattle.std.specs.List.{Contains}
use Rattle.grid.specs.Graph.{Near}
use Rattle.chains.specs.Computed.{count}
use Rattle.chains.specs.Linked.{Linked, here, step}
use Rattle.chains.specs.Labels.{of_class}
use Rattle.chains.specs.Walked.{KeptOrNamed, kept, named, Walked}
use Rattle.chains.proofs.Below.{count_less}
use Rattle.chains.proofs.Reach.{linked_trans}

-- whether a point has no label
abbrev pub unlabelled : List ℕ → ℕ → Bool
unlabelled labels q = eqb (get_or labels q 0) 65535

-- a label stays
pub label_stays : {n : ℕ} {near : Near} {classes : List ℕ} {p name : ℕ} {old new : List ℕ} {q : ℕ} → KeptOrNamed n near classes p name old new q → get_or old q 0 ≢ 65535 → get_or new q 0 ≢ 65535
label_stays (kept e) h = λ f. h (sym e ∙ f)
label_stays (named was is l) h = absurd (h was)

-- a point without a label had none
pub had_none : {n : ℕ} {near : Near} {classes : List ℕ} {p name : ℕ} {old new : List ℕ} {q : ℕ} → KeptOrNamed n near classes p name old new q → get_or new q 0 ≡ 65535 → get_or old q 0 ≡ 65535
had_none (kept e) f = sym e ∙ f
had_none (named was is l) f = was

-- a point passes the test of its own class
pub own_class : (n : ℕ) (classes : List ℕ) (c p : ℕ) → p < n → get_or classes p 0 ≡ c → of_class n classes c p ≡ true
own_class n classes c p l e = and_from (ltb p n) (eqb (get_or classes p 0) c) (lt-ltb p n l) (eq-eqb (get_or classes p 0) c e)

-- the neighbours xs of p are gone through, since the entries were as at the start
pub record Walking (n : ℕ) (near : Near) (classes : List ℕ) (p name : ℕ) (start now xs : List ℕ) : Type 0 where
  pub entries : (q : ℕ) → KeptOrNamed n near classes p name start now q
  pub closed : (q r : ℕ) → get_or start q 0 ≡ 65535 → get_or now q 0 ≢ 65535 → near q r ≡ true → get_or classes r 0 ≡ get_or classes q 0 → get_or now r 0 ≢ 65535
  pub seen : (q : ℕ) → Contains xs q → get_or classes q 0 ≡ get_or classes p 0 → get_or now q 0 ≢ 65535

-- nothing is gone through yet
pub walking_start : {n : ℕ} {near : Near} {classes : List ℕ} {p name : ℕ} {start : List ℕ} → Walking n near classes p name start start []
walking_start = record {
  entries = λ q. kept refl;
  closed = λ q r f g s c. absurd (g f);
  seen = λ q c same. absurd (omega (arith, c.1));
}

-- the next neighbour is of another class or has a label
pub walking_past : {n : ℕ} {near : Near} {classes : List ℕ} {p name : ℕ} {start now after xs : List ℕ} (q : ℕ) →
    Walking n near classes p name start now xs → after ≡ now → (get_or classes q 0 ≡ get_or classes p 0 → get_or now q 0 ≢ 65535) →
    Walking n near classes p name start after (xs ++ q ∷ [])
walking_past {n} {near} {classes} {p} {name} {start} {now} {after} {xs} q w same f = subst (λ (x : List ℕ). Walking n near classes p name start x (xs ++ q ∷ [])) (sym same) (record {
  entries = w.entries;
  closed = w.closed;
  seen = λ r c. elim (Contains-push_cases xs q r c) [
    | inl was ↦ w.seen r was
    | inr e ↦ subst (λ (i : ℕ). get_or classes i 0 ≡ get_or classes p 0 → get_or now i 0 ≢ 65535) e f
  ];
})

-- the walk goes on from the next neighbour
pub walking_step : {n : ℕ} {near : Near} {classes : List ℕ} {p name : ℕ} {start mid new after xs : List ℕ} {q : ℕ} →
    Walking n near classes p name start mid xs → after ≡ new → (near p q ≡ true) × (q < n) × (get_or classes q 0 ≡ get_or classes p 0) →
    name < 65535 → p < n → Walked n near classes q name mid new →
    Walking n near classes p name start after (xs ++ q ∷ [])
walking_step {n} {near} {classes} {p} {name} {start} {mid} {new} {after} {xs} {q} w is beside small inside d = subst (λ (x : List ℕ). Walking n near classes p name start x (xs ++ q ∷ [])) (sym is) (record {
  entries = λ x. entry x (w.entries x) (d.entries x);
  closed = λ x r f g s c. elim (cases_eq (get_or mid x 0) 65535) [
    | inl free ↦ d.closed x r free g s c
    | inr taken ↦ label_stays (d.entries r) (w.closed x r f taken s c)
  ];
  seen = λ x c same. elim (Contains-push_cases xs q x c) [
    | inl was ↦ label_stays (d.entries x) (w.seen x was same)
    | inr e ↦ subst (λ (i : ℕ). get_or new i 0 ≢ 65535) e (λ (f : get_or new q 0 ≡ 65535). omega (arith, d.there))
  ];
})
  where
    from_p : {x : ℕ} → Linked near (of_class n classes (get_or classes q 0)) q x → Linked near (of_class n classes (get_or classes p 0)) p x
    from_p {x} l =
        linked_trans (step q (here (own_class n classes (get_or classes p 0) p inside refl)) beside.0 (own_class n classes (get_or classes p 0) q beside.1 beside.2))
        (subst (λ (c : ℕ). Linked near (of_class n classes c) q x) beside.2 l)

    entry : (x : ℕ) → KeptOrNamed n near classes p name start mid x → KeptOrNamed n near classes q name mid new x → KeptOrNamed n near classes p name start new x
    entry x (kept e) (kept f) = kept (f ∙ e)
    entry x (kept e) (named was is l) = named (sym e ∙ was) is (from_p l)
    entry x (named was is l) (kept f) = named was (f ∙ is) l
    entry x (named was is l) (named was2 is2 l2) = named was is2 (from_p l2)

-- all neighbours are gone through
pub walking_end : {n : ℕ} {near : Near} {classes : List ℕ} {p name : ℕ} {old now xs : List ℕ} →
    ((q : ℕ) → near p q ≡ true → Contains xs q) →
    name < 65535 → p < n → p < length old → get_or old p 0 ≡ 65535 →
    Walking n near classes p name (set old p name) now xs → Walked n near classes p name old now
walking_end {n} {near} {classes} {p} {name} {old} {now} {xs} complete small inside long free w = record {
  there = there (w.entries p);
  entries = λ q. entry q (cases_eq q p) (w.entries q);
  closed = λ q r f g s c. elim (cases_eq q p) [
    | inl e ↦ around r (subst (λ (i : ℕ). near i r ≡ true) e s) (subst (λ (i : ℕ). get_or classes r 0 ≡ get_or classes i 0) e c)
    | inr e ↦ w.closed q r (get_or-set_other old p q name 0 e ∙ f) g s c
  ];
}
  where
    there : KeptOrNamed n near classes p name (set old p name) now p → get_or now p 0 ≡ name
    there (kept e) = e ∙ get_or-set_same old p name 0 long
    there (named was is l) = is

    entry : (q : ℕ) → (q ≡ p) ⊎ (q ≡ p → ⊥) → KeptOrNamed n near classes p name (set old p name) now q → KeptOrNamed n near classes p name old now q
    entry q (inl e) t = subst (λ (i : ℕ). KeptOrNamed n near classes p name old now i) (sym e) (named free (there (w.entries p)) (here (own_class n classes (get_or classes p 0) p inside refl)))
    entry q (inr e) (kept f) = kept (f ∙ get_or-set_other old p q name 0 e)
    entry q (inr e) (named was is l) = named (sym (get_or-set_other old p q name 0 e) ∙ was) is l

    around : (r : ℕ) → near p r ≡ true → get_or classes r 0 ≡ get_or classes p 0 → get_or now r 0 ≢ 65535
    around r s c = w.seen r (complete r s) c

-- fewer points have no label
pub walking_falls : {n : ℕ} {near : Near} {classes : List ℕ} {p name : ℕ} {now xs : List ℕ} →
    (old : List ℕ) (before : ℕ) → count (unlabelled old) n ≡ before → name < 65535 → p < n → p < length old → get_or old p 0 ≡ 65535 →
    Walking n near classes p name (set old p name) now xs → count (unlabelled now) n < before
walking_falls {n} {near} {classes} {p} {name} {now} old before e small inside long free w = subst (λ (i : ℕ). count (unlabelled now) n < i) e
    (count_less (unlabelled old) (unlabelled now) n p
    (λ q l e. eq-eqb (get_or old q 0) 65535 (was q (cases_eq q p) (had_none (w.entries q) (eqb-true (get_or now q 0) 65535 e))))
    inside (eq-eqb (get_or old p 0) 65535 free) (ne_eqb (get_or now p 0) 65535 (label_stays (w.entries p) (λ e. let f = get_or-set_same old p name 0 long in omega arith))))
  where
    was : (q : ℕ) → (q ≡ p) ⊎ (q ≡ p → ⊥) → get_or (set old p name) q 0 ≡ 65535 → get_or old q 0 ≡ 65535
    was q (inl e) f = subst (λ (i : ℕ). get_or old i 0 ≡ 65535) (sym e) free
    was q (inr e) f = sym (get_or-set_other old p q name 0 e) ∙ f
