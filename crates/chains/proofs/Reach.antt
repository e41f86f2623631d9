-- Whether a point is reached over neighbours that pass a test, found by letting one inner point more in at a time.
use Rattle.std.proofs.Common.{◌≡◌, ℕ, zero, suc, ◌<◌, Bool, true, ◌&&◌, ◌||◌, eqb, ◌⊎◌, refl, subst, inl, inr, arith}
use Rattle.std.proofs.lemmas.Bool.{both_ways, cases_Bool, cases_eq, or_cases, or_left, or_right, and_parts, and_from, eqb-true, eq-eqb}
use Rattle.grid.specs.Graph.{Near, Graph}
use Rattle.chains.specs.Linked.{Linked, here, step}
use Rattle.chains.specs.Computed.{through, reaches}

-- the first point passes the test
pub linked_first : {near : Near} {t : ℕ → Bool} {p q : ℕ} → Linked near t p q → t p ≡ true
linked_first (here e) = e
linked_first (step r l n e) = linked_first l

-- the last point passes the test
pub linked_last : {near : Near} {t : ℕ → Bool} {p q : ℕ} → Linked near t p q → t q ≡ true
linked_last (here e) = e
linked_last (step r l n e) = e

-- one way after another
pub linked_trans : {near : Near} {t : ℕ → Bool} {p q r : ℕ} → Linked near t p q → Linked near t q r → Linked near t p r
linked_trans l (here e) = l
linked_trans l (step r m n e) = step r (linked_trans l m) n e

-- a way back
pub linked_sym : {n : ℕ} {near : Near} → Graph n near → {t : ℕ → Bool} {p q : ℕ} → Linked near t p q → Linked near t q p
linked_sym g (here e) = here e
linked_sym g (step {p = p} {q = q} r l n e) = linked_trans (step q (here e) (g.symmetric q r n) (linked_last l)) (linked_sym g l)

-- the same way under another test that the reached points pass
pub linked_map : {near : Near} {t u : ℕ → Bool} {p q : ℕ} → ((r : ℕ) → Linked near t p r → u r ≡ true) → Linked near t p q → Linked near u p q
linked_map {p = p} f (here e) = here (f p (here e))
linked_map f (step r l n e) = step r (linked_map f l) n (f r (step r l n e))

through_linked : (near : Near) (t : ℕ → Bool) (k p q : ℕ) → through near t k p q ≡ true → Linked near t p q
unfolding through
through_linked near t zero p q e = join (or_cases (eqb p q) (near p q) (and_parts (t p && t q) (eqb p q || near p q) e).1)
  where
    ends : (t p ≡ true) × (t q ≡ true)
    ends = and_parts (t p) (t q) (and_parts (t p && t q) (eqb p q || near p q) e).0

    join : (eqb p q ≡ true) ⊎ (near p q ≡ true) → Linked near t p q
    join (inl s) = subst (λ (r : ℕ). Linked near t p r) (eqb-true p q s) (here ends.0)
    join (inr s) = step q (here ends.0) s ends.1
through_linked near t (suc k) p q e = join (through_linked near t k) (or_cases (through near t k p q) (through near t k p k && through near t k k q) e)
  where
    join : ((p q : ℕ) → through near t k p q ≡ true → Linked near t p q) → (through near t k p q ≡ true) ⊎ ((through near t k p k && through near t k k q) ≡ true) → Linked near t p q
    join f (inl h) = f p q h
    join f (inr h) = let w = and_parts (through near t k p k) (through near t k k q) h in linked_trans (f p k w.0) (f k q w.1)

more : (near : Near) (t : ℕ → Bool) (k p q : ℕ) → through near t zero p q ≡ true → through near t k p q ≡ true
unfolding through
more near t zero p q e = e
more near t (suc k) p q e = or_left (through near t k p q) (through near t k p k && through near t k k q) (more near t k p q e)

-- what being reached through inner points below k + 1 says
data Way (near : Near) (t : ℕ → Bool) (k p q : ℕ) : Type 0 where
  below : through near t k p q ≡ true → Way near t k p q
  over : through near t k p k ≡ true → through near t k k q ≡ true → Way near t k p q

way : (near : Near) (t : ℕ → Bool) (k p q : ℕ) → through near t (suc k) p q ≡ true → Way near t k p q
unfolding through
way near t k p q e = join (or_cases (through near t k p q) (through near t k p k && through near t k k q) e)
  where
    join : (through near t k p q ≡ true) ⊎ ((through near t k p k && through near t k k q) ≡ true) → Way near t k p q
    join (inl h) = below h
    join (inr h) = let w = and_parts (through near t k p k) (through near t k k q) h in over w.0 w.1

from_way : (near : Near) (t : ℕ → Bool) (k p q : ℕ) → Way near t k p q → through near t (suc k) p q ≡ true
unfolding through
from_way near t k p q (below h) = or_left (through near t k p q) (through near t k p k && through near t k k q) h
from_way near t k p q (over h g) = or_right (through near t k p q) (through near t k p k && through near t k k q) (and_from (through near t k p k) (through near t k k q) h g)

way_to : {near : Near} {t : ℕ → Bool} {k p : ℕ} → Way near t k p k → through near t k p k ≡ true
way_to (below h) = h
way_to (over h g) = h

way_from : {near : Near} {t : ℕ → Bool} {k q : ℕ} → Way near t k k q → through near t k k q ≡ true
way_from (below h) = h
way_from (over h g) = g

-- two ways that meet at an inner point below k
compose : (near : Near) (t : ℕ → Bool) (k m p q : ℕ) → m < k → through near t k p m ≡ true → through near t k m q ≡ true → through near t k p q ≡ true
compose near t zero m p q h a b = absurd (omega arith)
compose near t (suc k) m p q h a b = from_way near t k p q (join (compose near t k m) (cases_eq m k) (way near t k p m a) (way near t k m q b))
  where
    join : ((p q : ℕ) → m < k → through near t k p m ≡ true → through near t k m q ≡ true → through near t k p q ≡ true) → (m ≡ k) ⊎ (m ≡ k → ⊥) → Way near t k p m → Way near t k m q → Way near t k p q
    join f (inl e) u v = over (way_to (subst (λ (i : ℕ). Way near t k p i) e u)) (way_from (subst (λ (i : ℕ). Way near t k i q) e v))
    join f (inr e) (below u) (below v) = below (f p q (omega arith) u v)
    join f (inr e) (below u) (over v w) = over (f p k (omega arith) u v) w
    join f (inr e) (over u v) (below w) = over u (f k q (omega arith) v w)
    join f (inr e) (over u v) (over w x) = over u x

-- what is found to be reached is linked
pub reaches_linked : {n : ℕ} {near : Near} → Graph n near → (t : ℕ → Bool) (p q : ℕ) → reaches n near t p q ≡ true → Linked near t p q
unfolding reaches
reaches_linked {n} {near} g t p q e = through_linked near t n p q e

-- what is linked is found
pub linked_reaches : {n : ℕ} {near : Near} → Graph n near → (t : ℕ → Bool) (p q : ℕ) → Linked near t p q → reaches n near t p q ≡ true
unfolding reaches through
linked_reaches {n} {near} g t p q l = go l
  where
    touch : (p q : ℕ) → t p ≡ true → t q ≡ true → (eqb p q || near p q) ≡ true → through near t zero p q ≡ true
    touch p q a b c = and_from (t p && t q) (eqb p q || near p q) (and_from (t p) (t q) a b) c

    go : {p q : ℕ} → Linked near t p q → through near t n p q ≡ true
    go (here {p = p} e) = more near t n p p (touch p p e e (or_left (eqb p p) (near p p) (eq-eqb p p refl)))
    go (step {p = p} {q = q} r l a e) =
        compose near t n q p r (g.inside q r a) (go l) (more near t n q r (touch q r (linked_last l) e (or_right (eqb q r) (near q r) a)))

-- points are linked or not
pub linked_or_not : {n : ℕ} {near : Near} → Graph n near → (t : ℕ → Bool) (p q : ℕ) → Linked near t p q ⊎ (Linked near t p q → ⊥)
linked_or_not {n} {near} g t p q =
    elim (cases_Bool (reaches n near t p q)) [ inl e ↦ inl (reaches_linked g t p q e) | inr e ↦ inr (λ l. both_ways (reaches n near t p q) e (linked_reaches g t p q l)) ]
