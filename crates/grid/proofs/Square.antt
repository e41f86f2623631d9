-- The square board: its neighbours in arithmetic, that it is a board in the general sense, and that its neighbours are handed out exactly.
use Rattle.std.proofs.Common.{◌≡◌, ℕ, zero, suc, ◌+◌, ◌-◌, ◌*◌, ◌/◌, ◌%◌, ◌<◌, ◌≤◌, true, ◌≢◌, ◌⊎◌, Some, None, Option, sym, refl, ap, ◌∙◌, inl, inr, ⊎_elim, suc-mul, mul_comm, add-mul, one-mul, div-add-mod', zero-mul, arith}
use Rattle.std.proofs.lemmas.Nat.{div-mul-add, mod-mul-add, div_below, mod_below, mul-add-lt}
use Rattle.std.proofs.lemmas.Bool.Decides.{nat_tests}
use Rattle.grid.specs.Graph.{Graph}
use Rattle.grid.specs.Grid.{points, near}
use Rattle.grid.specs.Neighbours.{HandsOut, slots, hand}

-- what `near` tests, as facts
abbrev Touch : ℕ → ℕ → ℕ → ℕ → Type 0
Touch w h p q =
    (p < w * h) × (q < w * h)
    × (((p / w ≡ q / w) × ((p % w + 1 ≡ q % w) ⊎ (q % w + 1 ≡ p % w)))
    ⊎ ((p % w ≡ q % w) × ((p / w + 1 ≡ q / w) ⊎ (q / w + 1 ≡ p / w))))

near_touch : (w h p q : ℕ) → near w h p q ≡ true → Touch w h p q
unfolding near
near_touch w h p q e = grind (arith, nat_tests)

touch_near : (w h p q : ℕ) → Touch w h p q → near w h p q ≡ true
unfolding near
touch_near w h p q t = grind (arith, nat_tests)

-- the four ways to lie beside p
data Way (w h p q : ℕ) : Type 0 where
  above : w ≤ p → q ≡ p - w → Way w h p q
  left : p % w ≢ 0 → q ≡ p - 1 → Way w h p q
  right : p % w + 1 ≢ w → q ≡ p + 1 → Way w h p q
  below : p + w < w * h → q ≡ p + w → Way w h p q

positive : (w h p : ℕ) → p < w * h → 0 < w
positive zero h p l = omega (arith, zero-mul h)
positive (suc w) h p l = omega arith

-- a point by its row and column
place : (w a b q : ℕ) → b < w → q ≡ a * w + b → (q / w ≡ a) × (q % w ≡ b)
place w a b q l e = (ap (λ x. x / w) e ∙ div-mul-add a w b l, ap (λ x. x % w) e ∙ mod-mul-add a w b l)

touch_way : (w h p q : ℕ) → Touch w h p q → Way w h p q
touch_way w h p q t =
    elim t.2 [
      | inl r ↦ elim r.1 [
        | inl c ↦ right (omega (arith, qw)) (omega (arith, pe, qe, ap (λ x. x * w) r.0))
        | inr c ↦ left (omega arith) (omega (arith, pe, qe, ap (λ x. x * w) r.0))
      ]
      | inr r ↦ elim r.1 [
        | inl c ↦ below (omega (arith, pe, qe, more (p / w) (q / w) c)) (omega (arith, pe, qe, more (p / w) (q / w) c))
        | inr c ↦ above (omega (arith, pe, qe, more (q / w) (p / w) c)) (omega (arith, pe, qe, more (q / w) (p / w) c))
      ]
    ]
  where
    pe : p / w * w + p % w ≡ p
    pe = div-add-mod' p w

    qe : q / w * w + q % w ≡ q
    qe = div-add-mod' q w

    qw : q % w < w
    qw = mod_below q w (positive w h p t.0)

    more : (a b : ℕ) → a + 1 ≡ b → b * w ≡ a * w + w
    more a b e = ap (λ x. x * w) (sym e) ∙ (add-mul a 1 w ∙ ap (λ x. a * w + x) (one-mul w))

way_touch : (w h p q : ℕ) → p < w * h → Way w h p q → Touch w h p q
way_touch w h p q l (above u e) = rise (p / w) refl
  where
    pw : p % w < w
    pw = mod_below p w (positive w h p l)

    rise : (a : ℕ) → p / w ≡ a → Touch w h p q
    rise zero r = absurd (omega (arith, pw, div-add-mod' p w, ap (λ x. x * w) r, zero-mul w))
    rise (suc a) r =
        let at : q ≡ a * w + p % w = omega (arith, div-add-mod' p w, ap (λ x. x * w) r, suc-mul a w) in
        let f = place w a (p % w) q pw at in
        (l, omega arith, inr (sym f.1, inr (omega (arith, f.0))))
way_touch w h p q l (left u e) =
    let pw : p % w < w = mod_below p w (positive w h p l) in
    let f = place w (p / w) (p % w - 1) q (omega arith) (omega (arith, div-add-mod' p w)) in
    (l, omega arith, inl (sym f.0, inr (omega (arith, f.1))))
way_touch w h p q l (right u e) =
    let pw : p % w < w = mod_below p w (positive w h p l) in
    let f = place w (p / w) (p % w + 1) q (omega arith) (omega (arith, div-add-mod' p w)) in
    let a : p / w < h = div_below p w h (positive w h p l) (rw (mul_comm h w) l) in
    (l, omega (arith, div-add-mod' p w, mul-add-lt (p / w) w (p % w + 1) h a (omega arith), e), inl (sym f.0, inl (sym f.1)))
way_touch w h p q l (below u e) =
    let pw : p % w < w = mod_below p w (positive w h p l) in
    let f = place w (p / w + 1) (p % w) q pw (omega (arith, div-add-mod' p w, add-mul (p / w) 1 w, one-mul w)) in
    (l, omega arith, inr (sym f.1, inl (sym f.0)))

turn : (w h p q : ℕ) → Touch w h p q → Touch w h q p
turn w h p q t = (
  t.1,
  t.0,
  elim t.2 [
    | inl r ↦ inl (sym r.0, ⊎_elim inr inl r.1)
    | inr r ↦ inr (sym r.0, ⊎_elim inr inl r.1)
  ],
)

-- the square board is a board of the general kind
pub graph : (w h : ℕ) → Graph (points w h) (near w h)
graph w h = record {
  symmetric = λ p q e. touch_near w h q p (turn w h p q (near_touch w h p q e));
  inside = λ p q e. (near_touch w h p q e).0;
  apart = λ p q e s. elim (near_touch w h p q e).2 [
    | inl r ↦ elim r.1 [ inl c ↦ omega (arith, ap (λ x. x % w) s) | inr c ↦ omega (arith, ap (λ x. x % w) s) ]
    | inr r ↦ elim r.1 [ inl c ↦ omega (arith, ap (λ x. x / w) s) | inr c ↦ omega (arith, ap (λ x. x / w) s) ]
  ];
}

-- what is handed out lies beside p
hand_way : (w h p k q : ℕ) → hand w h p k ≡ Some q → (p < w * h) × Way w h p q
hand_way w h p k q e = let f = tests in (
  f.0,
  elim f.1 [
    | inl u ↦ above u.0 u.1
    | inr f ↦ elim f [
      | inl u ↦ left u.0 u.1
      | inr f ↦ elim f [
        | inl u ↦ right u.0 u.1
        | inr u ↦ below u.0 u.1
      ]
    ]
  ],
)
  where
    tests : (p < w * h) × (((w ≤ p) × (q ≡ p - w)) ⊎ (((p % w ≢ 0) × (q ≡ p - 1)) ⊎ (((p % w + 1 ≢ w) × (q ≡ p + 1)) ⊎ ((p + w < w * h) × (q ≡ p + w)))))
    tests = grind (arith, nat_tests)

way_hand : (w h p q : ℕ) → p < w * h → Way w h p q → (k : ℕ) × (k < slots w h p) × (hand w h p k ≡ Some q)
way_hand w h p q l (above u e) = (0, grind (arith, nat_tests), grind (arith, nat_tests))
way_hand w h p q l (left u e) = (1, grind (arith, nat_tests), grind (arith, nat_tests))
way_hand w h p q l (right u e) = (2, grind (arith, nat_tests), grind (arith, nat_tests))
way_hand w h p q l (below u e) = (3, grind (arith, nat_tests), grind (arith, nat_tests))

-- neighbours are handed out exactly
pub hands : (w h : ℕ) → HandsOut (near w h) (slots w h) (hand w h)
hands w h = record {
  sound = λ p k q e. let f = hand_way w h p k q e in touch_near w h p q (way_touch w h p q f.0 f.1);
  complete = λ p q e. let t = near_touch w h p q e in way_hand w h p q t.0 (touch_way w h p q t);
  ordered = λ p j k q r l e f. grind (arith, nat_tests);
  beyond = λ p k l. grind (arith, nat_tests);
}

-- the same of an answer that is known to be the definition's
pub all_handed : (w h p r : ℕ) → r ≡ slots w h p → (q : ℕ) → near w h p q ≡ true → (k : ℕ) × (k < r) × (hand w h p k ≡ Some q)
all_handed w h p r e q t = let f = (hands w h).complete p q t in (f.0, omega (arith, f.1), f.2)

pub handed_near :
    (w h p k : ℕ) (r : Option ℕ) → r ≡ hand w h p k
    → elim r as (λ _. Type 0) [ Some q ↦ (near w h p q ≡ true) × (q < points w h) | None ↦ Unit {0} ]
handed_near w h p k None e = tt
handed_near w h p k (Some q) e =
    let t = (hands w h).sound p k q (sym e) in
    (t, (graph w h).inside q p ((graph w h).symmetric p q t))

pub handed_after : (w h p k : ℕ) (r : Option ℕ) → r ≡ hand w h p k → (j o q : ℕ) → j < k → hand w h p j ≡ Some o → r ≡ Some q → o < q
handed_after w h p k r e j o q l f g = (hands w h).ordered p j k o q l f (sym e ∙ g)
