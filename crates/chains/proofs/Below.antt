-- The points below n: looking for one, counting them.
use Rattle.std.proofs.Common.{◌≡◌, ℕ, zero, suc, ◌+◌, ◌<◌, ◌≤◌, Bool, true, false, ◌||◌, ◌⊎◌, refl, subst, inl, inr, arith}
use Rattle.std.proofs.lemmas.Bool.{false≢true, cases_eq, or_cases, or_left, or_right}
use Rattle.chains.specs.Computed.{any, one_if, count}

-- all points below n have P, or one of them has Q
pub find : {P Q : ℕ → Type 0} (n : ℕ) → ((p : ℕ) → P p ⊎ Q p) → ((p : ℕ) → p < n → P p) ⊎ ((p : ℕ) × (p < n) × Q p)
find {P} {Q} zero f = inl (λ p h. absurd (omega arith))
find {P} {Q} (suc n) f = join (find n f) (f n)
  where
    join : ((p : ℕ) → p < n → P p) ⊎ ((p : ℕ) × (p < n) × Q p) → P n ⊎ Q n → ((p : ℕ) → p < suc n → P p) ⊎ ((p : ℕ) × (p < suc n) × Q p)
    join (inr w) c = inr (w.0, omega arith, w.2)
    join (inl all) (inr q) = inr (n, omega arith, q)
    join (inl all) (inl here) = inl (λ p h. elim (cases_eq n p) [ inl e ↦ subst P e here | inr other ↦ all p (omega arith) ])

-- then there is one
pub any_true : (t : ℕ → Bool) (n : ℕ) → any t n ≡ true → (p : ℕ) × (p < n) × (t p ≡ true)
unfolding any
any_true t zero e = absurd (false≢true e)
any_true t (suc n) e = join (any_true t n) (or_cases (any t n) (t n) e)
  where
    join : (any t n ≡ true → (p : ℕ) × (p < n) × (t p ≡ true)) → (any t n ≡ true) ⊎ (t n ≡ true) → (p : ℕ) × (p < suc n) × (t p ≡ true)
    join f (inl h) = let w = f h in (w.0, omega arith, w.2)
    join f (inr h) = (n, omega arith, h)

-- a point that passes is enough
pub true_any : (t : ℕ → Bool) (n p : ℕ) → p < n → t p ≡ true → any t n ≡ true
unfolding any
true_any t zero p h e = absurd (omega arith)
true_any t (suc n) p h e = join (true_any t n p) (cases_eq p n)
  where
    join : (p < n → t p ≡ true → any t n ≡ true) → (p ≡ n) ⊎ (p ≡ n → ⊥) → (any t n || t n) ≡ true
    join f (inl same) = or_right (any t n) (t n) (subst (λ (q : ℕ). t q ≡ true) same e)
    join f (inr other) = or_left (any t n) (t n) (f (omega arith) e)

one_if_bound : (b : Bool) → one_if b ≤ 1
one_if_bound true = omega arith
one_if_bound false = omega arith

one_if_le : (b c : Bool) → (c ≡ true → b ≡ true) → one_if c ≤ one_if b
one_if_le true true h = omega arith
one_if_le true false h = omega arith
one_if_le false true h = absurd (false≢true (h refl))
one_if_le false false h = omega arith

-- at most n points pass
pub count_bound : (t : ℕ → Bool) (n : ℕ) → count t n ≤ n
unfolding count
count_bound t zero = omega arith
count_bound t (suc n) = omega (arith, count_bound t n, one_if_bound (t n))

-- a stricter test passes no more points
pub count_le : (t u : ℕ → Bool) (n : ℕ) → ((p : ℕ) → p < n → u p ≡ true → t p ≡ true) → count u n ≤ count t n
unfolding count
count_le t u zero h = omega arith
count_le t u (suc n) h = omega (arith, count_le t u n (λ p l e. h p (omega arith) e), one_if_le (t n) (u n) (h n (omega arith)))

-- and fewer if one point leaves
pub count_less : (t u : ℕ → Bool) (n x : ℕ) → ((p : ℕ) → p < n → u p ≡ true → t p ≡ true) → x < n → t x ≡ true → u x ≡ false → count u n < count t n
unfolding count
count_less t u zero x h l was is = absurd (omega arith)
count_less t u (suc n) x h l was is = join (count_less t u n x (λ p k e. h p (omega arith) e)) (cases_eq x n)
  where
    join : (x < n → t x ≡ true → u x ≡ false → count u n < count t n) → (x ≡ n) ⊎ (x ≡ n → ⊥) → one_if (u n) + count u n < one_if (t n) + count t n
    join f (inl same) =
        let e : t n ≡ true = subst (λ (q : ℕ). t q ≡ true) same was in
        let g : u n ≡ false = subst (λ (q : ℕ). u q ≡ false) same is in
        rw (e, g) (omega (arith, count_le t u n (λ p k e. h p (omega arith) e)))
    join f (inr other) = omega (arith, f (omega arith) was is, one_if_le (t n) (u n) (h n (omega arith)))
