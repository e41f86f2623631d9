-- How many points pass a test, and what a count of two or more says.
use Rattle.std.proofs.Common.{◌≡◌, ℕ, zero, suc, ◌+◌, ◌<◌, ◌≤◌, Bool, true, false, not, ◌&&◌, eqb, ◌≢◌, ◌⊎◌, refl, inl, inr, add-zero, add-suc, arith}
use Rattle.std.proofs.lemmas.Bool.{cases_Bool, cases_eq, and_parts, and_from, and_right, not_from_true, not_from_false, eq-eqb, ne_eqb}
use Rattle.chains.specs.Computed.{count}
use Rattle.chains.proofs.Below.{count_less}

-- tests that agree below n count the same
pub count_same : (t u : ℕ → Bool) (n : ℕ) → ((p : ℕ) → p < n → t p ≡ u p) → count t n ≡ count u n
unfolding count
count_same t u zero same = refl
count_same t u (suc n) same = let e = same n (omega arith) in let h = count_same t u n (λ p l. same p (omega arith)) in cc

-- a count below m + n is the count below m and the count of the n points from m on
pub count_add : (t : ℕ → Bool) (m n : ℕ) → count t (m + n) ≡ count t m + count (λ i. t (m + i)) n
unfolding count
count_add t m zero = rw (add-zero m) (omega arith)
count_add t m (suc n) = rw (add-suc m n) (omega (arith, count_add t m n))

-- a count of at least one has a point that passes
pub count_some : (t : ℕ → Bool) (n : ℕ) → 1 ≤ count t n → (i : ℕ) × (i < n) × (t i ≡ true)
unfolding count
count_some t zero h = absurd (omega arith)
count_some t (suc n) h = join (count_some t n) (cases_Bool (t n))
  where
    join : (1 ≤ count t n → (i : ℕ) × (i < n) × (t i ≡ true)) → (t n ≡ true) ⊎ (t n ≡ false) → (i : ℕ) × (i < suc n) × (t i ≡ true)
    join later (inl e) = (n, omega arith, e)
    join later (inr e) = let (i, l, k) = later (let z : count t (suc n) ≡ 0 + count t n = rw e refl in omega arith) in (i, omega arith, k)

-- a count of at least two has two points that pass
pub count_two : (t : ℕ → Bool) (n : ℕ) → 2 ≤ count t n → (i j : ℕ) × (i < j) × (j < n) × (t i ≡ true) × (t j ≡ true)
unfolding count
count_two t zero h = absurd (omega arith)
count_two t (suc n) h = join (count_two t n) (cases_Bool (t n))
  where
    join : (2 ≤ count t n → (i j : ℕ) × (i < j) × (j < n) × (t i ≡ true) × (t j ≡ true)) → (t n ≡ true) ⊎ (t n ≡ false) → (i j : ℕ) × (i < j) × (j < suc n) × (t i ≡ true) × (t j ≡ true)
    join later (inl e) =
        let z : count t (suc n) ≡ 1 + count t n = rw e refl in
        let (i, l, k) = count_some t n (omega arith) in
        (i, n, l, omega arith, k, e)
    join later (inr e) =
        let z : count t (suc n) ≡ 0 + count t n = rw e refl in
        let (i, j, l, m, f, g) = later (omega arith) in
        (i, j, l, omega arith, f, g)

-- one point that passes is counted
pub some_count : (t : ℕ → Bool) (n i : ℕ) → i < n → t i ≡ true → 1 ≤ count t n
some_count t n i l h = omega (arith, count_less t (λ p. false) n i (λ p m e. absurd (let z : ◌≡◌ {A = ℕ} 0 1 = cc in omega arith)) l h refl)

-- two points that pass are counted
pub two_count : (t : ℕ → Bool) (n i j : ℕ) → i ≢ j → i < n → j < n → t i ≡ true → t j ≡ true → 2 ≤ count t n
two_count t n i j apart l m h k =
    omega (
      arith,
      some_count other n i l (and_from (t i) (not (eqb i j)) h (not_from_false (eqb i j) (ne_eqb i j apart))),
      count_less t other n j (λ p o e. (and_parts (t p) (not (eqb p j)) e).0) m k (and_right (t j) (not (eqb j j)) (not_from_true (eqb j j) (eq-eqb j j refl))),
    )
  where
    other : ℕ → Bool
    other p = t p && not (eqb p j)

-- where fewer than two are counted, two points that pass are one
pub few_count : (t : ℕ → Bool) (n i j : ℕ) → count t n < 2 → i < n → j < n → t i ≡ true → t j ≡ true → i ≡ j
few_count t n i j few l m h k = elim (cases_eq i j) [ inl e ↦ e | inr apart ↦ absurd (omega (arith, two_count t n i j apart l m h k)) ]

-- where none is counted, none passes
pub none_count : (t : ℕ → Bool) (n i : ℕ) → count t n ≡ 0 → i < n → t i ≡ false
none_count t n i none l = elim (cases_Bool (t i)) [ inl h ↦ absurd (omega (arith, some_count t n i l h)) | inr h ↦ h ]

-- where none passes, none is counted
pub count_none : (t : ℕ → Bool) (n : ℕ) → ((i : ℕ) → i < n → t i ≡ false) → count t n ≡ 0
unfolding count
count_none t zero h = refl
count_none t (suc n) h = let e = h n (omega arith) in let z : count t (suc n) ≡ 0 + count t n = rw e refl in omega (arith, count_none t n (λ i l. h i (omega arith)))
