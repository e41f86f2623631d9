-- What `find` says that looks for the first number of a range that passes a test.
use Rattle.std.proofs.Common.{◌≡◌, ℕ, zero, suc, ◌+◌, ◌<◌, ◌≤◌, Bool, true, false, cond, ◌∷◌, Some, None, Option, sym, refl, ap, ◌∙◌, subst, inl, inr, arith}
use Rattle.std.proofs.lemmas.Bool.{cases_eq}
use Rattle.std.specs.List.{find, range_with_len}

-- the number is in the range, passes, and no number of the range before it does
pub record FoundIn (t : ℕ → Bool) (a n p : ℕ) : Type 0 where
  pub from : a ≤ p
  pub below : p < a + n
  pub passes : t p ≡ true
  pub before : (q : ℕ) → a ≤ q → q < p → t q ≡ false

step_yes : (t : ℕ → Bool) (a n : ℕ) → t a ≡ true → find t (range_with_len a (suc n)) ≡ Some a
step_yes t a n e = ap (λ (b : Bool). cond b (Some a) (find t (range_with_len (a + 1) n))) e

step_no : (t : ℕ → Bool) (a n : ℕ) → t a ≡ false → find t (range_with_len a (suc n)) ≡ find t (range_with_len (a + 1) n)
step_no t a n e = ap (λ (b : Bool). cond b (Some a) (find t (range_with_len (a + 1) n))) e

pub found_in : (t : ℕ → Bool) (a n p : ℕ) → Some p ≡ find t (range_with_len a n) → FoundIn t a n p
found_in t a zero p e = absurd cc
found_in t a (suc n) p e = go (found_in t (a + 1) n p) (t a) refl
  where
    go : (Some p ≡ find t (range_with_len (a + 1) n) → FoundIn t (a + 1) n p) → (b : Bool) → t a ≡ b → FoundIn t a (suc n) p
    go later true is =
        let same : p ≡ a = let f = e ∙ step_yes t a n is in cc in
        record { from = omega arith; below = omega arith; passes = ap t same ∙ is; before = λ q l m. absurd (omega arith) }
    go later false is =
        let f = later (e ∙ step_no t a n is) in
        record {
          from = omega (arith, f.from);
          below = omega (arith, f.below);
          passes = f.passes;
          before = λ q l m. elim (cases_eq q a) [ inl s ↦ ap t s ∙ is | inr s ↦ f.before q (omega arith) m ];
        }

-- no number of the range passes
pub found_none : (t : ℕ → Bool) (a n : ℕ) → None ≡ find t (range_with_len a n) → (q : ℕ) → a ≤ q → q < a + n → t q ≡ false
found_none t a zero e q l m = absurd (omega arith)
found_none t a (suc n) e q l m = go (found_none t (a + 1) n) (t a) refl
  where
    go : (None ≡ find t (range_with_len (a + 1) n) → (q : ℕ) → a + 1 ≤ q → q < a + 1 + n → t q ≡ false) → (b : Bool) → t a ≡ b → t q ≡ false
    go later true is = let f = e ∙ step_yes t a n is in absurd cc
    go later false is = elim (cases_eq q a) [ inl s ↦ ap t s ∙ is | inr s ↦ later (e ∙ step_no t a n is) q (omega arith) (omega arith) ]
