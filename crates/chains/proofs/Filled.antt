-- An array that a closure fills which changes nothing: what each call says holds of its element.
use Rattle.std.proofs.Common.{◌≡◌, ℕ, zero, suc, ◌+◌, ◌<◌, List, get_or, sym, subst, arith}
use Rattle.std.specs.Array.{IsFromFnResultFrom, IsFromFnResult}
use denote.Param.Members.{Mut, Called}

filled_from : {F B : Type 0} (g : Mut F (ℕ × Unit {0}) B) (f : F) (R : ℕ → B → Type 0) → ((q : F) (p : ℕ) (y : B) → Called g f (p, tt) y q → (q ≡ f) × R p y) →
    (d : B) (ys : List B) (i n : ℕ) → IsFromFnResultFrom g f ys i n → (k : ℕ) → k < n → R (i + k) (get_or ys (i + k) d)
filled_from g f R h d ys i zero w k l = absurd (omega arith)
filled_from g f R h d ys i (suc n) w zero l =
    let e : i ≡ i + 0 = omega arith in
    subst (λ (j : ℕ). R j (get_or ys j d)) e (subst (R i) (sym (w.2.1 d)) (h w.0 i w.1 w.3).1)
filled_from {F} g f R h d ys i (suc n) w (suc k) l =
    let e : (i + 1) + k ≡ i + suc k = omega arith in
    subst (λ (j : ℕ). R j (get_or ys j d)) e
    (filled_from g f R h d ys (i + 1) n (subst (λ (q : F). IsFromFnResultFrom g q ys (i + 1) n) (h w.0 i w.1 w.3).0 w.4) k (omega arith))

-- from the first element on
pub filled : {F B : Type 0} {g : Mut F (ℕ × Unit {0}) B} {f : F} (R : ℕ → B → Type 0) → ((q : F) (p : ℕ) (y : B) → Called g f (p, tt) y q → (q ≡ f) × R p y) →
    (d : B) {ys : List B} {n : ℕ} → IsFromFnResult g f ys n → (p : ℕ) → p < n → R p (get_or ys p d)
filled {g = g} {f = f} R h d {ys} {n} w p l = let e : 0 + p ≡ p = omega arith in subst (λ (j : ℕ). R j (get_or ys j d)) e (filled_from g f R h d ys 0 n w.each p l)

-- where each call gives a function of the index, so does each element
pub filled_by : {F B : Type 0} {g : Mut F (ℕ × Unit {0}) B} {f : F} {ys : List B} {n : ℕ} (h : ℕ → B) (d : B) → IsFromFnResult g f ys n →
    ((i : ℕ) (y : B) (q : F) → Called g f (i, tt) y q → (q ≡ f) × (y ≡ h i)) → (k : ℕ) → k < n → get_or ys k d ≡ h k
filled_by h d result same = filled (λ i y. y ≡ h i) (λ q i y called. same i y q called) d result
