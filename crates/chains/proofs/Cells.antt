-- The cells of a position: the first bytes, and empty points after them; and the longest front of bytes that write points.
use Rattle.std.proofs.Common.{◌≡◌, ℕ, zero, suc, ◌+◌, ◌-◌, ◌<◌, ◌≤◌, Bool, true, false, List, [], ◌∷◌, ◌++◌, length, get_or, take, drop, replicate, sym, refl, ◌∙◌, arith}
use Rattle.std.specs.List.{prefix_len}
use Rattle.std.proofs.lemmas.List.Sums.{prefix_len-le-length}
use Rattle.std.proofs.lemmas.List.{get_or_append_left, get_or-append_right, get_or-drop, get_or-take, get_or-replicate, length-take-le, take-append-le, take_all}

abbrev pub on_empty : ℕ → List ℕ → List ℕ
on_empty n bytes = take n bytes ++ drop n (replicate 361 46)

pub cell_of : (n p : ℕ) (bytes : List ℕ) → n ≤ length bytes → p < n → get_or (on_empty n bytes) p 0 ≡ get_or bytes p 0
cell_of n p bytes long l =
    get_or_append_left (take n bytes) (drop n (replicate 361 46)) 0 p (omega (arith, length-take-le n bytes long))
    ∙ get_or-take n bytes p 0 l

pub empty_past : (n p : ℕ) (bytes : List ℕ) → n ≤ length bytes → n ≤ p → p < 361 → get_or (on_empty n bytes) p 0 ≡ 46
empty_past n p bytes long l m =
    get_or-append_right (take n bytes) (drop n (replicate 361 46)) n p 0 (length-take-le n bytes long) l
    ∙ (get_or-drop n (replicate 361 46) (p - n) 0
    ∙ get_or-replicate 361 (n + (p - n)) 46 0 (omega arith))

pub front_copied : (n : ℕ) (bytes : List ℕ) → n ≤ length bytes → take n (on_empty n bytes) ≡ take n bytes
front_copied n bytes long =
    let size : length (take n bytes) ≡ n = length-take-le n bytes long in
    take-append-le n (take n bytes) (drop n (replicate 361 46)) (omega arith)
    ∙ take_all n (take n bytes) (omega arith)

-- the longest front that passes ends at the first that fails, or with the list
pub leading_is : (t : ℕ → Bool) (xs : List ℕ) (i : ℕ) → i ≤ length xs → ((k : ℕ) → k < i → t (get_or xs k 0) ≡ true) → (i < length xs → t (get_or xs i 0) ≡ false) → prefix_len t xs ≡ i
leading_is t [] i l f g = omega arith
leading_is t (x ∷ xs) zero l f g = rw (g (omega arith)) refl
leading_is t (x ∷ xs) (suc i) l f g = rw (f 0 (omega arith)) (omega (arith, leading_is t xs i (omega arith) (λ k h. f (suc k) (omega arith)) (λ h. g (omega arith))))

-- the same for the first n of a longer list
pub leading_take : (t : ℕ → Bool) (n : ℕ) (xs : List ℕ) (i : ℕ) → n ≤ length xs → i ≤ n → ((k : ℕ) → k < i → t (get_or xs k 0) ≡ true) → (i < n → t (get_or xs i 0) ≡ false) → i ≡ prefix_len t (take n xs)
leading_take t n xs i long l f g = sym (leading_is t (take n xs) i (omega (arith, size))
    (λ k h. rw (get_or-take n xs k 0 (omega arith)) (f k h))
    (λ h. let m : i < n = omega (arith, size) in rw (get_or-take n xs i 0 m) (g m)))
  where
    size : length (take n xs) ≡ n
    size = length-take-le n xs long

-- it is no longer than the list
pub front_fits : (t : ℕ → Bool) (xs : List ℕ) → prefix_len t xs ≤ length xs
front_fits t xs = prefix_len-le-length t xs
