-- The moves that bytes write, pair by pair.
use Rattle.std.proofs.Common.{◌≡◌, ℕ, zero, suc, ◌+◌, ◌*◌, ◌<◌, ◌≤◌, List, [], ◌∷◌, ◌++◌, length, get_or, drop, refl, sym, ap, ◌∙◌, arith, length-drop, drop-cons, add-one}
use Rattle.referee.specs.declared.moves.Move.TheVariants.{Pass}
use Rattle.referee.specs.Moves.{move_of, moves_of}
use Rattle.referee.specs.Rules.{move_at}

-- there is a move for every two bytes
pub moves_length : (bytes : List ℕ) → (2 * length (moves_of bytes) ≤ length bytes) × (length bytes ≤ 2 * length (moves_of bytes) + 1)
unfolding moves_of
moves_length [] = (omega arith, omega arith)
moves_length (low ∷ []) = (omega arith, omega arith)
moves_length (low ∷ high ∷ rest) = let h = moves_length rest in (omega arith, omega arith)

-- move k is written by the bytes 2 k and 2 k + 1
pub moves_at : (bytes : List ℕ) (k : ℕ) → 2 * k + 1 < length bytes → move_at (moves_of bytes) k ≡ move_of (get_or bytes (2 * k) 0 + 256 * get_or bytes (2 * k + 1) 0)
unfolding moves_of
moves_at [] k h = absurd (omega arith)
moves_at (low ∷ []) k h = absurd (omega arith)
moves_at (low ∷ high ∷ rest) zero h = refl
moves_at (low ∷ high ∷ rest) (suc k) h =
    let e : 2 * suc k ≡ suc (suc (2 * k)) = omega arith in
    let i : 2 * suc k + 1 ≡ suc (suc (2 * k + 1)) = omega arith in
    rw (i, e) (moves_at rest k (omega arith))

-- two bytes write the first move
moves_more : (pair later : List ℕ) → length pair ≡ 2 → moves_of (pair ++ later) ≡ move_of (get_or pair 0 0 + 256 * get_or pair 1 0) ∷ moves_of later
unfolding moves_of
moves_more [] later h = absurd (omega arith)
moves_more (low ∷ []) later h = absurd (omega arith)
moves_more (low ∷ high ∷ []) later h = refl
moves_more (low ∷ high ∷ more ∷ rest) later h = absurd (omega arith)

-- fewer write none
moves_none : (bytes : List ℕ) → length bytes < 2 → moves_of bytes ≡ []
unfolding moves_of
moves_none [] h = refl
moves_none (low ∷ []) h = refl
moves_none (low ∷ high ∷ rest) h = absurd (omega arith)

-- where the rest of the bytes writes the moves from k on, the next two bytes write move k
pub next_move : (bytes rest pair later : List ℕ) (k : ℕ) → drop k (moves_of bytes) ≡ moves_of rest → rest ≡ pair ++ later → length pair ≡ 2 →
    (k < length (moves_of bytes)) × (move_at (moves_of bytes) k ≡ move_of (get_or pair 0 0 + 256 * get_or pair 1 0)) × (drop (k + 1) (moves_of bytes) ≡ moves_of later)
next_move bytes rest pair later k left e h =
    let next = left ∙ ap moves_of e ∙ moves_more pair later h in
    let there : k < length (moves_of bytes) = omega (arith, length-drop k (moves_of bytes), ap length next) in
    let both : move_at (moves_of bytes) k ∷ drop (suc k) (moves_of bytes) ≡ move_of (get_or pair 0 0 + 256 * get_or pair 1 0) ∷ moves_of later = sym (drop-cons (moves_of bytes) k Pass there) ∙ next in
    (there, cc, rw (add-one k) (cc))

-- where too few bytes are left, no move is
pub no_move_left : (bytes rest : List ℕ) (k : ℕ) → drop k (moves_of bytes) ≡ moves_of rest → length rest < 2 → length (moves_of bytes) ≤ k
no_move_left bytes rest k left h = omega (arith, length-drop k (moves_of bytes), ap length (left ∙ moves_none rest h))
