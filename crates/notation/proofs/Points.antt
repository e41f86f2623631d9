-- Points that are printed one after another.
use Rattle.std.proofs.Common.{◌≡◌, ℕ, ◌+◌, ◌<◌, Bool, true, false, List, [], ◌∷◌, ◌++◌, length, get_or, take, decimal, sym, refl, ap, ◌∙◌, append_assoc, append-nil, add-one}
use Rattle.std.proofs.lemmas.List.{take_more}
use Rattle.notation.specs.Lines.{points_text, chosen}

points_append : (xs ys : List ℕ) → points_text (xs ++ ys) ≡ points_text xs ++ points_text ys
points_append [] ys = refl
points_append (p ∷ xs) ys = ap (λ (t : List ℕ). (32 ∷ decimal p) ++ t) (points_append xs ys) ∙ sym (append_assoc (32 ∷ decimal p) (points_text xs) (points_text ys))

-- one point more at the end
points_push : (xs : List ℕ) (p : ℕ) → points_text (xs ++ (p ∷ [])) ≡ points_text xs ++ (32 ∷ decimal p)
points_push xs p = points_append xs (p ∷ []) ∙ ap (λ (t : List ℕ). points_text xs ++ t) (append-nil (32 ∷ decimal p))

-- the next point is chosen
pub chosen_yes : (t : ℕ → Bool) (n : ℕ) (text after : List ℕ) → t n ≡ true → text ≡ points_text (chosen t n) → after ≡ text ++ (32 ∷ decimal n) → after ≡ points_text (chosen t (n + 1))
chosen_yes t n text after e f g = g ∙ (ap (λ (s : List ℕ). s ++ (32 ∷ decimal n)) f ∙ (sym (points_push (chosen t n) n) ∙ rw (add-one, e) refl))

-- it is not
pub chosen_no : (t : ℕ → Bool) (n : ℕ) (text : List ℕ) → t n ≡ false → text ≡ points_text (chosen t n) → text ≡ points_text (chosen t (n + 1))
chosen_no t n text e f = f ∙ rw (add-one, e) (ap points_text (sym (append-nil (chosen t n))))

-- the next move of a row
pub row_more : (moves : List ℕ) (i : ℕ) (text after : List ℕ) → i < length moves → text ≡ points_text (take i moves) → after ≡ text ++ (32 ∷ decimal (get_or moves i 0)) → after ≡ points_text (take (i + 1) moves)
row_more moves i text after l f g =
    g ∙ (ap (λ (s : List ℕ). s ++ (32 ∷ decimal (get_or moves i 0))) f ∙ (sym (points_push (take i moves) (get_or moves i 0)) ∙ ap points_text (sym (take_more moves i 0 l))))
