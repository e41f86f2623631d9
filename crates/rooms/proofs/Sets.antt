-- Sets of numbers as bits of words: taking one set from another, and how many numbers are in both.
use Rattle.std.proofs.Common.{◌≡◌, ℕ, zero, suc, ◌+◌, ◌-◌, ◌*◌, ◌/◌, ◌%◌, ◌^◌, ◌<◌, ◌≤◌, Bool, false, not, ◌&&◌, List, [], ◌∷◌, length, get_or, sym, refl, ap, ◌∙◌, inl, inr, arith}
use Rattle.std.specs.List.{sum_by, zip}
use lib.Bits.{bit_and}
use lib.Count.{ones}
use Rattle.std.proofs.lemmas.Nat.{and_le_l}
use Rattle.std.proofs.lemmas.List.Sums.{sum_by-cons}
use Rattle.std.proofs.lemmas.Bool.{cases_lt}
use Rattle.chains.specs.Computed.{count}
use Rattle.chains.proofs.Below.{count_bound}
use Rattle.rooms.specs.Bits.{bit, member, in_both, shared_below}
use Rattle.rooms.proofs.Bits.{bit-bit_and, bit-not, ones_count, bits_zero, member_past, member_word}
use Rattle.rooms.proofs.Counts.{count_same, count_add}

-- a set from which another was taken, word by word
pub member_without_all : (was struck is : List ℕ) → length is ≡ length was → ((k : ℕ) → k < length was → get_or struck k 0 < 2 ^ 64) →
    ((k : ℕ) → k < length was → get_or is k 0 ≡ bit_and (get_or was k 0) (18446744073709551615 - get_or struck k 0)) → (i : ℕ) → member is i ≡ (member was i && not (member struck i))
member_without_all was struck is long width taken i = elim (cases_lt (i / 64) (length was)) [
  | inl l ↦ (let w = width (i / 64) l in
      rw (
        member_word is i (i / 64) refl,
        taken (i / 64) l,
        bit-bit_and (get_or was (i / 64) 0) (18446744073709551615 - get_or struck (i / 64) 0) (i % 64),
        bit-not (get_or struck (i / 64) 0) (i % 64) w (omega arith),
        member_word was i (i / 64) refl,
        member_word struck i (i / 64) refl,
      ) refl)
  | inr l ↦ rw (member_past is i (omega arith), member_past was i (omega arith)) refl
]

-- how many rooms a word of both sets has
shared_word : (x y : ℕ) → x < 2 ^ 64 → ones (bit_and x y) ≡ count (λ i. bit x i && bit y i) 64
shared_word x y l = ones_count 64 (bit_and x y) (omega (arith, and_le_l x y)) ∙ count_same (bit (bit_and x y)) (λ i. bit x i && bit y i) 64 (λ i m. bit-bit_and x y i)

count_zero : (t : ℕ → Bool) → count t 0 ≡ 0
unfolding count
count_zero t = refl

-- a number of the first word is told by its bit
member_first : (x : ℕ) (xs : List ℕ) (i : ℕ) → i < 64 → member (x ∷ xs) i ≡ bit x i
member_first x xs i l = let m : i % 64 ≡ i = omega arith in member_word (x ∷ xs) i 0 (omega arith) ∙ rw m refl

-- a number past the first word is in the set if it is in that of the other words
member_later : (x : ℕ) (xs : List ℕ) (i : ℕ) → member (x ∷ xs) (64 + i) ≡ member xs i
unfolding member
member_later x xs i =
    let d : (64 + i) / 64 ≡ suc (i / 64) = omega arith in
    let m : (64 + i) % 64 ≡ i % 64 = omega arith in
    rw (d, m) refl

-- how many rooms both sets have, word by word
pub shared_words : (one two : List ℕ) (n : ℕ) → length one ≡ n → length two ≡ n → ((k : ℕ) → k < n → get_or one k 0 < 2 ^ 64) →
    sum_by (λ (p : ℕ × ℕ). ones (bit_and p.0 p.1)) (zip one two) ≡ shared_below (n * 64) one two
shared_words [] two n e f width = let z : n * 64 ≡ 0 = omega (arith, e) in rw z (sym (count_zero (in_both [] two)))
shared_words (x ∷ xs) [] n e f width = absurd (let z : length (x ∷ xs) ≡ 0 = e ∙ sym f in omega arith)
shared_words (x ∷ xs) (y ∷ ys) zero e f width = absurd (omega arith)
shared_words (x ∷ xs) (y ∷ ys) (suc n) e f width =
    let split : suc n * 64 ≡ 64 + n * 64 = omega arith in
    let later : count (λ i. in_both (x ∷ xs) (y ∷ ys) (64 + i)) (n * 64) ≡ shared_below (n * 64) xs ys =
    count_same (λ i. in_both (x ∷ xs) (y ∷ ys) (64 + i)) (in_both xs ys) (n * 64) (λ i l. rw (member_later x xs i, member_later y ys i) refl) in
    let rest = shared_words xs ys n (omega (arith, e)) (omega (arith, f)) (λ k l. width (suc k) (omega arith)) in
    let here : count (in_both (x ∷ xs) (y ∷ ys)) 64 ≡ count (λ i. bit x i && bit y i) 64 =
    count_same (in_both (x ∷ xs) (y ∷ ys)) (λ i. bit x i && bit y i) 64 (λ i l. rw (member_first x xs i l, member_first y ys i l) refl) in
    rw (sum_by-cons (λ (p : ℕ × ℕ). ones (bit_and p.0 p.1)) (x, y) (zip xs ys), split, count_add (in_both (x ∷ xs) (y ∷ ys)) 64 (n * 64))
    (omega (arith, shared_word x y (width 0 (omega arith))))

-- one word more
pub shared_more : (one two : List ℕ) (k : ℕ) → get_or one k 0 < 2 ^ 64 →
    shared_below ((k + 1) * 64) one two ≡ shared_below (k * 64) one two + ones (bit_and (get_or one k 0) (get_or two k 0))
shared_more one two k width =
    let e : (k + 1) * 64 ≡ k * 64 + 64 = omega arith in
    let split = count_add (in_both one two) (k * 64) 64 in
    let word : count (λ i. in_both one two (k * 64 + i)) 64 ≡ count (bit v) 64 = count_same (λ i. in_both one two (k * 64 + i)) (bit v) 64 each in
    let tally : ones v ≡ count (bit v) 64 = ones_count 64 v (omega (arith, and_le_l (get_or one k 0) (get_or two k 0))) in
    rw e (omega arith)
  where
    v : ℕ
    v = bit_and (get_or one k 0) (get_or two k 0)

    each : (i : ℕ) → i < 64 → in_both one two (k * 64 + i) ≡ bit v i
    each i l =
        let d : (k * 64 + i) / 64 ≡ k = omega arith in
        let m : (k * 64 + i) % 64 ≡ i = omega arith in
        rw (member_word one (k * 64 + i) k d, member_word two (k * 64 + i) k d, m) (sym (bit-bit_and (get_or one k 0) (get_or two k 0) i))

-- a word is zero if none of its numbers is in the set
pub word_zero : (words : List ℕ) (k : ℕ) → get_or words k 0 < 2 ^ 64 → ((i : ℕ) → i / 64 ≡ k → member words i ≡ false) → get_or words k 0 ≡ 0
word_zero words k width none = bits_zero 64 (get_or words k 0) width (λ i l.
    let d : (k * 64 + i) / 64 ≡ k = omega arith in
    let m : (k * 64 + i) % 64 ≡ i = omega arith in
    ap (bit (get_or words k 0)) (sym m) ∙ sym (member_word words (k * 64 + i) k d) ∙ none (k * 64 + i) d)

-- a count of what is shared does not pass the numbers that are looked at
pub shared_bound : (n : ℕ) (one two : List ℕ) → shared_below n one two ≤ n
shared_bound n one two = count_bound (in_both one two) n
