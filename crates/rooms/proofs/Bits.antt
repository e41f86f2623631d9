-- Bits of words, and sets of numbers as bits.
use Rattle.std.proofs.Common.{◌≡◌, ℕ, zero, suc, ◌+◌, ◌-◌, ◌*◌, ◌/◌, ◌%◌, ◌^◌, ◌<◌, ◌≤◌, min, false, not, ◌&&◌, ◌||◌, eqb, List, length, get_or, set, replicate, sym, refl, ap, ◌∙◌, pow-suc, one-add, arith}
use Rattle.std.specs.Int.{bit_at, w64}
use lib.Bits.{bit_and, bit_or}
use lib.ListN.{length-replicate}
use lib.Count.{ones, ones_step, ones-le}
use Rattle.std.proofs.lemmas.List.{get_or-set_same, get_or-set_other, get_or_past, get_or-replicate}
use Rattle.std.proofs.lemmas.Nat.Bits.{bit_at_lowest, bit_at-suc, bit_at-zero, bit_at_and, bit_at_not, bit_at_set_same, bit_at_set_other, bit_at_clear_same, bit_at_clear_other, bit_at-lt, same_from_bits_below, shr_and_one}
use Rattle.chains.specs.Computed.{count}
use Rattle.rooms.specs.Bits.{bit, member}
use Rattle.rooms.proofs.Counts.{count_same, count_add}

-- a bit of a conjunction
pub bit-bit_and : (a b k : ℕ) → bit (bit_and a b) k ≡ (bit a k && bit b k)
unfolding bit
bit-bit_and a b k = rw (bit_at_and a b k) (both (bit_at a k) (bit_at b k) (bit_at-lt a k) (bit_at-lt b k))
  where
    both : (x y : ℕ) → x < 2 → y < 2 → eqb (min x y) 1 ≡ (eqb x 1 && eqb y 1)
    both x y l m = grind arith

-- a bit of the complement of a word
pub bit-not : (a k : ℕ) → a < 2 ^ 64 → k < 64 → bit (18446744073709551615 - a) k ≡ not (bit a k)
unfolding bit
bit-not a k h l = rw (bit_at_not w64 a k h l) (other (bit_at a k) (bit_at-lt a k))
  where
    other : (x : ℕ) → x < 2 → eqb (1 - x) 1 ≡ not (eqb x 1)
    other x l = grind arith

-- zero has no bit set
pub bit_zero : (k : ℕ) → bit 0 k ≡ false
unfolding bit
bit_zero k = rw (bit_at-zero k) refl

-- the other bits are those of the half
bit_half : (a k : ℕ) → bit a (suc k) ≡ bit (a / 2) k
unfolding bit
bit_half a k = rw (bit_at-suc a k) refl

-- the lowest digit
count_first : (a : ℕ) → count (bit a) 1 ≡ a % 2
unfolding bit count
count_first a = grind (arith, bit_at_lowest, bit_at-lt)

-- the bits that are set below k are as many as the ones of a word of k bits
pub ones_count : (k a : ℕ) → a < 2 ^ k → ones a ≡ count (bit a) k
unfolding count
ones_count zero a h = omega (arith, ones-le 0 a h)
ones_count (suc k) a h =
    let e : 2 ^ suc k ≡ 2 ^ k * 2 = pow-suc 2 k in
    let rest = ones_count k (a / 2) (omega arith) in
    let later : count (bit (a / 2)) k ≡ count (λ i. bit a (1 + i)) k = count_same (bit (a / 2)) (λ i. bit a (1 + i)) k (λ i l. rw (one-add i) (sym (bit_half a i))) in
    let all : count (bit a) (suc k) ≡ count (bit a) 1 + count (λ i. bit a (1 + i)) k = ap (count (bit a)) (sym (one-add k)) ∙ count_add (bit a) 1 k in
    omega (arith, ones_step a, count_first a)

-- a word of k bits of which none is set is zero
pub bits_zero : (k a : ℕ) → a < 2 ^ k → ((i : ℕ) → i < k → bit a i ≡ false) → a ≡ 0
unfolding bit
bits_zero k a h none = same_from_bits_below k a 0 h (omega arith) (λ i l. let e = none i l in grind (arith, bit_at-zero, bit_at-lt))

-- whether a number is in the set is told by the bit of its word
pub member_word : (words : List ℕ) (i k : ℕ) → i / 64 ≡ k → member words i ≡ bit (get_or words k 0) (i % 64)
unfolding member
member_word words i k e = rw e refl

-- a number past the words is in no set
pub member_past : (words : List ℕ) (i : ℕ) → length words * 64 ≤ i → member words i ≡ false
unfolding member
member_past words i l = rw (get_or_past words (i / 64) 0 (omega arith)) (bit_zero (i % 64))

-- a set with one number more
pub member_insert : (words : List ℕ) (n i : ℕ) → n / 64 < length words →
    member (set words (n / 64) (bit_or (get_or words (n / 64) 0) (1 * 2 ^ (n % 64) % 18446744073709551616))) i ≡ (member words i || eqb i n)
unfolding member bit
member_insert words n i l = grind (arith, get_or-set_same, get_or-set_other, bit_at_set_same w64, bit_at_set_other w64)

-- a set with one number less
pub member_remove : (words : List ℕ) (n i : ℕ) → n / 64 < length words →
    member (set words (n / 64) (bit_and (get_or words (n / 64) 0) (18446744073709551615 - 1 * 2 ^ (n % 64) % 18446744073709551616))) i ≡ (member words i && not (eqb i n))
unfolding member bit
member_remove words n i l = grind (arith, get_or-set_same, get_or-set_other, bit_at_clear_same w64, bit_at_clear_other w64)

-- a number that is not in the set is not there to be taken out
pub member_without : (words : List ℕ) (n i : ℕ) → length words * 64 ≤ n → member words i ≡ (member words i && not (eqb i n))
member_without words n i l = grind (arith, member_past)

get_or-zeros : (n j : ℕ) → ◌≡◌ {A = ℕ} (get_or (replicate n 0) j 0) 0
get_or-zeros n j = grind (arith, get_or-replicate, get_or_past, length-replicate)

-- a set of words that are all zero has no number
pub member_zeros : (words : List ℕ) (i : ℕ) → words ≡ replicate (length words) 0 → member words i ≡ false
unfolding member
member_zeros words i e = rw (e, get_or-zeros (length words) (i / 64)) (bit_zero (i % 64))

-- the bit as it is read: the word is shifted and its lowest digit taken
pub member_read : (words : List ℕ) (i : ℕ) → eqb (bit_and (get_or words (i / 64) 0 / 2 ^ (i % 64)) 1) 1 ≡ member words i
unfolding member bit
member_read words i = rw (shr_and_one (get_or words (i / 64) 0) (i % 64)) refl
