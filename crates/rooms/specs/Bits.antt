-- Sets of small numbers as bits of words of 64 bits. Assumes nothing: these are definitions.
use Rattle.std.specs.Prelude.{ℕ, ◌/◌, ◌%◌, ◌^◌, Bool, ◌&&◌, List, ◌==◌, slice_index}
use Rattle.chains.specs.Computed.{count}

-- whether bit k of the word is set
unfoldable pub bit : ℕ → ℕ → Bool
bit word k = word / 2 ^ k % 2 == 1

-- whether the number i is in the set: 64 numbers a word
unfoldable pub member : List ℕ → ℕ → Bool
member words i = bit (slice_index words (i / 64)) (i % 64)

-- whether i is in both sets
abbrev pub in_both : List ℕ → List ℕ → ℕ → Bool
in_both one two i = member one i && member two i

-- how many numbers below n are in both sets
abbrev pub shared_below : ℕ → List ℕ → List ℕ → ℕ
shared_below n one two = count (in_both one two) n
