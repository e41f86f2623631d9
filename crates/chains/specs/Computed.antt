-- Chains and breath as tests that compute, by looking at every point. Assumes nothing: these are definitions.
use Rattle.std.specs.Prelude.{ℕ, zero, suc, ◌+◌, Bool, true, false, ◌&&◌, ◌||◌, ◌==◌}
use Rattle.grid.specs.Graph.{Near}
use Rattle.chains.specs.Board.{State, none, mine, yours, Board}

-- whether a state is c
abbrev pub is_state : State → State → Bool
is_state none none = true
is_state none mine = false
is_state none yours = false
is_state mine none = false
is_state mine mine = true
is_state mine yours = false
is_state yours none = false
is_state yours mine = false
is_state yours yours = true

-- whether some point below n passes the test
unfoldable pub any : (ℕ → Bool) → ℕ → Bool
any t zero = false
any t (suc n) = any t n || t n

-- one or nothing
abbrev pub one_if : Bool → ℕ
one_if true = 1
one_if false = 0

-- how many points below n pass the test
unfoldable pub count : (ℕ → Bool) → ℕ → ℕ
count t zero = 0
count t (suc n) = one_if (t n) + count t n

-- whether q is reached from p through inner points below k
unfoldable pub through : Near → (ℕ → Bool) → ℕ → ℕ → ℕ → Bool
through near t zero p q = (t p && t q) && (p == q || near p q)
through near t (suc k) p q = through near t k p q || (through near t k p k && through near t k k q)

-- whether q is reached from p
unfoldable pub reaches : ℕ → Near → (ℕ → Bool) → ℕ → ℕ → Bool
reaches n near t p q = through near t n p q

-- whether s has an empty neighbour
unfoldable pub has_liberty : ℕ → Near → Board → ℕ → Bool
has_liberty n near b s = any (λ e. near s e && is_state none (b e)) n

-- whether the chain of p has a liberty, found by looking at every point
unfoldable pub breathing : ℕ → Near → Board → State → ℕ → Bool
breathing n near b c p = any (λ s. reaches n near (λ r. is_state c (b r)) p s && has_liberty n near b s) n
