-- What stands on a point, told with its equation.
use Rattle.std.proofs.Common.{◌≡◌, ℕ, true, false, refl, inl, inr, arith}
use Rattle.std.proofs.lemmas.Bool.{false≢true, cases_Bool, both_ways}
use Rattle.chains.specs.Board.{State, none, mine, yours}
use Rattle.chains.specs.Computed.{is_state}

-- what stands on a point, with its equation
pub data Kind (s : State) : Type 0 where
  is_none : s ≡ none → Kind s
  is_mine : s ≡ mine → Kind s
  is_yours : s ≡ yours → Kind s

-- every point is empty, mine or yours
pub kind : (s : State) → Kind s
kind none = is_none refl
kind mine = is_mine refl
kind yours = is_yours refl

-- an empty point has no stone of mine
pub none_mine : {s : State} → s ≡ none → s ≡ mine → ⊥
none_mine p q = let z : ◌≡◌ {A = ℕ} 0 1 = cc in omega arith

-- an empty point has no stone of yours
pub none_yours : {s : State} → s ≡ none → s ≡ yours → ⊥
none_yours p q = let z : ◌≡◌ {A = ℕ} 0 1 = cc in omega arith

-- a stone of mine is not yours
pub mine_yours : {s : State} → s ≡ mine → s ≡ yours → ⊥
mine_yours p q = let z : ◌≡◌ {A = ℕ} 0 1 = cc in omega arith

-- a state that passes the test is c
pub is_state_true : (c s : State) → is_state c s ≡ true → s ≡ c
is_state_true none none e = refl
is_state_true none mine e = absurd (false≢true e)
is_state_true none yours e = absurd (false≢true e)
is_state_true mine none e = absurd (false≢true e)
is_state_true mine mine e = refl
is_state_true mine yours e = absurd (false≢true e)
is_state_true yours none e = absurd (false≢true e)
is_state_true yours mine e = absurd (false≢true e)
is_state_true yours yours e = refl

-- the state c passes the test
pub state_is : (c s : State) → s ≡ c → is_state c s ≡ true
state_is c s e = rw e (own c)
  where
    own : (k : State) → is_state k k ≡ true
    own none = refl
    own mine = refl
    own yours = refl

-- another state than c does not
pub state_is_not : (c s : State) → (s ≡ c → ⊥) → is_state c s ≡ false
state_is_not c s other = elim (cases_Bool (is_state c s)) [ inl e ↦ absurd (other (is_state_true c s e)) | inr e ↦ e ]

-- two states that are not different are the same
pub same_state : (s c : State) → ((s ≡ c → ⊥) → ⊥) → s ≡ c
same_state s c h = elim (cases_Bool (is_state c s)) [ inl e ↦ is_state_true c s e | inr e ↦ absurd (h (λ q. both_ways (is_state c s) e (state_is c s q))) ]
