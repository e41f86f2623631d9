-- Chains and their breath: a chain is points linked by the test that they have one state.
use Rattle.std.proofs.Common.{◌≡◌, ℕ, true, ◌&&◌, ◌⊎◌, inl, inr}
use Rattle.std.proofs.lemmas.Bool.{both_ways, cases_Bool, and_parts, and_from}
use Rattle.grid.specs.Graph.{Near, Graph}
use Rattle.chains.specs.Board.{State, none, Board, Joined, at, on, Breathes}
use Rattle.chains.specs.Linked.{Linked, here, step}
use Rattle.chains.specs.Computed.{has_liberty, breathing, is_state, reaches}
use Rattle.chains.proofs.States.{is_state_true, state_is}
use Rattle.chains.proofs.Below.{any_true, true_any}
use Rattle.chains.proofs.Reach.{reaches_linked, linked_reaches, linked_or_not, linked_first, linked_last, linked_trans, linked_sym, linked_map}

-- a chain as linked points
pub joined_linked : {near : Near} {b : Board} {c : State} {p q : ℕ} → Joined near b c p q → Linked near (λ r. is_state c (b r)) p q
joined_linked {b = b} {c = c} (at {p = p} e) = here (state_is c (b p) e)
joined_linked {b = b} {c = c} (on r j n e) = step r (joined_linked j) n (state_is c (b r) e)

-- and back
pub linked_joined : {near : Near} {b : Board} {c : State} {p q : ℕ} → Linked near (λ r. is_state c (b r)) p q → Joined near b c p q
linked_joined {b = b} {c = c} (here {p = p} e) = at (is_state_true c (b p) e)
linked_joined {b = b} {c = c} (step r l n e) = on r (linked_joined l) n (is_state_true c (b r) e)

-- the first stone of a chain has its state
pub joined_first : {near : Near} {b : Board} {c : State} {p q : ℕ} → Joined near b c p q → b p ≡ c
joined_first {b = b} {c = c} {p = p} j = is_state_true c (b p) (linked_first (joined_linked j))

-- so has the last
pub joined_last : {near : Near} {b : Board} {c : State} {p q : ℕ} → Joined near b c p q → b q ≡ c
joined_last {b = b} {c = c} {q = q} j = is_state_true c (b q) (linked_last (joined_linked j))

-- stones joined to one stone are joined
pub joined_trans : {near : Near} {b : Board} {c : State} {p q r : ℕ} → Joined near b c p q → Joined near b c q r → Joined near b c p r
joined_trans j k = linked_joined (linked_trans (joined_linked j) (joined_linked k))

-- a chain read from its other end
pub joined_sym : {n : ℕ} {near : Near} → Graph n near → {b : Board} {c : State} {p q : ℕ} → Joined near b c p q → Joined near b c q p
joined_sym g j = linked_joined (linked_sym g (joined_linked j))

-- carries a chain to another board on which every point of it still has the colour
pub joined_map : {near : Near} {b d : Board} {c : State} {p q : ℕ} → ((r : ℕ) → Joined near b c p r → d r ≡ c) → Joined near b c p q → Joined near d c p q
joined_map {d = d} {c = c} f j = linked_joined (linked_map (λ r l. state_is c (d r) (f r (linked_joined l))) (joined_linked j))

-- stones are joined or not
pub joined_or_not : {n : ℕ} {near : Near} → Graph n near → (b : Board) (c : State) (p q : ℕ) → Joined near b c p q ⊎ (Joined near b c p q → ⊥)
joined_or_not g b c p q = elim (linked_or_not g (λ r. is_state c (b r)) p q) [ inl l ↦ inl (linked_joined l) | inr no_way ↦ inr (λ j. no_way (joined_linked j)) ]

-- a chain that is found to breathe does
pub breathing_breathes : {n : ℕ} {near : Near} → Graph n near → (b : Board) (c : State) (p : ℕ) → breathing n near b c p ≡ true → Breathes near b c p
unfolding breathing has_liberty
breathing_breathes {n} {near} g b c p e =
    let w = any_true (λ s. reaches n near (λ r. is_state c (b r)) p s && has_liberty n near b s) n e in
    let s = w.0 in
    let k = and_parts (reaches n near (λ r. is_state c (b r)) p s) (has_liberty n near b s) w.2 in
    let v = any_true (λ e. near s e && is_state none (b e)) n k.1 in
    let m = and_parts (near s v.0) (is_state none (b v.0)) v.2 in
    record { stone = s; chain = linked_joined (reaches_linked g (λ r. is_state c (b r)) p s k.0); empty = v.0; next = m.0; is = is_state_true none (b v.0) m.1 }

-- a chain that breathes is found to
pub breathes_breathing : {n : ℕ} {near : Near} → Graph n near → (b : Board) (c : State) (p : ℕ) → Breathes near b c p → breathing n near b c p ≡ true
unfolding breathing has_liberty
breathes_breathing {n} {near} g b c p h =
    true_any (λ s. reaches n near (λ r. is_state c (b r)) p s && has_liberty n near b s) n h.stone (g.inside h.stone h.empty h.next)
    (and_from (reaches n near (λ r. is_state c (b r)) p h.stone) (has_liberty n near b h.stone)
    (linked_reaches g (λ r. is_state c (b r)) p h.stone (joined_linked h.chain))
    (true_any (λ e. near h.stone e && is_state none (b e)) n h.empty (g.inside h.empty h.stone (g.symmetric h.stone h.empty h.next))
    (and_from (near h.stone h.empty) (is_state none (b h.empty)) h.next (state_is none (b h.empty) h.is))))

-- a chain breathes or not
pub breathes_or_not : {n : ℕ} {near : Near} → Graph n near → (b : Board) (c : State) (p : ℕ) → Breathes near b c p ⊎ (Breathes near b c p → ⊥)
breathes_or_not {n} {near} g b c p =
    elim (cases_Bool (breathing n near b c p)) [ inl e ↦ inl (breathing_breathes g b c p e) | inr e ↦ inr (λ h. both_ways (breathing n near b c p) e (breathes_breathing g b c p h)) ]

-- a stone joined to a breathing one breathes
pub breathes_along : {near : Near} {b : Board} {c : State} {p q : ℕ} → Joined near b c p q → Breathes near b c q → Breathes near b c p
breathes_along j h = record { stone = h.stone; chain = joined_trans j h.chain; empty = h.empty; next = h.next; is = h.is }

-- carries breath to another board on which the chain still has its colour and its empty neighbours are empty
pub breathes_map : {near : Near} {b d : Board} {c : State} {p : ℕ} → ((r : ℕ) → Joined near b c p r → d r ≡ c) → ((e : ℕ) → b e ≡ none → d e ≡ none) → Breathes near b c p → Breathes near d c p
breathes_map f g h = record { stone = h.stone; chain = joined_map f h.chain; empty = h.empty; next = h.next; is = g h.empty h.is }
