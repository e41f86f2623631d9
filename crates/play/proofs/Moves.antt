-- Moves of the other side: the board after is computed, and there is only one.
use Rattle.std.proofs.Common.{◌≡◌, ℕ, ◌<◌, true, ◌≢◌, ◌⊎◌, sym, refl, ◌∙◌, subst, inl, inr}
use Rattle.std.proofs.lemmas.Bool.{cases_Bool, cases_eq, eq-eqb, ne_eqb}
use Rattle.grid.specs.Graph.{Near, Graph}
use Rattle.chains.specs.Board.{pick, State, none, mine, yours, Board, Joined, at, on, Breathes}
use Rattle.chains.specs.Stands.{Stand}
use Rattle.chains.specs.Computed.{breathing}
use Rattle.chains.proofs.States.{Kind, is_none, is_mine, is_yours, kind, none_mine, none_yours, mine_yours, same_state}
use Rattle.chains.proofs.Chain.{joined_last, joined_map, joined_sym, breathing_breathes, breathes_breathing, breathes_or_not, breathes_along, breathes_map}
use Rattle.play.specs.Played.{with_stone, Played}
use Rattle.play.specs.After.{left_on, after}

-- what a board with one more stone of yours has at q, with its equation
pub data Put (x : ℕ) (b : Board) (q : ℕ) : Type 0 where
  the_stone : q ≡ x → with_stone x b q ≡ yours → Put x b q
  elsewhere : q ≢ x → with_stone x b q ≡ b q → Put x b q

-- q is the new stone or is as it was
pub put : (x : ℕ) (b : Board) (q : ℕ) → Put x b q
put x b q = elim (cases_eq q x) [ inl e ↦ the_stone e (rw (eq-eqb q x e) refl) | inr other ↦ elsewhere other (rw (ne_eqb q x other) refl) ]

-- another point is as it was
pub put_other : (x : ℕ) (b : Board) (q : ℕ) → q ≢ x → with_stone x b q ≡ b q
put_other x b q o = elim (put x b q) [ the_stone s w ↦ absurd (o s) | elsewhere k w ↦ w ]

-- what is not yours after the stone is put was so before
pub put_was : (x : ℕ) (b : Board) (q : ℕ) (c : State) → (c ≡ yours → ⊥) → with_stone x b q ≡ c → (q ≢ x) × (b q ≡ c)
put_was x b q c h e = elim (put x b q) [ the_stone s w ↦ absurd (h (sym e ∙ w)) | elsewhere o w ↦ (o, sym w ∙ e) ]

-- what the computed board holds: all that Played says of a board but the breath of the new stone
pub record Made (near : Near) (b : Board) (x : ℕ) (d : Board) : Type 0 where
  pub was : b x ≡ none
  pub there : d x ≡ yours
  pub empty : (q : ℕ) → q ≢ x → b q ≡ none → d q ≡ none
  pub stands : (q : ℕ) → b q ≡ yours → d q ≡ yours
  pub breathing : (q : ℕ) → b q ≡ mine → Breathes near (with_stone x b) mine q → d q ≡ mine
  pub taken : (q : ℕ) → b q ≡ mine → (Breathes near (with_stone x b) mine q → ⊥) → d q ≡ none

-- a board that was played was made
pub played_made : {near : Near} {b d : Board} {x : ℕ} → Played near b x d → Made near b x d
played_made p = record { was = p.was; there = p.there; empty = p.empty; stands = p.stands; breathing = p.breathing; taken = p.taken }

-- a board that was made with a new stone that breathes was played
pub made_played : {near : Near} {b d : Board} {x : ℕ} → Made near b x d → Breathes near d yours x → Played near b x d
made_played m h = record { was = m.was; there = m.there; empty = m.empty; stands = m.stands; breathing = m.breathing; taken = m.taken; breathes = h }

-- two boards of one move agree at every point, whether the move is allowed or not
pub made_unique : {near : Near} {b d e : Board} {x : ℕ} → Made near b x d → Made near b x e → (q : ℕ) → d q ≡ e q
made_unique {near} {b} {d} {e} {x} m k q = join (kind (b q)) (cases_eq q x)
  where
    join : Kind (b q) → (q ≡ x) ⊎ (q ≢ x) → d q ≡ e q
    join (is_none z) (inl s) = subst (λ (i : ℕ). d i ≡ e i) (sym s) (m.there ∙ sym k.there)
    join (is_none z) (inr o) = m.empty q o z ∙ sym (k.empty q o z)
    join (is_yours z) c = m.stands q z ∙ sym (k.stands q z)
    join (is_mine z) c = same_state (d q) (e q) (λ other.
        let no_breath : Breathes near (with_stone x b) mine q → ⊥ = λ h. other (m.breathing q z h ∙ sym (k.breathing q z h)) in
        other (m.taken q z no_breath ∙ sym (k.taken q z no_breath)))

-- two boards of one move agree at every point, whatever the relation
pub played_unique : {near : Near} {b d e : Board} {x : ℕ} → Played near b x d → Played near b x e → (q : ℕ) → d q ≡ e q
played_unique p k = made_unique (played_made p) (played_made k)

-- the computed board is the board of the move
pub after_made : {n : ℕ} {near : Near} → Graph n near → (b : Board) (x : ℕ) → b x ≡ none → Made near b x (after n near b x)
unfolding after
after_made {n} {near} g b x e = record {
  was = e;
  there = at_yours x (stone_there x refl);
  empty = λ q o z. rw (put_other x b q o ∙ z) refl;
  stands = λ q z. at_yours q (yours_there q z);
  breathing = λ q z h. rw (put_other x b q (apart q z) ∙ z, breathes_breathing g (with_stone x b) mine q h) refl;
  taken = λ q z h. rw (put_other x b q (apart q z) ∙ z) (none_left q h);
}
  where
    stone_there : (q : ℕ) → q ≡ x → with_stone x b q ≡ yours
    stone_there q s = elim (put x b q) [ the_stone t w ↦ w | elsewhere o w ↦ absurd (o s) ]

    yours_there : (q : ℕ) → b q ≡ yours → with_stone x b q ≡ yours
    yours_there q z = elim (put x b q) [ the_stone t w ↦ w | elsewhere o w ↦ w ∙ z ]

    apart : (q : ℕ) → b q ≡ mine → q ≢ x
    apart q z s = none_mine e (subst (λ (i : ℕ). b i ≡ mine) s z)

    at_yours : (q : ℕ) → with_stone x b q ≡ yours → left_on (with_stone x b q) (breathing n near (with_stone x b) mine q) ≡ yours
    at_yours q w = rw w refl

    none_left : (q : ℕ) → (Breathes near (with_stone x b) mine q → ⊥) → pick (breathing n near (with_stone x b) mine q) mine none ≡ none
    none_left q h = elim (cases_Bool (breathing n near (with_stone x b) mine q)) [ inl t ↦ absurd (h (breathing_breathes g (with_stone x b) mine q t)) | inr f ↦ rw f refl ]

-- if the new stone breathes on the computed board, the move is allowed and that board is its board
pub after_played : {n : ℕ} {near : Near} → Graph n near → (b : Board) (x : ℕ) → b x ≡ none → Breathes near (after n near b x) yours x → Played near b x (after n near b x)
after_played g b x e h = made_played (after_made g b x e) h

-- every board of a move is the computed one
pub played_after : {n : ℕ} {near : Near} → Graph n near → {b d : Board} {x : ℕ} → Played near b x d → (q : ℕ) → d q ≡ after n near b x q
played_after g {b = b} {x = x} p = made_unique (played_made p) (after_made g b x p.was)

-- the new stone of an allowed move breathes on the computed board
pub played_breathes : {n : ℕ} {near : Near} → Graph n near → {b d : Board} {x : ℕ} → Played near b x d → Breathes near (after n near b x) yours x
played_breathes g p = breathes_map (λ r j. sym (played_after g p r) ∙ joined_last j) (λ e z. sym (played_after g p e) ∙ z) p.breathes

-- a move is allowed or not
pub played_or_not : {n : ℕ} {near : Near} → Graph n near → (b : Board) (x : ℕ) → ((d : Board) × Played near b x d) ⊎ ((d : Board) → Played near b x d → ⊥)
played_or_not {n} {near} g b x = join (kind (b x))
  where
    breath : b x ≡ none → Breathes near (after n near b x) yours x ⊎ (Breathes near (after n near b x) yours x → ⊥) → ((d : Board) × Played near b x d) ⊎ ((d : Board) → Played near b x d → ⊥)
    breath z (inl h) = inl (after n near b x, after_played g b x z h)
    breath z (inr h) = inr (λ d p. h (played_breathes g p))

    join : Kind (b x) → ((d : Board) × Played near b x d) ⊎ ((d : Board) → Played near b x d → ⊥)
    join (is_none z) = breath z (breathes_or_not g (after n near b x) yours x)
    join (is_mine z) = inr (λ d p. none_mine p.was z)
    join (is_yours z) = inr (λ d p. none_yours p.was z)

-- a stone of mine does not become yours
pub made_not_yours : {near : Near} {b d : Board} {x q : ℕ} → Made near b x d → b q ≡ mine → d q ≡ yours → ⊥
made_not_yours {q = q} m z y = none_yours (m.taken q z (λ h. mine_yours (m.breathing q z h) y)) y

-- what is mine after was mine before
pub made_mine : {near : Near} {b d : Board} {x q : ℕ} → Made near b x d → d q ≡ mine → b q ≡ mine
made_mine {b = b} {d = d} {x = x} {q = q} m y = join (kind (b q)) (cases_eq q x)
  where
    join : Kind (b q) → (q ≡ x) ⊎ (q ≢ x) → b q ≡ mine
    join (is_none z) (inl s) = absurd (mine_yours y (subst (λ (i : ℕ). d i ≡ yours) (sym s) m.there))
    join (is_none z) (inr o) = absurd (none_mine (m.empty q o z) y)
    join (is_yours z) c = absurd (mine_yours y (m.stands q z))
    join (is_mine z) c = z

-- what is yours after was yours before or is the new stone
pub made_yours : {near : Near} {b d : Board} {x q : ℕ} → Made near b x d → d q ≡ yours → (b q ≡ yours) ⊎ (q ≡ x)
made_yours {b = b} {x = x} {q = q} m y = join (kind (b q)) (cases_eq q x)
  where
    join : Kind (b q) → (q ≡ x) ⊎ (q ≢ x) → (b q ≡ yours) ⊎ (q ≡ x)
    join (is_none z) (inl s) = inr s
    join (is_none z) (inr o) = absurd (none_yours (m.empty q o z) y)
    join (is_yours z) c = inl z
    join (is_mine z) c = absurd (made_not_yours m z y)

-- a chain with a last point on the board has its first point there
joined_inside : {n : ℕ} {near : Near} → Graph n near → {b : Board} {c : State} {p q : ℕ} → Joined near b c p q → q < n → p < n
joined_inside g (at e) h = h
joined_inside g (on {q = q} r j a e) h = joined_inside g j (g.inside q r a)

-- boards that can stand go on standing
pub goes_on : {n : ℕ} {near : Near} → Graph n near → {b d : Board} {x : ℕ} → Stand n near b → Played near b x d → Stand n near d
goes_on {n} {near} g {b} {d} {x} s p = record {
  inside = λ q o. on_board q o (kind (b q)) (cases_eq q x);
  mine_breathe = λ q y. my_breath q y (breathes_or_not g (with_stone x b) mine q);
  yours_breathe = λ q y. your_breath q (made_yours (played_made p) y);
}
  where
    on_board : (q : ℕ) → d q ≢ none → Kind (b q) → (q ≡ x) ⊎ (q ≢ x) → q < n
    on_board q o (is_none z) (inl e) = subst (λ (i : ℕ). i < n) (sym e) (joined_inside g p.breathes.chain (g.inside p.breathes.stone p.breathes.empty p.breathes.next))
    on_board q o (is_none z) (inr k) = absurd (o (p.empty q k z))
    on_board q o (is_mine z) c = s.inside q (λ e. none_mine e z)
    on_board q o (is_yours z) c = s.inside q (λ e. none_yours e z)

    my_breath : (q : ℕ) → d q ≡ mine → Breathes near (with_stone x b) mine q ⊎ (Breathes near (with_stone x b) mine q → ⊥) → Breathes near d mine q
    my_breath q y (inr h) = absurd (none_mine (p.taken q (made_mine (played_made p) y) h) y)
    my_breath q y (inl h) =
        breathes_map
        (λ r j. p.breathing r (put_was x b r mine (λ e. mine_yours refl e) (joined_last j)).1 (breathes_along (joined_sym g j) h))
        (λ e z. let w = put_was x b e none (λ k. none_yours refl k) z in p.empty e w.0 w.1)
        h

    still : (q : ℕ) → b q ≡ yours → (h : Breathes near b yours q) → (h.empty ≡ x) ⊎ (h.empty ≢ x) → Breathes near d yours q
    still q z h (inl e) =
        breathes_along (on x (joined_map (λ r j. p.stands r (joined_last j)) h.chain) (subst (λ (i : ℕ). near h.stone i ≡ true) e h.next) p.there) p.breathes
    still q z h (inr o) =
        record { stone = h.stone; chain = joined_map (λ r j. p.stands r (joined_last j)) h.chain; empty = h.empty; next = h.next; is = p.empty h.empty o h.is }

    your_breath : (q : ℕ) → (b q ≡ yours) ⊎ (q ≡ x) → Breathes near d yours q
    your_breath q (inr e) = subst (λ (i : ℕ). Breathes near d yours i) (sym e) p.breathes
    your_breath q (inl z) = let h = s.yours_breathe q z in still q z h (cases_eq h.empty x)
