-- Boards as each side sees them, and what a move makes of one.
use Rattle.std.proofs.Common.{◌≡◌, ℕ, ◌<◌, ◌≤◌, ◌⊎◌, sym, refl, ap, ◌∙◌, subst, inl, inr, arith}
use mathlib.Core.Path.{fun_ext}
use Rattle.std.proofs.lemmas.Bool.{cases_Bool, cases_lt, both_ways}
use Rattle.grid.specs.Graph.{Near, Graph}
use Rattle.chains.specs.Board.{State, none, mine, yours, Board, Joined, at, on, Breathes}
use Rattle.chains.specs.Stands.{Stand}
use Rattle.chains.specs.Computed.{is_state}
use Rattle.chains.specs.Views.{other}
use Rattle.chains.specs.declared.colour.Colour.{Colour}
use Rattle.chains.specs.declared.colour.Colour.TheVariants.{Black, White}
use Rattle.chains.proofs.States.{is_none, is_mine, is_yours, kind, none_mine, none_yours, is_state_true, state_is}
use Rattle.chains.proofs.Below.{find}
use Rattle.play.proofs.Moves.{played_unique, goes_on}
use Rattle.referee.specs.declared.moves.Move.{Move}
use Rattle.referee.specs.declared.moves.Move.TheVariants.{Pass, At}
use Rattle.referee.specs.Rules.{turned, as_seen, seen, Same, Makes}

-- seen from the one side and then from the other, a point is as it was
pub seen_back : (c : Colour) (s : State) → as_seen c (as_seen c s) ≡ s
seen_back Black s = refl
seen_back White none = refl
seen_back White mine = refl
seen_back White yours = refl

-- both sides see an empty point
pub seen_none : (c : Colour) → as_seen c none ≡ none
seen_none Black = refl
seen_none White = refl

-- what a side sees says what stands there
pub seen_is : (c : Colour) {s t : State} → as_seen c s ≡ t → s ≡ as_seen c t
seen_is c {s} e = sym (seen_back c s) ∙ ap (as_seen c) e

-- the same board seen twice from one side
pub board_back : (c : Colour) (b : Board) → seen c (seen c b) ≡ b
board_back c b = fun_ext (λ q. seen_back c (b q))

-- a chain is a chain to both sides
pub joined_seen : {near : Near} {b : Board} {s : State} {p q : ℕ} (c : Colour) → Joined near b s p q → Joined near (seen c b) (as_seen c s) p q
joined_seen c (at e) = at (ap (as_seen c) e)
joined_seen c (on r j a e) = on r (joined_seen c j) a (ap (as_seen c) e)

-- and breathes to both
pub breathes_seen : {near : Near} {b : Board} {s : State} {p : ℕ} (c : Colour) → Breathes near b s p → Breathes near (seen c b) (as_seen c s) p
breathes_seen c h = record { stone = h.stone; chain = joined_seen c h.chain; empty = h.empty; next = h.next; is = ap (as_seen c) h.is ∙ seen_none c }

-- a board that can stand does so to both sides
pub stand_seen : {n : ℕ} {near : Near} {b : Board} (c : Colour) → Stand n near b → Stand n near (seen c b)
stand_seen Black s = s
stand_seen White s = record {
  inside = λ p o. s.inside p (λ e. o (ap turned e));
  mine_breathe = λ p e. breathes_seen White (s.yours_breathe p (seen_is White e));
  yours_breathe = λ p e. breathes_seen White (s.mine_breathe p (seen_is White e));
}

-- and if it does to one
pub stand_back : {n : ℕ} {near : Near} (c : Colour) (b : Board) → Stand n near (seen c b) → Stand n near b
stand_back {n} {near} c b s = subst (λ (d : Board). Stand n near d) (board_back c b) (stand_seen c s)

-- a board that can stand still can after a move
pub makes_stand : {n : ℕ} {near : Near} → Graph n near → {b d : Board} (c : Colour) (m : Move) → Stand n near b → Makes near c b m d → Stand n near d
makes_stand {n} {near} g c Pass s h = subst (λ (e : Board). Stand n near e) (sym (fun_ext h)) s
makes_stand g {d = d} c (At x) s p = stand_back (other c) d (goes_on g (stand_seen (other c) s) p)

-- a move makes one board only
pub makes_one : (near : Near) (b : Board) {d e : Board} (c : Colour) (m : Move) → Makes near c b m d → Makes near c b m e → d ≡ e
makes_one near b c Pass h k = fun_ext (λ q. h q ∙ sym (k q))
makes_one near b {e = e} c (At x) h k = fun_ext (λ q. seen_is (other c) (played_unique h k q) ∙ seen_back (other c) (e q))

-- two points hold the same or not
state_or_not : (s t : State) → (s ≡ t) ⊎ (s ≡ t → ⊥)
state_or_not s t = elim (cases_Bool (is_state t s)) [ inl e ↦ inl (is_state_true t s e) | inr e ↦ inr (λ h. both_ways (is_state t s) e (state_is t s h)) ]

-- past its points a board is empty
pub stand_past : {n : ℕ} {near : Near} {b : Board} → Stand n near b → (p : ℕ) → n ≤ p → b p ≡ none
stand_past {n} {near} {b} s p h = elim (kind (b p)) [
  | is_none e ↦ e
  | is_mine e ↦ absurd (omega (arith, s.inside p (λ z. none_mine z e)))
  | is_yours e ↦ absurd (omega (arith, s.inside p (λ z. none_yours z e)))
]

-- two boards that can stand agree or not
pub same_or_not : {n : ℕ} {near : Near} {b d : Board} → Stand n near b → Stand n near d → Same b d ⊎ (Same b d → ⊥)
same_or_not {n} {near} {b} {d} s t = join (find n (λ p. state_or_not (b p) (d p)))
  where
    everywhere : ((p : ℕ) → p < n → b p ≡ d p) → Same b d
    everywhere all p = elim (cases_lt p n) [ inl h ↦ all p h | inr h ↦ stand_past s p h ∙ sym (stand_past t p h) ]

    join : ((p : ℕ) → p < n → b p ≡ d p) ⊎ ((p : ℕ) × (p < n) × (b p ≡ d p → ⊥)) → Same b d ⊎ (Same b d → ⊥)
    join (inl all) = inl (everywhere all)
    join (inr w) = inr (λ h. w.2 (h w.0))
