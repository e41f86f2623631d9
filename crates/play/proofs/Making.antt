-- The board that a stone makes: the stone is put, and the stones of the other side without breath are taken off.
use Rattle.std.proofs.Common.{◌≡◌, ℕ, ◌<◌, ◌≤◌, Bool, true, false, eqb, List, length, get_or, set, sym, refl, ap, ◌∙◌, subst, inl, inr, arith}
use mathlib.Core.Path.{fun_ext}
use Rattle.std.proofs.lemmas.List.{get_or-set_same, get_or-set_other}
use Rattle.std.proofs.lemmas.Bool.{cases_Bool, cases_eq, cases_lt, eq-eqb, lt-ltb, le-ltb}
use Rattle.grid.specs.Graph.{Near}
use Rattle.grid.specs.Grid.{points, near}
use Rattle.grid.specs.declared.size.Size.{Size}
use Rattle.grid.proofs.Square.{graph}
use Rattle.chains.specs.Board.{pick, State, none, mine, yours, Board}
use Rattle.chains.specs.Breath.{BreathesAt}
use Rattle.chains.specs.Changed.{cells_with, kept_byte}
use Rattle.chains.specs.Computed.{breathing}
use Rattle.chains.specs.Sized.{count_of, near_of, seen}
use Rattle.chains.specs.Views.{stone_byte, other, state_of, view}
use Rattle.chains.specs.declared.colour.Colour.{Colour}
use Rattle.chains.specs.declared.colour.Colour.TheVariants.{Black, White}
use Rattle.chains.specs.declared.position.Position.{Position}
use Rattle.chains.proofs.Breath.{breathes_at_is}
use Rattle.chains.proofs.Chain.{joined_first, breathing_breathes}
use Rattle.chains.proofs.States.{none_yours}
use Rattle.chains.proofs.Views.{view_byte}
use Rattle.play.specs.After.{left_on, after}
use Rattle.play.specs.Played.{with_stone}
use Rattle.play.specs.Stone.{faced}
use Rattle.play.proofs.Moves.{put_other, after_made}

-- a point with one byte on both boards has one state
view_at : (n : ℕ) (a b : List ℕ) (c : Colour) (p : ℕ) → get_or a p 0 ≡ get_or b p 0 → view n a c p ≡ view n b c p
view_at n a b c p e = rw e refl

-- on the board the view is what the byte says
pub view_on_board : (n : ℕ) (bytes : List ℕ) (c : Colour) (p : ℕ) → p < n → view n bytes c p ≡ state_of c (get_or bytes p 0)
view_on_board n bytes c p l = rw (lt-ltb p n l) refl

-- past the board there is nothing
view_past : (n : ℕ) (a b : List ℕ) (c : Colour) (p : ℕ) → n ≤ p → view n a c p ≡ view n b c p
view_past n a b c p l = rw (le-ltb p n l) refl

-- bytes that are the same on the board write one board
pub view_same : (n : ℕ) (a b : List ℕ) (c : Colour) → ((p : ℕ) → p < n → get_or a p 0 ≡ get_or b p 0) → view n a c ≡ view n b c
view_same n a b c f = fun_ext (λ p. elim (cases_lt p n) [ inl l ↦ view_at n a b c p (f p l) | inr l ↦ view_past n a b c p l ])

yours_byte : (colour : Colour) → state_of (other colour) (stone_byte colour) ≡ yours
yours_byte Black = refl
yours_byte White = refl

none_byte : (colour : Colour) → state_of colour 46 ≡ none
none_byte Black = refl
none_byte White = refl

-- the bytes with the stone write the board with the stone
placed_board : (n : ℕ) (cells : List ℕ) (colour : Colour) (point : ℕ) → point < length cells → point < n →
    view n (cells_with n cells point colour) (other colour) ≡ with_stone point (view n cells (other colour))
placed_board n cells colour point long l = rw (lt-ltb point n l) (fun_ext (λ p. elim (cases_eq p point) [
  | inl e ↦ subst (λ (i : ℕ). view n (set cells point (stone_byte colour)) (other colour) i ≡ with_stone point (view n cells (other colour)) i) (sym e) here
  | inr o ↦ view_at n (set cells point (stone_byte colour)) cells (other colour) p (get_or-set_other cells point p (stone_byte colour) 0 o) ∙ sym (put_other point (view n cells (other colour)) p o)
]))
  where
    here : view n (set cells point (stone_byte colour)) (other colour) point ≡ with_stone point (view n cells (other colour)) point
    here = rw (eq-eqb point point refl, lt-ltb point n l, get_or-set_same cells point (stone_byte colour) 0 long) (yours_byte colour)

others_stay : (y breath : Bool) → pick y yours none ≡ left_on (pick y yours none) breath
others_stay true breath = refl
others_stay false breath = refl

-- what a byte says once the stones of that colour that do not breathe are off
kept_state : (c : Colour) (byte : ℕ) (breath : Bool) → state_of c (kept_byte (stone_byte c) byte breath) ≡ left_on (state_of c byte) breath
kept_state c byte breath = elim (cases_Bool (eqb byte (stone_byte c))) [
  | inl e ↦ own breath e
  | inr f ↦ rw f (rw f (others_stay (eqb byte (stone_byte (other c))) breath))
]
  where
    own : (b : Bool) → eqb byte (stone_byte c) ≡ true → state_of c (kept_byte (stone_byte c) byte b) ≡ left_on (state_of c byte) b
    own true e = rw e (rw e refl)
    own false e = rw e (none_byte c)

-- the bytes that are kept write the board without those stones
kept_board : (n : ℕ) (near : Near) (cells left : List ℕ) (c : Colour) → n ≤ 361 →
    ((p : ℕ) → p < 361 → get_or left p 0 ≡ kept_byte (stone_byte c) (get_or cells p 0) (breathing n near (view n cells c) mine p)) →
    view n left c ≡ (λ q. left_on (view n cells c q) (breathing n near (view n cells c) mine q))
kept_board n near cells left c few w = fun_ext (λ q. elim (cases_lt q n) [
  | inl l ↦ view_on_board n left c q l ∙ ap (state_of c) (w q (omega arith)) ∙ kept_state c (get_or cells q 0) (breathing n near (view n cells c) mine q)
      ∙ ap (λ (s : State). left_on s (breathing n near (view n cells c) mine q)) (sym (view_on_board n cells c q l))
  | inr l ↦ rw (le-ltb q n l) refl
])

-- a position of the same size holds the board after a stone of that colour
pub record StoneMade (before : Position) (colour : Colour) (point : ℕ) (left : Position) : Type 0 where
  pub sized : left.size ≡ before.size
  pub board : seen before.size left.cells (other colour) ≡ after (count_of before.size) (near_of before.size) (seen before.size before.cells (other colour)) point

-- the position with the stone, without the stones of the other side that do not breathe, is one
pub stone_made : {before : Position} (placed : Position) {left : Position} {colour : Colour} (gone : Colour) {point : ℕ} → point < count_of before.size → point < length before.cells → gone ≡ other colour →
    placed.size ≡ before.size → placed.cells ≡ cells_with (count_of before.size) before.cells point colour → left.size ≡ placed.size →
    ((p : ℕ) → p < 361 → get_or left.cells p 0 ≡ kept_byte (stone_byte gone) (get_or placed.cells p 0)
    (breathing (count_of placed.size) (near_of placed.size) (seen placed.size placed.cells gone) mine p)) → StoneMade before colour point left
unfolding after
stone_made {before} placed {left} {colour} gone {point} l long g s p t w = record {
  sized = t ∙ s;
  board = kept_board n near placed.cells left.cells (other colour) before.size.few.1 kept
      ∙ ap (λ (b : Board). λ q. left_on (b q) (breathing n near b mine q)) (ap (λ (cells : List ℕ). view n cells (other colour)) p ∙ placed_board n before.cells colour point long l);
}
  where
    n : ℕ
    n = count_of before.size

    near : Near
    near = near_of before.size

    kept : (p : ℕ) → p < 361 → get_or left.cells p 0 ≡ kept_byte (stone_byte (other colour)) (get_or placed.cells p 0) (breathing n near (view n placed.cells (other colour)) mine p)
    kept = subst (λ (c : Colour). (p : ℕ) → p < 361 → get_or left.cells p 0 ≡ kept_byte (stone_byte c) (get_or placed.cells p 0) (breathing n near (view n placed.cells c) mine p)) g
        (subst (λ (z : Size). (p : ℕ) → p < 361 → get_or left.cells p 0 ≡ kept_byte (stone_byte gone) (get_or placed.cells p 0) (breathing (count_of z) (near_of z) (seen z placed.cells gone) mine p)) s w)

-- whether the new stone breathes on it
pub stone_breath : {before left : Position} {colour : Colour} {point : ℕ} {answer : Bool} → StoneMade before colour point left → seen before.size before.cells (other colour) point ≡ none →
    ((c : Colour) → BreathesAt (near_of left.size) (seen left.size left.cells c) point answer) →
    answer ≡ breathing (count_of before.size) (near_of before.size) (after (count_of before.size) (near_of before.size) (seen before.size before.cells (other colour)) point) yours point
stone_breath {before} {left} {colour} {point} {answer} m e w =
    breathes_at_is (graph before.size.width before.size.height) on_made yours (λ z. none_yours z refl)
    (after_made (graph before.size.width before.size.height) (seen before.size before.cells (other colour)) point e).there
  where
    on_made : BreathesAt (near_of before.size) (after (count_of before.size) (near_of before.size) (seen before.size before.cells (other colour)) point) point answer
    on_made = subst (λ (b : Board). BreathesAt (near_of before.size) b point answer) m.board
        (subst (λ (z : Size). BreathesAt (near_of z) (seen z left.cells (other colour)) point answer) m.sized (w (other colour)))

-- where no stone of that side stands none breathes
pub other_breathes : (w h : ℕ) (cells : List ℕ) (colour : Colour) (point : ℕ) → point < points w h → (get_or cells point 0 ≡ stone_byte colour → ⊥) →
    false ≡ breathing (points w h) (near w h) (faced w h cells colour) yours point
other_breathes w h cells colour point l o = elim (cases_Bool (breathing (points w h) (near w h) (faced w h cells colour) yours point)) [
  | inl e ↦ absurd (o ((view_byte (points w h) cells (other colour) yours point (λ z. none_yours z refl)
      (joined_first (breathing_breathes (graph w h) (faced w h cells colour) yours point e).chain)).1 ∙ other_twice colour))
  | inr e ↦ sym e
]
  where
    other_twice : (c : Colour) → stone_byte (other (other c)) ≡ stone_byte c
    other_twice Black = refl
    other_twice White = refl
