-- The position that is left after a stone: byte for byte, and standing if the position before stood.
use Rattle.std.proofs.Common.{◌≡◌, ℕ, ◌+◌, ◌<◌, ◌≤◌, Bool, true, false, ◌⊎◌, List, length, get_or, take, drop, sym, refl, ap, ◌∙◌, subst, inl, inr, arith, length-drop}
use Rattle.std.specs.List.{count_by, zip}
use Rattle.std.specs.Option.{is_some}
use Rattle.std.proofs.lemmas.List.{ext_get_or, get_or-drop}
use Rattle.grid.specs.Grid.{points, near}
use Rattle.grid.specs.declared.refusal.Refusal.TheVariants.{Suicide}
use Rattle.grid.specs.declared.size.Size.{Size}
use Rattle.grid.proofs.Square.{graph}
use Rattle.chains.specs.Board.{State, none, mine, yours, Board}
use Rattle.chains.specs.Breath.{BreathesAt}
use Rattle.chains.specs.Changed.{cells_with, kept_byte}
use Rattle.chains.specs.Computed.{breathing}
use Rattle.chains.specs.Sized.{count_of, near_of, seen}
use Rattle.chains.specs.Stands.{Stands}
use Rattle.chains.specs.Views.{stone_byte, other, is_point, standing, state_of, view}
use Rattle.chains.specs.declared.colour.Colour.{Colour}
use Rattle.chains.specs.declared.colour.Colour.TheVariants.{Black, White}
use Rattle.chains.specs.declared.position.Position.{Position}
use Rattle.chains.proofs.Breath.{turned, breathes_turned, view_turned}
use Rattle.chains.proofs.Chain.{breathing_breathes}
use Rattle.chains.proofs.Square.{stands_stand, stand_stands}
use Rattle.chains.proofs.States.{Kind, is_none, is_mine, is_yours, kind, none_mine, none_yours}
use Rattle.chains.proofs.Views.{state_byte, none_byte, empty_byte}
use Rattle.play.specs.After.{after}
use Rattle.play.specs.Played.{Played}
use Rattle.play.specs.Steps.{PointsRead, Free, byte_taken}
use Rattle.play.specs.Stone.{byte_of, faced, made, StoneRefused, StonePlayed}
use Rattle.play.proofs.Counting.{counted}
use Rattle.play.proofs.Moves.{after_played, goes_on}
use Rattle.play.proofs.Refusing.{position_read, stone_stands, free_none, suicide, not_refused_stone}
use Rattle.play.proofs.Making.{view_on_board, StoneMade, stone_made, stone_breath}

turned_twice : (s : State) → turned (turned s) ≡ s
turned_twice none = refl
turned_twice mine = refl
turned_twice yours = refl

turned_mine : (s : State) → turned s ≡ mine → s ≡ yours
turned_mine s e = sym (turned_twice s) ∙ ap turned e

turned_yours : (s : State) → turned s ≡ yours → s ≡ mine
turned_yours s e = sym (turned_twice s) ∙ ap turned e

-- a board that stands stands to the other side too
pub stands_turned : {w h : ℕ} {b d : Board} → ((p : ℕ) → d p ≡ turned (b p)) → Stands w h b → Stands w h d
stands_turned {b = b} f s = record {
  inside = λ p o. s.inside p (λ z. o (f p ∙ ap turned z));
  mine_breathe = λ p e. breathes_turned f (s.yours_breathe p (turned_mine (b p) (sym (f p) ∙ e)));
  yours_breathe = λ p e. breathes_turned f (s.mine_breathe p (turned_yours (b p) (sym (f p) ∙ e)));
}

-- what the side sees that moves, from what the other sees
view_back : (n : ℕ) (bytes : List ℕ) (colour : Colour) (p : ℕ) → view n bytes colour p ≡ turned (view n bytes (other colour) p)
view_back n bytes colour p = sym (turned_twice (view n bytes colour p)) ∙ ap turned (sym (view_turned n bytes colour p))

two_sides : (colour c : Colour) → (c ≡ other colour) ⊎ (c ≡ colour)
two_sides Black Black = inr refl
two_sides Black White = inl refl
two_sides White Black = inl refl
two_sides White White = inr refl

-- a board that stood stands after a stone, to both sides
pub stands_after : (w h : ℕ) (before left : List ℕ) (colour : Colour) {point : ℕ} → Played (near w h) (faced w h before colour) point (faced w h left colour) →
    (c : Colour) → Stands w h (view (points w h) before c) → Stands w h (view (points w h) left c)
stands_after w h before left colour p c = elim (two_sides colour c) [
  | inl e ↦ subst (λ (k : Colour). Stands w h (view (points w h) before k) → Stands w h (view (points w h) left k)) (sym e) other_side
  | inr e ↦ subst (λ (k : Colour). Stands w h (view (points w h) before k) → Stands w h (view (points w h) left k)) (sym e)
      (λ s. stands_turned (view_back (points w h) left colour) (other_side (stands_turned (view_turned (points w h) before colour) s)))
]
  where
    other_side : Stands w h (faced w h before colour) → Stands w h (faced w h left colour)
    other_side s = stand_stands (goes_on (graph w h) (stands_stand s) p)

-- a byte that writes a point is the byte of the state that it says
pub point_byte : (c : Colour) (byte : ℕ) → is_point byte ≡ true → byte ≡ byte_of c (state_of c byte)
point_byte c byte g = join (kind (state_of c byte))
  where
    join : Kind (state_of c byte) → byte ≡ byte_of c (state_of c byte)
    join (is_none z) = empty_byte byte g (none_byte c byte z) ∙ sym (ap (byte_of c) z)
    join (is_mine z) = state_byte c mine byte (λ e. none_mine e refl) z ∙ sym (ap (byte_of c) z)
    join (is_yours z) = state_byte c yours byte (λ e. none_yours e refl) z ∙ sym (ap (byte_of c) z)

-- past the board two positions of one size are empty
past_same : (a b : Position) → a.size ≡ b.size → length a.cells ≡ 361 → length b.cells ≡ 361 → drop (count_of b.size) a.cells ≡ drop (count_of b.size) b.cells
past_same a b s l m = ext_get_or 0 (drop n a.cells) (drop n b.cells) (omega (arith, length-drop n a.cells, length-drop n b.cells))
    (λ i o. let k : n + i < 361 = omega (arith, length-drop n a.cells) in
    get_or-drop n a.cells i 0 ∙ a.past (n + i) (subst (λ (z : Size). count_of z ≤ n + i) (sym s) (omega arith)) k ∙ sym (get_or-drop n b.cells i 0 ∙ b.past (n + i) (omega arith) k))
  where
    n : ℕ
    n = count_of b.size

-- the point is free, and the position with the stone was made and looked at
pub record StoneLooked (before : Position) (colour : Colour) (point : ℕ) (left : Position) (breathes : Bool) : Type 0 where
  pub read : PointsRead before.size.width before.size.height before.cells before.cells
  pub free : Free before.size.width before.size.height before.cells point
  pub made : StoneMade before colour point left
  pub breath : breathes ≡ breathing (count_of before.size) (near_of before.size) (after (count_of before.size) (near_of before.size) (seen before.size before.cells (other colour)) point) yours point

-- so it is on an empty point
pub stone_looked : (before placed left : Position) (colour gone : Colour) {point : ℕ} {breathes : Bool} → length before.cells ≡ 361 → point < count_of before.size →
    is_some (standing (count_of before.size) before.cells point) ≡ false → gone ≡ other colour →
    placed.size ≡ before.size → placed.cells ≡ cells_with (count_of before.size) before.cells point colour → left.size ≡ placed.size →
    ((p : ℕ) → p < 361 → get_or left.cells p 0 ≡ kept_byte (stone_byte gone) (get_or placed.cells p 0)
    (breathing (count_of placed.size) (near_of placed.size) (seen placed.size placed.cells gone) mine p)) →
    ((c : Colour) → BreathesAt (near_of left.size) (seen left.size left.cells c) point breathes) → StoneLooked before colour point left breathes
stone_looked before placed left colour gone {point} long l e g s p t w b = record { read = read; free = free; made = stone; breath = stone_breath stone (free_none read free (other colour)) b }
  where
    read : PointsRead before.size.width before.size.height before.cells before.cells
    read = position_read before (omega (arith, before.size.few.1))

    free : Free before.size.width before.size.height before.cells point
    free = record { inside = l; empty = sym (stone_stands (count_of before.size) before.cells point l) ∙ e }

    stone : StoneMade before colour point left
    stone = stone_made placed gone l (omega (arith, before.size.few.1)) g s p t w

-- the stone is played
pub stone_played : {before left : Position} {colour : Colour} {point turn taken k : ℕ} → length before.cells ≡ 361 → length left.cells ≡ 361 → StoneLooked before colour point left true →
    k ≡ count_of before.size → taken ≡ count_by (λ (p : ℕ × ℕ). byte_taken (stone_byte (other colour)) p.0 p.1) (zip (take k before.cells) (take k left.cells)) →
    StonePlayed before.size.width before.size.height before.cells colour point turn left.cells taken
stone_played {before} {left} {colour} {point} {turn} long few s all number = record {
  allowed = not_refused_stone colour turn s.read s.free (sym s.breath);
  played = played;
  bytes = λ p l. point_byte (other colour) (get_or left.cells p 0) (good p l)
      ∙ ap (byte_of (other colour)) (sym (view_on_board (count_of before.size) left.cells (other colour) p l) ∙ ap (λ (d : Board). d p) s.made.board);
  written = good;
  past = past_same left before s.made.sized few long;
  captures = number ∙ counted before left (other colour) all s.made.sized long few;
  stands = stands_after w h before.cells left.cells colour played;
}
  where
    w : ℕ
    w = before.size.width

    h : ℕ
    h = before.size.height

    good : (p : ℕ) → p < count_of before.size → is_point (get_or left.cells p 0) ≡ true
    good = subst (λ (z : Size). (p : ℕ) → p < count_of z → is_point (get_or left.cells p 0) ≡ true) s.made.sized left.board

    played : Played (near w h) (faced w h before.cells colour) point (faced w h left.cells colour)
    played = subst (λ (d : Board). Played (near w h) (faced w h before.cells colour) point d) (sym s.made.board)
        (after_played (graph w h) (faced w h before.cells colour) point (free_none s.read s.free (other colour))
        (breathing_breathes (graph w h) (made w h before.cells colour point) yours point (sym s.breath)))

-- or it would not breathe
pub stone_not_breathing : {before left : Position} {colour : Colour} {point turn : ℕ} → StoneLooked before colour point left false →
    StoneRefused before.size.width before.size.height before.cells colour point turn (Suicide turn)
stone_not_breathing s = suicide s.read s.free (sym s.breath)
