-- A stone on a lent board: what is said of the position that its bytes write is said of the bytes.
use Rattle.std.proofs.Common.{◌≡◌, ℕ, ◌<◌, ◌≤◌, List, ◌++◌, length, get_or, take, drop, None, sym, ap, ◌∙◌, subst, ap₂, arith}
use Rattle.std.proofs.lemmas.List.{drop_at, get_or_append_left, get_or-take, length-take-le}
use Rattle.grid.specs.Grid.{points, near}
use Rattle.grid.specs.declared.refusal.Refusal.{Refusal}
use Rattle.grid.specs.declared.size.Size.{Size}
use Rattle.chains.specs.Board.{Board}
use Rattle.chains.specs.Computed.{count}
use Rattle.chains.specs.Sized.{count_of}
use Rattle.chains.specs.Stands.{Stands}
use Rattle.chains.specs.Views.{other, points_refusal, view}
use Rattle.chains.specs.declared.colour.Colour.{Colour}
use Rattle.chains.specs.declared.position.Position.{Position}
use Rattle.play.specs.After.{after}
use Rattle.play.specs.Played.{Played}
use Rattle.play.specs.Steps.{PointsRead}
use Rattle.play.specs.Stone.{byte_of, faced, is_taken, stone_refusal, StoneRefused, StonePlayed}
use Rattle.play.proofs.Making.{view_same}
use Rattle.play.proofs.Refusing.{points_read, position_read, points_fine, stone_lines, lines_of}

-- the same line of the list applies to the cells and to the bytes that they were read from
line_same : {w h : ℕ} {bytes cells : List ℕ} (colour : Colour) (point turn : ℕ) → PointsRead w h bytes cells → PointsRead w h cells cells → stone_refusal w h cells colour point turn ≡ stone_refusal w h bytes colour point turn
line_same {w} {h} {bytes} {cells} colour point turn r o =
    lines_of w h cells colour point turn (points_fine o)
    ∙ ap (λ (b : Board). stone_lines (points w h) (near w h) b point turn) (view_same (points w h) cells bytes (other colour) r.same)
    ∙ sym (lines_of w h bytes colour point turn (points_fine r))

-- a stone is refused on the bytes as on the cells
pub lent_refused : {w h : ℕ} {bytes cells : List ℕ} {colour : Colour} {point turn : ℕ} {e : Refusal} → PointsRead w h bytes cells → PointsRead w h cells cells → StoneRefused w h cells colour point turn e → StoneRefused w h bytes colour point turn e
lent_refused {w} {h} {bytes} {cells} {colour} {point} {turn} r o f = record {
  line = sym (line_same colour point turn r o) ∙ f.line;
  no_board = λ k d p. f.no_board k d (subst (λ (b : Board). Played (near w h) b point d) (sym (view_same (points w h) cells bytes (other colour) r.same)) p);
}

-- and played on them
pub lent_played : {w h : ℕ} {bytes cells left lent : List ℕ} {colour : Colour} {point turn taken : ℕ} → PointsRead w h bytes cells → PointsRead w h cells cells → StonePlayed w h cells colour point turn left taken →
    points w h ≤ length left → lent ≡ take (points w h) left ++ drop (points w h) bytes → StonePlayed w h bytes colour point turn lent taken
lent_played {w} {h} {bytes} {cells} {left} {lent} {colour} {point} {turn} {taken} r o s few t = record {
  allowed = sym (line_same colour point turn r o) ∙ s.allowed;
  played = subst (λ (b : Board). Played (near w h) b point (faced w h lent colour)) (before (other colour))
      (subst (λ (d : Board). Played (near w h) (faced w h cells colour) point d) (sym (now (other colour))) s.played);
  bytes = λ p l. same p l ∙ s.bytes p l ∙ ap (λ (b : Board). byte_of (other colour) (after (points w h) (near w h) b point p)) (before (other colour));
  written = λ p l. rw (same p l) (s.written p l);
  past = rw t (drop_at (take (points w h) left) (drop (points w h) bytes) (points w h) (length-take-le (points w h) left few));
  captures = s.captures ∙ ap₂ (λ (b d : Board). count (λ p. is_taken (b p) (d p)) (points w h)) (before (other colour)) (sym (now (other colour)));
  stands = λ c z. subst (λ (b : Board). Stands w h b) (sym (now c)) (s.stands c (subst (λ (b : Board). Stands w h b) (sym (before c)) z));
}
  where
    same : (p : ℕ) → p < points w h → get_or lent p 0 ≡ get_or left p 0
    same p l = rw t (get_or_append_left (take (points w h) left) (drop (points w h) bytes) 0 p (rw (length-take-le (points w h) left few) l) ∙ get_or-take (points w h) left p 0 l)

    before : (c : Colour) → view (points w h) cells c ≡ view (points w h) bytes c
    before c = view_same (points w h) cells bytes c r.same

    now : (c : Colour) → view (points w h) lent c ≡ view (points w h) left c
    now c = view_same (points w h) lent left c same

own_read : (position : Position) {size : Size} → length position.cells ≡ 361 → position.size ≡ size → PointsRead size.width size.height position.cells position.cells
own_read position {size} long z = subst (λ (x : Size). PointsRead x.width x.height position.cells position.cells) z (position_read position (omega (arith, position.size.few.1)))

-- a stone is refused on the bytes as on the position that they write
pub play_refused : (position : Position) {size : Size} {bytes : List ℕ} {colour : Colour} {point turn : ℕ} {e : Refusal} → length position.cells ≡ 361 →
    points_refusal (count_of size) bytes ≡ None → position.size ≡ size → take (count_of size) position.cells ≡ take (count_of size) bytes →
    StoneRefused position.size.width position.size.height position.cells colour point turn e → StoneRefused size.width size.height bytes colour point turn e
play_refused position {size} {colour = colour} {point = point} {turn = turn} {e = e} long f z t r =
    lent_refused (points_read position f z t) (own_read position long z) (subst (λ (x : Size). StoneRefused x.width x.height position.cells colour point turn e) z r)

-- and played, where the position after it is written there
pub play_played : (position left : Position) {size : Size} {bytes lent : List ℕ} {colour : Colour} {point turn taken : ℕ} → length position.cells ≡ 361 → length left.cells ≡ 361 →
    points_refusal (count_of size) bytes ≡ None → position.size ≡ size → take (count_of size) position.cells ≡ take (count_of size) bytes →
    StonePlayed position.size.width position.size.height position.cells colour point turn left.cells taken → left.size ≡ position.size →
    lent ≡ take (count_of left.size) left.cells ++ drop (count_of left.size) bytes → StonePlayed size.width size.height bytes colour point turn lent taken
play_played position left {size} {bytes} {lent} {colour} {point} {turn} {taken} long few f z t s y w =
    lent_played (points_read position f z t) (own_read position long z) (subst (λ (x : Size). StonePlayed x.width x.height position.cells colour point turn left.cells taken) z s)
    (omega (arith, size.few.1)) (subst (λ (x : Size). lent ≡ take (count_of x) left.cells ++ drop (count_of x) bytes) (y ∙ z) w)
