-- Why a stone is refused: each line of the list from what was found.
use Rattle.std.proofs.Common.{◌≡◌, ℕ, ◌<◌, ◌≤◌, Bool, true, false, cond, ◌||◌, eqb, ltb, leb, List, length, get_or, take, Some, None, Option, sym, refl, ap, ◌∙◌, subst, inl, inr, arith}
use Rattle.std.specs.List.{prefix_len}
use Rattle.std.specs.Option.{is_some}
use Rattle.std.proofs.lemmas.List.{get_or-take}
use Rattle.std.proofs.lemmas.Bool.{both_ways, cases_Bool, leb-true, le-leb, lt-ltb, le-ltb}
use Rattle.grid.specs.Graph.{Near}
use Rattle.grid.specs.Grid.{points, near}
use Rattle.grid.specs.Refusals.{listed, number_of, unless}
use Rattle.grid.specs.declared.refusal.Refusal.{Refusal}
use Rattle.grid.specs.declared.refusal.Refusal.TheVariants.{OffBoard, Occupied, Suicide}
use Rattle.grid.specs.declared.size.Size.{Size}
use Rattle.grid.proofs.Square.{graph}
use Rattle.chains.specs.Board.{none, yours, Board}
use Rattle.chains.specs.Computed.{is_state, breathing}
use Rattle.chains.specs.Views.{other, is_point, is_stone, standing, points_refusal, view}
use Rattle.chains.specs.declared.colour.Colour.{Colour}
use Rattle.chains.specs.declared.colour.Colour.TheVariants.{Black, White}
use Rattle.chains.specs.Sized.{count_of}
use Rattle.chains.specs.declared.position.Position.{Position}
use Rattle.chains.proofs.Cells.{leading_take}
use Rattle.chains.proofs.Chain.{breathes_breathing}
use Rattle.chains.proofs.States.{state_is, state_is_not}
use Rattle.chains.proofs.Views.{byte_none, stone_view}
use Rattle.play.specs.Steps.{PointsRead, Free}
use Rattle.play.specs.Stone.{faced, made, or_below, stone_refusal, StoneRefused}
use Rattle.play.specs.After.{after}
use Rattle.play.proofs.Moves.{played_breathes}

-- bytes that are not refused are long enough, and write points so far
pub not_refused : (n : ℕ) (bytes : List ℕ) → points_refusal n bytes ≡ None → (n ≤ length bytes) × (n ≤ prefix_len is_point (take n bytes))
not_refused n bytes e = elim (cases_Bool (leb n (length bytes))) [
  | inr f ↦ absurd (let g = rw f at e in let z : ◌≡◌ {A = ℕ} 0 1 = cc in omega arith)
  | inl f ↦ elim (cases_Bool (leb n (prefix_len is_point (take n bytes)))) [
    | inr k ↦ absurd (let g = rw (f, k) at e in let z : ◌≡◌ {A = ℕ} 0 1 = cc in omega arith)
    | inl k ↦ (leb-true n (length bytes) f, leb-true n (prefix_len is_point (take n bytes)) k)
  ]
]

-- bytes that are long enough and write points on the board are not refused
pub written_fine : (w h : ℕ) (bytes : List ℕ) → points w h ≤ length bytes → ((p : ℕ) → p < points w h → is_point (get_or bytes p 0) ≡ true) → points_refusal (points w h) bytes ≡ None
written_fine w h bytes long good =
    rw (le-leb (points w h) (length bytes) long, sym (leading_take is_point (points w h) bytes (points w h) long (omega arith) good (λ l. absurd (omega arith))), le-leb (points w h) (points w h) (omega arith)) refl

-- the position that bytes write holds their points
pub points_read : {size : Size} {bytes : List ℕ} (position : Position) → points_refusal (count_of size) bytes ≡ None → position.size ≡ size → take (count_of size) position.cells ≡ take (count_of size) bytes →
    PointsRead size.width size.height bytes position.cells
points_read {size} {bytes} position e z s = record {
  long = (not_refused (count_of size) bytes e).0;
  front = (not_refused (count_of size) bytes e).1;
  same = λ p l. sym (get_or-take (count_of size) position.cells p 0 l) ∙ (ap (λ (xs : List ℕ). get_or xs p 0) s ∙ get_or-take (count_of size) bytes p 0 l);
  good = subst (λ (x : Size). (p : ℕ) → p < count_of x → is_point (get_or position.cells p 0) ≡ true) z position.board;
}

-- and its own
pub position_read : (position : Position) → count_of position.size ≤ length position.cells → PointsRead position.size.width position.size.height position.cells position.cells
position_read position long = record {
  long = long;
  front = (not_refused (count_of position.size) position.cells (written_fine position.size.width position.size.height position.cells long position.board)).1;
  same = λ p l. refl;
  good = position.board;
}

-- the lines on the bytes do not apply to bytes that were read
pub points_fine : {w h : ℕ} {bytes cells : List ℕ} → PointsRead w h bytes cells → points_refusal (points w h) bytes ≡ None
points_fine {w} {h} {bytes} r = rw (le-leb (points w h) (length bytes) r.long, le-leb (points w h) (prefix_len is_point (take (points w h) bytes)) r.front) refl

-- the number of a line, and 0 where there is none
abbrev pub number_in : Option (ℕ × ℕ) → ℕ
number_in None = 0
number_in (Some line) = line.0

-- a line on the bytes is not the seventh
points_number : (n : ℕ) (bytes : List ℕ) (e : Refusal) → Some (listed e) ≡ points_refusal n bytes → number_of e ≡ 7 → ⊥
points_number n bytes e s k =
    let m : number_of e ≡ number_in (points_refusal n bytes) = ap number_in s in
    elim (cases_Bool (leb n (length bytes))) [
      | inr f ↦ (let z : number_of e ≡ 12 = rw f at m in omega arith)
      | inl f ↦ elim (cases_Bool (leb n (prefix_len is_point (take n bytes)))) [
        | inr l ↦ (let z : number_of e ≡ 3 = rw (f, l) at m in omega arith)
        | inl l ↦ (let z : number_of e ≡ 0 = rw (f, l) at m in omega arith)
      ]
    ]

-- bytes that are refused refuse every stone
pub read_refused : (w h : ℕ) (bytes : List ℕ) (e : Refusal) → Some (listed e) ≡ points_refusal (points w h) bytes → (colour : Colour) (point turn : ℕ) → StoneRefused w h bytes colour point turn e
read_refused w h bytes e s colour point turn = record {
  line = subst (λ (o : Option (ℕ × ℕ)). or_below o rest ≡ Some (listed e)) s refl;
  no_board = λ k. absurd (points_number (points w h) bytes e s k);
}
  where
    rest : Option (ℕ × ℕ)
    rest = unless (ltb point (points w h)) (5, turn)
        (unless (is_state none (faced w h bytes colour point)) (6, turn)
        (unless (breathing (points w h) (near w h) (made w h bytes colour point) yours point) (7, turn) None))

-- the lines on the stone, by the board that the side sees that does not move
abbrev pub stone_lines : ℕ → Near → Board → ℕ → ℕ → Option (ℕ × ℕ)
stone_lines n near b point turn =
    unless (ltb point n) (5, turn) (unless (is_state none (b point)) (6, turn) (unless (breathing n near (after n near b point) yours point) (7, turn) None))

-- they decide where those on the bytes do not apply
pub lines_of : (w h : ℕ) (bytes : List ℕ) (colour : Colour) (point turn : ℕ) → points_refusal (points w h) bytes ≡ None →
    stone_refusal w h bytes colour point turn ≡ stone_lines (points w h) (near w h) (faced w h bytes colour) point turn
lines_of w h bytes colour point turn fine = rw fine refl

-- a point that is not there
pub off_board : {w h : ℕ} {bytes cells : List ℕ} {colour : Colour} {point turn : ℕ} → PointsRead w h bytes cells → points w h ≤ point → StoneRefused w h bytes colour point turn (OffBoard turn)
off_board {w} {h} {point = point} r l = record {
  line = rw (points_fine r, le-ltb point (points w h) l) refl;
  no_board = λ k. absurd (omega arith);
}

-- a stone stands there
pub occupied : {w h : ℕ} {bytes cells : List ℕ} {colour : Colour} {point turn : ℕ} → PointsRead w h bytes cells → point < points w h → is_stone (get_or cells point 0) ≡ true →
    StoneRefused w h bytes colour point turn (Occupied turn)
occupied {w} {h} {bytes} {colour = colour} {point = point} r l e = record {
  line = rw (
    points_fine r,
    state_is_not none (faced w h bytes colour point)
        (stone_view (points w h) bytes (other colour) point l (subst (λ (b : ℕ). is_stone b ≡ true) (r.same point l) e)),
    lt-ltb point (points w h) l,
  ) refl;
  no_board = λ k. absurd (omega arith);
}

some_colour : (x y : Bool) → is_some (cond x (Some Black) (cond y (Some White) None)) ≡ (x || y)
some_colour true y = refl
some_colour false true = refl
some_colour false false = refl

-- on the board a colour stands where the byte writes a stone
pub stone_stands : (n : ℕ) (cells : List ℕ) (p : ℕ) → p < n → is_some (standing n cells p) ≡ is_stone (get_or cells p 0)
stone_stands n cells p l = rw (lt-ltb p n l) (some_colour (eqb (get_or cells p 0) 88) (eqb (get_or cells p 0) 79))

-- a free point is empty to both sides
pub free_none : {w h : ℕ} {bytes cells : List ℕ} {point : ℕ} → PointsRead w h bytes cells → Free w h cells point → (c : Colour) → view (points w h) bytes c point ≡ none
free_none {w} {h} {bytes} {point = point} r f c =
    rw (lt-ltb point (points w h) f.inside) (byte_none c (get_or bytes point 0) (subst (λ (b : ℕ). is_stone b ≡ false) (r.same point f.inside) f.empty))

-- the new stone does not breathe: no board is the board of the move
pub suicide : {w h : ℕ} {bytes cells : List ℕ} {colour : Colour} {point turn : ℕ} → PointsRead w h bytes cells → Free w h cells point →
    breathing (points w h) (near w h) (made w h bytes colour point) yours point ≡ false → StoneRefused w h bytes colour point turn (Suicide turn)
suicide {w} {h} {bytes} {colour = colour} {point = point} r f e = record {
  line = rw (points_fine r, state_is none (faced w h bytes colour point) (free_none r f (other colour)), lt-ltb point (points w h) f.inside, e) refl;
  no_board = λ k d p. both_ways (breathing (points w h) (near w h) (made w h bytes colour point) yours point) e
      (breathes_breathing (graph w h) (made w h bytes colour point) yours point (played_breathes (graph w h) p));
}

-- no line applies
pub not_refused_stone : {w h : ℕ} {bytes cells : List ℕ} {point : ℕ} (colour : Colour) (turn : ℕ) → PointsRead w h bytes cells → Free w h cells point →
    breathing (points w h) (near w h) (made w h bytes colour point) yours point ≡ true → stone_refusal w h bytes colour point turn ≡ None
not_refused_stone {w} {h} {bytes} {point = point} colour turn r f e =
    rw (points_fine r, state_is none (faced w h bytes colour point) (free_none r f (other colour)), lt-ltb point (points w h) f.inside, e) refl
