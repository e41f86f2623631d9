-- What the referee keeps stands for the record, move by move.
use Rattle.std.proofs.Common.{◌≡◌, ℕ, ◌+◌, ◌^◌, ◌<◌, ◌≤◌, true, false, List, length, get_or, Some, None, Option, sym, refl, ap, ◌∙◌, subst, arith}
use Rattle.std.specs.Option.{option_eq}
use Rattle.std.proofs.lemmas.Bool.{false≢true}
use Rattle.grid.specs.declared.refusal.Refusal.{Refusal}
use Rattle.grid.specs.declared.refusal.Refusal.TheVariants.{Ko, AfterEnd}
use Rattle.grid.specs.declared.size.Size.{Size}
use Rattle.grid.proofs.Square.{graph}
use Rattle.chains.specs.Board.{yours, Board}
use Rattle.chains.specs.Sized.{count_of, near_of, seen}
use Rattle.chains.specs.Views.{other, is_point}
use Rattle.chains.specs.declared.colour.Colour.{Colour}
use Rattle.chains.specs.declared.colour.Colour.TheVariants.{Black, White}
use Rattle.chains.specs.declared.position.Position.{Position}
use Rattle.chains.proofs.Alike.{positions_alike, alike, alike_same, alike_self}
use Rattle.chains.proofs.Below.{count_bound}
use Rattle.chains.proofs.States.{none_yours}
use Rattle.chains.proofs.Views.{view_byte, view_none, none_view}
use Rattle.play.specs.Stone.{faced, is_taken, StonePlayed, StoneRefused}
use Rattle.play.proofs.Reasons.{Reason, not_there, not_empty, no_move, reason}
use Rattle.play.proofs.Refusing.{written_fine}
use Rattle.referee.specs.declared.game.Game.{Game}
use Rattle.referee.specs.declared.game.Taken.{Taken}
use Rattle.referee.specs.declared.moves.Move.{Move}
use Rattle.referee.specs.declared.moves.Move.TheVariants.{Pass, At}
use Rattle.referee.specs.declared.outcome.Outcome.TheVariants.{ToMove, Over, Refused}
use Rattle.referee.specs.Game.{SizedSo, ko_board, Kept, Facing, Countable, taken_more, EndsSo}
use Rattle.referee.specs.Rules.{PlayedBy, leaves}
use Rattle.referee.specs.States.{StateOf}
use Rattle.referee.proofs.Steps.{state_start, state_pass, state_stone, state_numbers, state_taken, state_to_move, state_over, refuse_off_board, refuse_occupied, refuse_suicide, refuse_ko, refuse_stone, refuse_pass}
use Rattle.referee.proofs.Taken.{leaves_own}
use Rattle.referee.proofs.Views.{view_played, view_not_played, view_leaves, same_bytes}

-- before the first move
pub kept_new : (position : Position) (ms : List Move) →
    Kept position.size (seen position.size position.cells Black) ms 0 (record { position = position; before = None; side = Black; passes = 0; taken = record { black = 0; white = 0 } })
kept_new position ms = record { sized = refl; before_sized = tt; state = state_start (count_of position.size) (near_of position.size) (seen position.size position.cells Black) ms }

-- the stones taken before a move can be counted
pub kept_countable : {size : Size} {start : Board} {ms : List Move} {k : ℕ} {game : Game} → Kept size start ms k game → k < 2 ^ 63 → Countable k game
kept_countable {size} s f = let t = state_taken s.state in let l = size.few.1 in record { black = omega arith; white = omega arith; few = f }

-- an allowed pass
pub kept_pass : {size : Size} {start : Board} {ms : List Move} {k : ℕ} {game : Game} (side : Colour) → Facing size start ms k game Pass → game.passes < 2 → side ≡ other game.side →
    Kept size start ms (k + 1) (record { position = game.position; before = None; side = side; passes = game.passes + 1; taken = game.taken })
kept_pass {size} {start} {ms} {k} {game} side s l f = record {
  sized = s.kept.sized;
  before_sized = tt;
  state = subst (λ (c : Colour). StateOf (count_of size) (near_of size) start ms (k + 1) c (seen size game.position.cells Black) None (game.passes + 1) game.taken.black game.taken.white) (sym f)
      (state_pass (graph size.width size.height) s.kept.state s.move_is l);
}

-- a pass after two passes
pub pass_refused : {size : Size} {start : Board} {ms : List Move} {k : ℕ} {game : Game} → Facing size start ms k game Pass → 2 ≤ game.passes → EndsSo size start ms game (Refused (AfterEnd k))
pass_refused s t = record { sized = s.kept.sized; rules = refuse_pass s.kept.state s.there s.move_is t }

-- no move is left, and it is a side's turn
pub left_to_move : {size : Size} {start : Board} {ms : List Move} {game : Game} → Kept size start ms (length ms) game → game.passes < 2 → EndsSo size start ms game (ToMove game.side)
left_to_move s l = record { sized = s.sized; rules = state_to_move s.state refl l }

-- no move is left, and the record is over
pub left_over : {size : Size} {start : Board} {ms : List Move} {game : Game} → Kept size start ms (length ms) game → 2 ≤ game.passes → EndsSo size start ms game Over
left_over s l = record { sized = s.sized; rules = state_over s.state refl l }

-- a stone that is not allowed on the position, by what is said of it there
reason_refused : {size : Size} {start : Board} {ms : List Move} {k point : ℕ} {game : Game} {e : Refusal} → Facing size start ms k game (At point) →
    Reason size.width size.height game.position.cells game.side point k e → EndsSo size start ms game (Refused e)
reason_refused {point = point} s (not_there l) = record { sized = s.kept.sized; rules = refuse_off_board s.kept.state point s.there s.move_is l }
reason_refused {size} {point = point} {game = game} s (not_empty l o) = record {
  sized = s.kept.sized;
  rules = refuse_occupied s.kept.state point s.there s.move_is l
      (λ z. o (none_view (count_of size) game.position.cells (other game.side) point (view_none (count_of size) game.position.cells Black point l z)));
}
reason_refused {size} {point = point} {game = game} s (no_move l z f) = record {
  sized = s.kept.sized;
  rules = refuse_suicide s.kept.state point s.there s.move_is l
      (none_view (count_of size) game.position.cells Black point (view_none (count_of size) game.position.cells (other game.side) point l z))
      (view_not_played (count_of size) (near_of size) game.side game.position.cells point f);
}

-- a point that is not there, a stone on it, or a chain that would not breathe
pub line_refused : {size : Size} {start : Board} {ms : List Move} {k point : ℕ} {game : Game} {e : Refusal} → Facing size start ms k game (At point) → length game.position.cells ≡ 361 →
    StoneRefused game.position.size.width game.position.size.height game.position.cells game.side point k e → EndsSo size start ms game (Refused e)
line_refused {size} {k = k} {point = point} {game = game} {e = e} s long r =
    reason_refused s (reason (written_fine size.width size.height game.position.cells (omega (arith, size.few.1)) written)
    (subst (λ (z : Size). StoneRefused z.width z.height game.position.cells game.side point k e) s.kept.sized r))
  where
    written : (p : ℕ) → p < count_of size → is_point (get_or game.position.cells p 0) ≡ true
    written = subst (λ (z : Size). (p : ℕ) → p < count_of z → is_point (get_or game.position.cells p 0) ≡ true) s.kept.sized game.position.board

-- what is kept, where move k is a stone on that point, and the position that it makes
pub record Trying (size : Size) (start : Board) (ms : List Move) (k : ℕ) (game : Game) (point : ℕ) (made : Position) (taken : ℕ) : Type 0 where
  pub facing : Facing size start ms k game (At point)
  pub played : StonePlayed size.width size.height game.position.cells game.side point k made.cells taken
  pub sized : made.size ≡ size

-- a stone that was played
pub trying : {size : Size} {start : Board} {ms : List Move} {k point : ℕ} {game : Game} (made : Position) {taken : ℕ} → Facing size start ms k game (At point) →
    StonePlayed game.position.size.width game.position.size.height game.position.cells game.side point k made.cells taken → made.size ≡ game.position.size → Trying size start ms k game point made taken
trying {k = k} {point = point} {game = game} made {taken} s p z = record {
  facing = s;
  played = subst (λ (x : Size). StonePlayed x.width x.height game.position.cells game.side point k made.cells taken) s.kept.sized p;
  sized = z ∙ s.kept.sized;
}

-- the stone in the record
try_played : {size : Size} {start : Board} {ms : List Move} {k point : ℕ} {game : Game} {made : Position} {taken : ℕ} → Trying size start ms k game point made taken →
    PlayedBy (near_of size) game.side (seen size game.position.cells Black) point (seen size made.cells Black)
try_played {size} {point = point} {game = game} {made = made} t = view_played (count_of size) (near_of size) game.side game.position.cells made.cells point t.played.played

-- its point is there
try_inside : {size : Size} {start : Board} {ms : List Move} {k point : ℕ} {game : Game} {made : Position} {taken : ℕ} → Trying size start ms k game point made taken → point < count_of size
try_inside {size} {point = point} {game = game} {made = made} t = (view_byte (count_of size) made.cells (other game.side) yours point (λ e. none_yours e refl) t.played.played.there).0

-- so few stones are taken that they can be counted
pub put_countable : (size : Size) {before cells : List ℕ} {side : Colour} {point turn taken k : ℕ} {game : Game} → StonePlayed size.width size.height before side point turn cells taken → Countable k game →
    (game.taken.black + taken < 2 ^ 64) × (game.taken.white + taken < 2 ^ 64)
put_countable size {before} {cells} {side} {taken = taken} p f =
    let l = size.few.1 in
    let b : taken ≤ count_of size = rw p.captures (count_bound (λ q. is_taken (faced size.width size.height before side q) (faced size.width size.height cells side q)) (count_of size)) in
    (omega arith, omega arith)

-- the stones that are taken are counted for their colour
more_is : (left : Colour → ℕ) (side : Colour) (more : ℕ) (taken : Taken) → left side ≡ 0 → left (other side) ≡ more →
    ((taken_more (other side) more taken).black ≡ taken.black + left Black) × ((taken_more (other side) more taken).white ≡ taken.white + left White)
more_is left Black more taken own others = (omega arith, omega arith)
more_is left White more taken own others = (omega arith, omega arith)

-- the test of the code says whether the position is the one before the last stone
pub restored : (before : Option Position) (made : Position) → true ≡ option_eq alike before (Some made) → before ≡ Some made
restored None made e = let z : ◌≡◌ {A = ℕ} 0 1 = cc in absurd (omega arith)
restored (Some before) made e = ap Some (alike_same before made (sym e))

pub restored_not : (before : Option Position) (made : Position) → false ≡ option_eq alike before (Some made) → before ≡ Some made → ⊥
restored_not before made e i = false≢true (e ∙ ap (λ (x : Option Position). option_eq alike x (Some made)) i ∙ alike_self made)

-- a stone that does not make the position before the last one does not bring back its board
not_restored : {size : Size} (made : Position) (before : Option Position) → made.size ≡ size → length made.cells ≡ 361 → SizedSo size before → (before ≡ Some made → ⊥) → ko_board size before ≡ Some (seen size made.cells Black) → ⊥
not_restored made None z l b o e = let x : ◌≡◌ {A = ℕ} 0 1 = cc in omega arith
not_restored {size} made (Some before) z l b o e = o (ap Some (positions_alike before made (b.0 ∙ sym z) b.1 l (λ p k. same p (subst (λ (x : Size). p < count_of x) z k))))
  where
    board : seen size before.cells Black ≡ seen size made.cells Black
    board = cc

    same : (p : ℕ) → p < count_of size → get_or before.cells p 0 ≡ get_or made.cells p 0
    same = same_bytes (count_of size) before.cells made.cells
        (subst (λ (x : Size). (p : ℕ) → p < count_of x → is_point (get_or before.cells p 0) ≡ true) b.0 before.board)
        (subst (λ (x : Size). (p : ℕ) → p < count_of x → is_point (get_or made.cells p 0) ≡ true) z made.board)
        (λ q. ap (λ (d : Board). d q) board)

-- an allowed stone
pub kept_stone : {size : Size} {start : Board} {ms : List Move} {k point : ℕ} {game : Game} {made : Position} {more : ℕ} (side : Colour) (taken : Taken) → Trying size start ms k game point made more →
    length game.position.cells ≡ 361 → length made.cells ≡ 361 → (game.before ≡ Some made → ⊥) → game.passes < 2 → side ≡ other game.side → taken ≡ taken_more side more game.taken →
    Kept size start ms (k + 1) (record { position = made; before = Some game.position; side = side; passes = 0; taken = taken })
kept_stone {size} {start} {ms} {k} {point} {game} {made} {more} side taken t long few o l f i = record {
  sized = t.sized;
  before_sized = (t.facing.kept.sized, long);
  state = state_numbers refl (sym counts.0 ∙ sym (ap (λ (x : Taken). x.black) now)) (sym counts.1 ∙ sym (ap (λ (x : Taken). x.white) now))
      (subst (λ (c : Colour). StateOf (count_of size) (near_of size) start ms (k + 1) c after (Some before) 0 (game.taken.black + left Black) (game.taken.white + left White)) (sym f)
      (state_stone (graph size.width size.height) t.facing.kept.state point after t.facing.move_is (try_inside t) (try_played t)
      (not_restored made game.before t.sized few t.facing.kept.before_sized o) l));
}
  where
    before : Board
    before = seen size game.position.cells Black

    after : Board
    after = seen size made.cells Black

    left : Colour → ℕ
    left c = leaves (count_of size) c before after

    now : taken ≡ taken_more (other game.side) more game.taken
    now = i ∙ ap (λ (c : Colour). taken_more c more game.taken) f

    counts : ((taken_more (other game.side) more game.taken).black ≡ game.taken.black + left Black) × ((taken_more (other game.side) more game.taken).white ≡ game.taken.white + left White)
    counts = more_is left game.side more game.taken (leaves_own (count_of size) (near_of size) game.side before after point (try_played t))
        (view_leaves (count_of size) (other game.side) game.position.cells made.cells ∙ sym t.played.captures)

-- ko
pub ko_refused : {size : Size} {start : Board} {ms : List Move} {k point : ℕ} {game : Game} {made : Position} {more : ℕ} → Trying size start ms k game point made more → game.before ≡ Some made → EndsSo size start ms game (Refused (Ko k))
ko_refused {size} {point = point} {made = made} t e = record {
  sized = t.facing.kept.sized;
  rules = refuse_ko t.facing.kept.state point (seen size made.cells Black) t.facing.there t.facing.move_is (try_inside t) (try_played t) (ap (ko_board size) e);
}

-- a stone after two passes
pub stone_refused : {size : Size} {start : Board} {ms : List Move} {k point : ℕ} {game : Game} {made : Position} {more : ℕ} → Trying size start ms k game point made more → length made.cells ≡ 361 →
    (game.before ≡ Some made → ⊥) → 2 ≤ game.passes → EndsSo size start ms game (Refused (AfterEnd k))
stone_refused {size} {point = point} {game = game} {made = made} t few o l = record {
  sized = t.facing.kept.sized;
  rules = refuse_stone t.facing.kept.state point (seen size made.cells Black) t.facing.there t.facing.move_is (try_inside t) (try_played t) (not_restored made game.before t.sized few t.facing.kept.before_sized o) l;
}
