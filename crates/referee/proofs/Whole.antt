-- A whole record: how it begins, and what is handed back.
use Rattle.std.proofs.Common.{◌≡◌, ℕ, ◌+◌, ◌*◌, ◌%◌, ◌<◌, ◌≤◌, Bool, true, eqb, leb, List, ◌++◌, length, get_or, take, drop, Some, None, Option, sym, refl, ap, ◌∙◌, subst, arith}
use Rattle.std.proofs.lemmas.List.{get_or-take, length-take-le, take-append-le, take_all}
use Rattle.std.proofs.lemmas.Slice.{drop-append-drop}
use Rattle.std.proofs.lemmas.Bool.{le-leb, eq-eqb}
use Rattle.grid.specs.Graph.{Near}
use Rattle.grid.specs.Grid.{points, near as square}
use Rattle.grid.specs.Refusals.{listed, unless}
use Rattle.grid.specs.declared.refusal.Refusal.{Refusal}
use Rattle.grid.specs.declared.size.Size.{Size}
use Rattle.grid.proofs.Square.{graph}
use Rattle.chains.specs.Board.{Board}
use Rattle.chains.specs.Breath.{stand_refusal}
use Rattle.chains.specs.Sized.{count_of, near_of, seen}
use Rattle.chains.specs.Stands.{Stands, Stand}
use Rattle.chains.specs.Views.{is_point, points_refusal, view}
use Rattle.chains.specs.declared.colour.Colour.{Colour}
use Rattle.chains.specs.declared.colour.Colour.TheVariants.{Black}
use Rattle.chains.specs.declared.position.Position.{Position}
use Rattle.chains.proofs.Square.{stands_stand, stand_stands}
use Rattle.chains.proofs.Views.{same_view}
use Rattle.play.specs.Stone.{or_below}
use Rattle.referee.specs.declared.game.Game.{Game}
use Rattle.referee.specs.declared.game.Ended.{Ended}
use Rattle.referee.specs.declared.moves.Move.{Move}
use Rattle.referee.specs.Game.{board_of, Kept, Facing, RecordLeft, answer_of}
use Rattle.referee.specs.Moves.{move_of, moves_of}
use Rattle.referee.specs.Record.{record_refusal, Ready, RecordRefereed}
use Rattle.referee.specs.Rules.{Refereed}
use Rattle.referee.specs.Statements.{RecordStands, RecordUnique}
use Rattle.referee.proofs.Boards.{stand_seen}
use Rattle.referee.proofs.Bytes.{next_move, no_move_left}
use Rattle.referee.proofs.Laws.{record_stands, record_unique}
use Rattle.referee.proofs.Views.{view_seen}

-- what is kept while the moves are followed: the bytes that are left write the moves from k on
pub record Following (size : Size) (start : Board) (bytes rest : List ℕ) (chunk k : ℕ) (game : Game) : Type 0 where
  pub kept : Kept size start (moves_of bytes) k game
  pub left : drop k (moves_of bytes) ≡ moves_of rest
  pub within : k ≤ length (moves_of bytes)
  pub pairs : chunk ≡ 2

-- all bytes are left
pub following_start : {size : Size} {start : Board} {bytes rest : List ℕ} {chunk k : ℕ} {game : Game} → rest ≡ bytes → chunk ≡ 2 → k ≡ 0 → Kept size start (moves_of bytes) 0 game → Following size start bytes rest chunk k game
following_start {size} {start} {bytes} {game = game} e f g s = record {
  kept = subst (λ (k : ℕ). Kept size start (moves_of bytes) k game) (sym g) s;
  left = rw g (ap moves_of (sym e));
  within = rw g (omega arith);
  pairs = f;
}

-- the next two bytes write the next move
pub following_next : {size : Size} {start : Board} {bytes rest : List ℕ} {chunk k : ℕ} {game : Game} (number : ℕ) (next : Move) (pair later : List ℕ) → Following size start bytes rest chunk k game →
    number ≡ k → rest ≡ pair ++ later → length pair ≡ chunk → next ≡ move_of (get_or pair 0 0 + 256 * get_or pair 1 0) → Facing size start (moves_of bytes) number game next
following_next {size} {start} {bytes} {rest} {game = game} number next pair later s n e h m =
    let w = next_move bytes rest pair later _ s.left e (h ∙ s.pairs) in
    subst (λ (k : ℕ). Facing size start (moves_of bytes) k game next) (sym n) (record { kept = s.kept; there = w.0; move_is = w.1 ∙ sym m })

-- and where it is allowed, the bytes after them are left
pub following_more : {size : Size} {start : Board} {bytes rest : List ℕ} {chunk k : ℕ} {game : Game} (number : ℕ) (pair later : List ℕ) {after size' : ℕ} {game' : Game} → Following size start bytes rest chunk k game →
    number ≡ k → after ≡ k + 1 → size' ≡ chunk → rest ≡ pair ++ later → length pair ≡ chunk → Kept size start (moves_of bytes) (number + 1) game' → Following size start bytes later size' after game'
following_more {size} {start} {bytes} {rest} {k = k} number pair later {game' = game'} s n a z e h t =
    let w = next_move bytes rest pair later k s.left e (h ∙ s.pairs) in
    record {
      kept = subst (λ (j : ℕ). Kept size start (moves_of bytes) j game') (ap (λ (j : ℕ). j + 1) n ∙ sym a) t;
      left = rw a (w.2);
      within = omega (arith, w.0);
      pairs = z ∙ s.pairs;
    }

-- no move is left
pub following_end : {size : Size} {start : Board} {bytes rest : List ℕ} {chunk k : ℕ} {game : Game} → Following size start bytes rest chunk k game → length rest < chunk → Kept size start (moves_of bytes) (length (moves_of bytes)) game
following_end {size} {start} {bytes} {rest} {k = k} {game = game} s h =
    let e : k ≡ length (moves_of bytes) = omega (arith, s.within, s.pairs, no_move_left bytes rest k s.left (omega (arith, s.pairs))) in
    subst (λ (j : ℕ). Kept size start (moves_of bytes) j game) e s.kept

-- lines that do not apply are passed over
lines_passed : (a b : Bool) (first second : ℕ × ℕ) (o rest : Option (ℕ × ℕ)) → a ≡ true → b ≡ true → o ≡ None → unless a first (unless b second (or_below o rest)) ≡ rest
lines_passed a b first second o rest e f g = rw (e, f, g) refl

-- where the lines above do not apply, the board decides
record_line : (w h : ℕ) (board moves : List ℕ) → points w h ≤ length board → length moves % 2 ≡ 0 → points_refusal (points w h) board ≡ None → record_refusal w h board moves ≡ stand_refusal (points w h) (square w h) (board_of w h board)
record_line w h board moves l e f =
    lines_passed (leb (points w h) (length board)) (eqb (length moves % 2) 0) (12, 0) (2, length moves) (points_refusal (points w h) board) (stand_refusal (points w h) (square w h) (board_of w h board))
    (le-leb (points w h) (length board) l) (eq-eqb (length moves % 2) 0 e) f

-- what a position was made of
pub record MadeOf (position : Position) (size : Size) (board : List ℕ) : Type 0 where
  pub fine : points_refusal (count_of size) board ≡ None
  pub sized : position.size ≡ size
  pub same : take (count_of size) position.cells ≡ take (count_of size) board

-- what holds of the position's board holds of the bytes' board
made_board : {position : Position} {size : Size} {board : List ℕ} (P : Size → Board → Type 0) (colour : Colour) → MadeOf position size board → P position.size (seen position.size position.cells colour) → P size (view (count_of size) board colour)
made_board {position} {size} {board} P colour m x =
    subst (λ (b : Board). P size b) (same_view (count_of size) position.cells board colour m.same) (subst (λ (s : Size). P s (seen s position.cells colour)) m.sized x)

-- a board that cannot stand
pub not_standing : {position : Position} {size : Size} {board : List ℕ} (moves : List ℕ) (e : Refusal) → MadeOf position size board → count_of size ≤ length board → length moves % 2 ≡ 0 →
    Some (listed e) ≡ stand_refusal (count_of position.size) (near_of position.size) (seen position.size position.cells Black) → record_refusal size.width size.height board moves ≡ Some (listed e)
not_standing {position} {size} {board} moves e m l f i =
    record_line size.width size.height board moves l f m.fine ∙ sym (made_board (λ (s : Size) (b : Board). Some (listed e) ≡ stand_refusal (count_of s) (near_of s) b) Black m i)

-- before the first move
pub ready_so : {position : Position} {size : Size} {board : List ℕ} (moves : List ℕ) (game : Game) → MadeOf position size board → count_of size ≤ length board → length moves % 2 ≡ 0 →
    stand_refusal (count_of position.size) (near_of position.size) (seen position.size position.cells Black) ≡ None →
    ((colour : Colour) → Stands position.size.width position.size.height (seen position.size position.cells colour)) →
    game.position ≡ position → Kept position.size (seen position.size position.cells Black) (moves_of moves) 0 game → Ready size board moves game
ready_so {position} {size} {board} moves game m l f i s e k = record {
  long = l;
  allowed = record_line size.width size.height board moves l f m.fine ∙ made_board (λ (z : Size) (b : Board). stand_refusal (count_of z) (near_of z) b ≡ None) Black m i;
  sized = ap (λ (x : Position). x.size) e ∙ m.sized;
  same = ap (λ (x : Position). seen size x.cells Black) e ∙ same_view (count_of size) position.cells board Black m.same;
  stands = λ colour. made_board (λ (z : Size) (b : Board). Stands z.width z.height b) colour m (s colour);
  kept = subst (λ (x : Position). Kept x.size (seen x.size x.cells Black) (moves_of moves) 0 game) (sym e) k;
}

-- what is handed back
pub handed_back : {size : Size} {board moves : List ℕ} {game : Game} (ended : Ended) (left : List ℕ) → Ready size board moves game →
    RecordLeft game.position.size (seen game.position.size game.position.cells Black) (moves_of moves) ended → length ended.game.position.cells ≡ 361 →
    left ≡ take (count_of ended.game.position.size) ended.game.position.cells ++ drop (count_of ended.game.position.size) board → RecordRefereed size.width size.height board moves (answer_of ended) left
unfolding RecordStands RecordUnique
handed_back {size} {board} {moves} {game} ended left r d long t = record {
  allowed = r.allowed;
  rules = rules;
  only = λ other final o. record_unique n near (seen size board Black) (moves_of moves) other (answer_of ended) final (seen size left Black) o rules;
  stands = λ colour. stand_stands (subst (λ (b : Board). Stand n near b) (view_seen n left colour) (stand_seen colour stand));
  written = λ p o. subst (λ (byte : ℕ). is_point byte ≡ true) (cell p o) (written p o);
  past = past;
}
  where
    n : ℕ
    n = count_of size

    near : Near
    near = near_of size

    cells : List ℕ
    cells = ended.game.position.cells

    sized : ended.game.position.size ≡ size
    sized = d.sized ∙ r.sized

    e : left ≡ take n cells ++ drop n board
    e = subst (λ (z : Size). left ≡ take (count_of z) cells ++ drop (count_of z) board) sized t

    written : (p : ℕ) → p < n → is_point (get_or cells p 0) ≡ true
    written = subst (λ (z : Size). (p : ℕ) → p < count_of z → is_point (get_or cells p 0) ≡ true) sized ended.game.position.board

    whole : length (take n cells) ≡ n
    whole = length-take-le n cells (omega (arith, size.few.1))

    front : take n left ≡ take n cells
    front = ap (take n) e ∙ take-append-le n (take n cells) (drop n board) (omega (arith, whole)) ∙ take_all n (take n cells) (omega (arith, whole))

    past : drop n left ≡ drop n board
    past = ap (drop n) e ∙ drop-append-drop n board (take n cells) n (omega arith) whole

    cell : (p : ℕ) → p < n → get_or cells p 0 ≡ get_or left p 0
    cell p o = sym (get_or-take n cells p 0 o) ∙ ap (λ (zs : List ℕ). get_or zs p 0) (sym front) ∙ get_or-take n left p 0 o

    rules : Refereed n near (seen size board Black) (moves_of moves) (answer_of ended) (seen size left Black)
    rules = subst (λ (b : Board). Refereed n near b (moves_of moves) (answer_of ended) (seen size left Black)) r.same
        (subst (λ (b : Board). Refereed n near (seen size game.position.cells Black) (moves_of moves) (answer_of ended) b) (sym (same_view n left cells Black front))
        (subst (λ (z : Size). Refereed (count_of z) (near_of z) (seen z game.position.cells Black) (moves_of moves) (answer_of ended) (seen z cells Black)) r.sized d.rules))

    stand : Stand n near (seen size left Black)
    stand = record_stands n near (graph size.width size.height) (seen size board Black) (stands_stand (r.stands Black)) (moves_of moves) (answer_of ended) (seen size left Black) rules
