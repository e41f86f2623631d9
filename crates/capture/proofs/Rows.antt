-- The row of moves while it is written: one move more, one capture more, and the end.
use Rattle.std.proofs.Common.{◌≡◌, ℕ, ◌+◌, ◌<◌, ◌≤◌, ◌⊎◌, List, [], ◌∷◌, ◌++◌, length, take, drop, set, sym, refl, ap, ◌∙◌, subst, inl, inr, arith}
use Rattle.std.proofs.lemmas.List.{take_more_set, length-take-le, length_push}
use Rattle.std.proofs.lemmas.Slice.{drop-append-drop}
use Rattle.std.proofs.Math.Seq.{take-append_seam}
use Rattle.grid.specs.Graph.{Near, Graph}
use Rattle.grid.specs.declared.size.Size.{Size}
use Rattle.chains.specs.Board.{none, mine, Board}
use Rattle.chains.specs.Computed.{count}
use Rattle.chains.specs.Stands.{Stands}
use Rattle.chains.specs.Sized.{count_of, near_of, seen}
use Rattle.chains.specs.Views.{other}
use Rattle.chains.specs.declared.colour.Colour.{Colour}
use Rattle.chains.specs.declared.colour.Colour.TheVariants.{Black, White}
use Rattle.chains.specs.declared.position.Position.{Position}
use Rattle.chains.proofs.Below.{count_less}
use Rattle.chains.proofs.States.{none_mine, is_state_true, state_is, state_is_not}
use Rattle.play.specs.Played.{Played, Plays, no_more, Inside}
use Rattle.play.proofs.Rows.{plays_append, plays_bound, inside_append, inside_more}
use Rattle.rooms.proofs.All.{all_mine}
use Rattle.judge.proofs.Frame.{was_mine}
use Rattle.judge.proofs.Back.{back}
use Rattle.judge.specs.Promise.{Shows}
use Rattle.capture.specs.Row.{board_of, SoFar, Captured, SomeCaptured, Unheld, RowShown}
use Rattle.capture.specs.declared.capturing.Row.{Row}

-- the other side of the other side
pub other_other : (c : Colour) → other (other c) ≡ c
other_other Black = refl
other_other White = refl

-- what is said of the points and neighbours of one size is said of those of the same size
pub along : {s t : Size} (P : ℕ → Near → Type 0) → s ≡ t → P (count_of s) (near_of s) → P (count_of t) (near_of t)
along P e h = subst (λ (u : Size). P (count_of u) (near_of u)) e h

-- before the first move
pub row_start : {position : Position} {colour : Colour} (row : Row) → row.position ≡ position → row.colour ≡ colour → row.played ≡ 0 →
    Stands position.size.width position.size.height (seen position.size position.cells colour) → SoFar (seen position.size position.cells colour) row
row_start row position_is colour_is none_played stands =
    record {
      stands = rw (position_is, colour_is) stands;
      plays = rw (position_is, colour_is, none_played) no_more;
      inside = rw none_played (λ i l. absurd (omega arith));
      fits = omega arith;
    }

-- one move more
pub row_step : {b : Board} {row : Row} → length row.moves ≡ 361 → SoFar b row → (next : Position) (y : ℕ) → next.size ≡ row.position.size → y < count_of row.position.size →
    Stands row.position.size.width row.position.size.height (seen row.position.size next.cells row.colour) →
    Played (near_of row.position.size) (board_of row) y (seen row.position.size next.cells row.colour) →
    (row.played < count_of row.position.size) × SoFar b (record { position = next; colour = row.colour; moves = set row.moves row.played y; played = row.played + 1 })
row_step {b} {row} long s next y sized below stands played = (room, after_move)
  where
    xs : List ℕ
    xs = take row.played row.moves

    n : ℕ
    n = count_of row.position.size

    xs_long : length xs ≡ row.played
    xs_long = length-take-le row.played row.moves (omega (arith, s.fits, row.position.size.few.1))

    all : Plays (near_of row.position.size) b (xs ++ y ∷ []) (seen row.position.size next.cells row.colour)
    all = plays_append s.plays (Plays.then played no_more)

    last : Inside n (y ∷ [])
    last = inside_more n y [] below (λ i l. absurd (omega arith))

    all_inside : Inside n (xs ++ y ∷ [])
    all_inside = inside_append n xs (y ∷ []) s.inside last

    room : row.played < n
    room = omega (arith, xs_long, plays_bound all_inside all, length_push xs y)

    same : take (row.played + 1) (set row.moves row.played y) ≡ xs ++ y ∷ []
    same = take_more_set row.moves row.played y (omega (arith, room, row.position.size.few.1))

    after_move : SoFar b (record { position = next; colour = row.colour; moves = set row.moves row.played y; played = row.played + 1 })
    after_move = record {
      stands = rw sized stands;
      plays = rw (sized, same) all;
      inside = rw (sized, same) all_inside;
      fits = rw sized (omega (arith, room));
    }

-- a capture, by the size of the board that the row began with
pub captured_on : {size : Size} (row later : Row) → row.position.size ≡ size → (t : SomeCaptured row later) → Captured (count_of size) (near_of size) (board_of row) t.0 (board_of later)
captured_on row later sized t = along (λ n near. Captured n near (board_of row) t.0 (board_of later)) sized t.1

-- after it there are fewer stones of mine
pub captured_fewer : {n : ℕ} {near : Near} {b d : Board} {c : ℕ} → Captured n near b c d → count (all_mine d) n < count (all_mine b) n
captured_fewer {n} {b = b} {d = d} {c = c} t =
    count_less (all_mine b) (all_mine d) n c
    (λ p i h. state_is mine (b p) (was_mine t.frame p (is_state_true mine (d p) h)))
    t.below (state_is mine (b c) t.was) (state_is_not mine (d c) (none_mine t.gone))

-- what no safe marks held before a capture, none hold after it
pub captured_unheld : {n : ℕ} {near : Near} → Graph n near → {b d : Board} {c : ℕ} (p : ℕ) → Captured n near b c d → Unheld near b p → Unheld near d p
captured_unheld g p t free s safe h = free s (back g t.frame t.gone safe) h

-- the stone stands or is taken, and no safe marks hold it
pub record Wanted (near : Near) (b : Board) (p : ℕ) : Type 0 where
  pub stone : (b p ≡ mine) ⊎ (b p ≡ none)
  pub unheld : Unheld near b p

-- so it is at first
pub wanted_start : {position : Position} {colour : Colour} (row : Row) (p : ℕ) → row.position ≡ position → row.colour ≡ colour → seen position.size position.cells colour p ≡ mine →
    Unheld (near_of position.size) (seen position.size position.cells colour) p → Wanted (near_of position.size) (board_of row) p
wanted_start row p position_is colour_is stone unheld = rw (position_is, colour_is) (record { stone = inl stone; unheld = unheld })

-- and after a capture
pub captured_wanted : {n : ℕ} {near : Near} → Graph n near → {b d : Board} {c p : ℕ} → Captured n near b c d → b p ≡ mine → Unheld near b p → Wanted near d p
captured_wanted g {p = p} t stone unheld = record { stone = t.frame.mine_go p stone; unheld = captured_unheld g p t unheld }

-- the stone is taken, and the moves are written over the first entries of lent memory
pub row_written : {size : Size} {b : Board} {row : Row} {p : ℕ} → row.position.size ≡ size → SoFar b row → Wanted (near_of size) (board_of row) p → (board_of row p ≡ mine → ⊥) →
    (front lent : List ℕ) → count_of size ≤ length lent → length front ≡ length (take row.played lent) → front ≡ take row.played row.moves →
    RowShown size.width size.height b p lent (front ++ drop row.played lent) row.played
unfolding Shows
row_written {size} {b} {row} {p} sized s wanted gone front lent long front_is is =
    record {
      shows = (board_of row, subst (λ (u : Size). Plays (near_of u) b written (board_of row)) sized (rw same s.plays), elim wanted.stone [ inl m ↦ absurd (gone m) | inr z ↦ z ]);
      inside = subst (λ (u : Size). Inside (count_of u) written) sized (rw same s.inside);
      fits = fits;
      past = drop-append-drop row.played lent front row.played (omega arith) front_long;
    }
  where
    fits : row.played ≤ count_of size
    fits = subst (λ (u : Size). row.played ≤ count_of u) sized s.fits

    front_long : length front ≡ row.played
    front_long = front_is ∙ length-take-le row.played lent (omega (arith, fits, long))

    written : List ℕ
    written = take row.played (front ++ drop row.played lent)

    same : written ≡ take row.played row.moves
    same = ap (λ (k : ℕ). take k (front ++ drop row.played lent)) (sym front_long) ∙ take-append_seam front (drop row.played lent) ∙ is
