-- What a judgement shows, or refuses to show, of a stone that the lines before admit.
use Rattle.std.proofs.Common.{◌≡◌, ℕ, true, false, not, List, get_or, Some, None, Option, sym, refl, ap, ◌∙◌, subst, inl, inr, arith}
use Rattle.std.proofs.lemmas.Bool.{cases_Bool, le-leb}
use Rattle.grid.specs.Refusals.{listed, unless}
use Rattle.grid.specs.declared.refusal.Refusal.{Refusal}
use Rattle.grid.specs.declared.refusal.Refusal.TheVariants.{BadSide, Count, BadByte, NoLiberty, OffBoard, Occupied, Suicide, Ko, AfterEnd, BadMarks, NotShown, TooShort}
use Rattle.grid.specs.declared.refusal.Untaken.TheVariants.{NoStone, Marked}
use Rattle.grid.specs.declared.size.Size.{Size}
use Rattle.chains.specs.Board.{mine, Board}
use Rattle.chains.specs.Sized.{count_of, seen}
use Rattle.chains.specs.declared.colour.Colour.{Colour}
use Rattle.chains.specs.declared.position.Position.{Position}
use Rattle.chains.proofs.States.{state_is}
use Rattle.rooms.specs.Safe.{Marks}
use Rattle.capture.specs.Judged.{row_refusal}
use Rattle.capture.specs.Row.{RowShown}
use Rattle.capture.specs.Showing.{Admitted, MarkedStone}
use Rattle.capture.specs.declared.judgement.Judgement.{Judgement}
use Rattle.capture.proofs.Carrying.{carried_judges}
use Rattle.capture.proofs.Fate.{marked_stays}

-- only one refusal has this line
of_number : (n : ℕ) {m k : ℕ} → ◌≡◌ {A = ℕ × ℕ} (n, k) (11, m) → n ≡ 11
of_number n e = ap (λ (l : ℕ × ℕ). l.0) e

only_marked : (e : Refusal) → listed e ≡ (11, 1) → e ≡ NotShown Marked
only_marked (BadSide s) h = let z = of_number 1 h in absurd (omega arith)
only_marked (Count n) h = let z = of_number 2 h in absurd (omega arith)
only_marked (BadByte n) h = let z = of_number 3 h in absurd (omega arith)
only_marked (NoLiberty n) h = let z = of_number 4 h in absurd (omega arith)
only_marked (OffBoard n) h = let z = of_number 5 h in absurd (omega arith)
only_marked (Occupied n) h = let z = of_number 6 h in absurd (omega arith)
only_marked (Suicide n) h = let z = of_number 7 h in absurd (omega arith)
only_marked (Ko n) h = let z = of_number 8 h in absurd (omega arith)
only_marked (AfterEnd n) h = let z = of_number 9 h in absurd (omega arith)
only_marked (BadMarks n) h = let z = of_number 10 h in absurd (omega arith)
only_marked (NotShown NoStone) h = let z : ◌≡◌ {A = ℕ} 0 1 = ap (λ (l : ℕ × ℕ). l.1) h in absurd (omega arith)
only_marked (NotShown Marked) h = refl
only_marked (TooShort l) h = let z = of_number 12 h in absurd (omega arith)

-- an admitted stone of which no row is shown is marked
marked_stone : (j : Judgement) {point chains rooms moves : ℕ} {e : Refusal} → Admitted j.position.size j.position.cells point chains rooms moves j.colour →
    Some (listed e) ≡ row_refusal j.position j.colour j.marks point moves → MarkedStone j.position.size j.position.cells point chains rooms moves e
marked_stone j {point} {chains} {rooms} {moves} {e} admitted refused =
    record {
      colour = j.colour;
      no_line = admitted.no_line;
      there = admitted.there;
      marked = record { is = only_marked e (of_line (refused ∙ line)); stays = marked_stays size.width size.height board marks point (carried_judges size.width size.height board marks j.right) marked };
    }
  where
    size : Size
    size = j.position.size

    board : Board
    board = seen size j.position.cells j.colour

    marks : Marks
    marks p = get_or j.marks.marked p false

    rest : row_refusal j.position j.colour j.marks point moves ≡ unless (not (marks point)) (11, 1) None
    rest = rw (le-leb (count_of size) moves admitted.fitting.moves_long, state_is mine (board point) admitted.stone) refl

    marked : marks point ≡ true
    marked = elim (cases_Bool (marks point)) [ inl f ↦ f | inr f ↦ (let z : Some (listed e) ≡ None = refused ∙ rest ∙ rw f refl in cc) ]

    line : row_refusal j.position j.colour j.marks point moves ≡ Some (11, 1)
    line = rest ∙ rw marked refl

    of_line : Some (listed e) ≡ Some (11, 1) → listed e ≡ (11, 1)
    of_line same = ap (λ (o : Option (ℕ × ℕ)). elim o [ Some l ↦ l | None ↦ (0, 0) ]) same

-- the same at a position and a colour that the judgement has
pub not_shown : (j : Judgement) {position : Position} {colour : Colour} {point chains rooms moves : ℕ} {e : Refusal} → j.position ≡ position → j.colour ≡ colour →
    Admitted position.size position.cells point chains rooms moves colour →
    Some (listed e) ≡ row_refusal j.position j.colour j.marks point moves → MarkedStone position.size position.cells point chains rooms moves e
not_shown j {position} {colour} {point} {chains} {rooms} {moves} {e} same_position same_colour admitted refused =
    subst (λ (p : Position). MarkedStone p.size p.cells point chains rooms moves e) same_position
    (marked_stone j
    (subst (λ (p : Position). Admitted p.size p.cells point chains rooms moves j.colour) (sym same_position)
    (subst (λ (c : Colour). Admitted position.size position.cells point chains rooms moves c) (sym same_colour) admitted)) refused)

-- a row that the judgement shows is one of that position and colour
pub shown_row : (j : Judgement) {position : Position} {colour : Colour} {point k : ℕ} {lent moves : List ℕ} → j.position ≡ position → j.colour ≡ colour →
    RowShown j.position.size.width j.position.size.height (seen j.position.size j.position.cells j.colour) point lent moves k →
    RowShown position.size.width position.size.height (seen position.size position.cells colour) point lent moves k
shown_row j {colour = colour} {point} {k} {lent} {moves} same_position same_colour row =
    subst (λ (p : Position). RowShown p.size.width p.size.height (seen p.size p.cells colour) point lent moves k) same_position
    (subst (λ (c : Colour). RowShown j.position.size.width j.position.size.height (seen j.position.size j.position.cells c) point lent moves k) same_colour row)
