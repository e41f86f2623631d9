-- What a refusal says of a stone, in the words of the rules, and what it says that none applies.
use Rattle.std.proofs.Common.{◌≡◌, ℕ, ◌<◌, ◌≤◌, Bool, true, false, ltb, ◌≢◌, List, Some, None, Option, sym, refl, ap, ◌∙◌, subst, arith}
use Rattle.std.proofs.lemmas.Bool.{both_ways, ltb-true, ltb-false}
use Rattle.grid.specs.Grid.{points, near}
use Rattle.grid.specs.Refusals.{listed, number_of, place_of, unless}
use Rattle.grid.specs.declared.refusal.Refusal.{Refusal}
use Rattle.grid.specs.declared.refusal.Refusal.TheVariants.{BadSide, Count, BadByte, NoLiberty, OffBoard, Occupied, Suicide, Ko, AfterEnd, BadMarks, NotShown, TooShort}
use Rattle.chains.specs.Board.{none, yours, Board}
use Rattle.chains.specs.Computed.{is_state, breathing}
use Rattle.chains.specs.Views.{points_refusal}
use Rattle.chains.specs.declared.colour.Colour.{Colour}
use Rattle.chains.proofs.States.{is_state_true, state_is}
use Rattle.play.specs.Played.{Played}
use Rattle.play.specs.Stone.{faced, made, stone_refusal, StoneRefused}
use Rattle.play.proofs.Refusing.{number_in, lines_of}

-- why a stone on a board that is written well is refused
pub data Reason (w h : ℕ) (bytes : List ℕ) (colour : Colour) (point turn : ℕ) : Refusal → Type 0 where
  -- the point is not there
  not_there : points w h ≤ point → Reason w h bytes colour point turn (OffBoard turn)
  -- a stone stands on it
  not_empty : point < points w h → faced w h bytes colour point ≢ none → Reason w h bytes colour point turn (Occupied turn)
  -- no board is the board of the move
  no_move : point < points w h → faced w h bytes colour point ≡ none → ((d : Board) → Played (near w h) (faced w h bytes colour) point d → ⊥) → Reason w h bytes colour point turn (Suicide turn)

-- the refusals of a stone, told with their places
data Told (e : Refusal) : Type 0 where
  is_off_board : (place : ℕ) → e ≡ OffBoard place → Told e
  is_occupied : (place : ℕ) → e ≡ Occupied place → Told e
  is_suicide : (place : ℕ) → e ≡ Suicide place → Told e
  is_another : (number_of e ≡ 5 → ⊥) → (number_of e ≡ 6 → ⊥) → (number_of e ≡ 7 → ⊥) → Told e

told : (e : Refusal) → Told e
told (BadSide s) = is_another (λ k. omega arith) (λ k. omega arith) (λ k. omega arith)
told (Count n) = is_another (λ k. omega arith) (λ k. omega arith) (λ k. omega arith)
told (BadByte n) = is_another (λ k. omega arith) (λ k. omega arith) (λ k. omega arith)
told (NoLiberty n) = is_another (λ k. omega arith) (λ k. omega arith) (λ k. omega arith)
told (OffBoard n) = is_off_board n refl
told (Occupied n) = is_occupied n refl
told (Suicide n) = is_suicide n refl
told (Ko n) = is_another (λ k. omega arith) (λ k. omega arith) (λ k. omega arith)
told (AfterEnd n) = is_another (λ k. omega arith) (λ k. omega arith) (λ k. omega arith)
told (BadMarks n) = is_another (λ k. omega arith) (λ k. omega arith) (λ k. omega arith)
told (NotShown u) = is_another (λ k. omega arith) (λ k. omega arith) (λ k. omega arith)
told (TooShort l) = is_another (λ k. omega arith) (λ k. omega arith) (λ k. omega arith)

off_board_is : (e : Refusal) (turn : ℕ) → number_of e ≡ 5 → place_of e ≡ turn → e ≡ OffBoard turn
off_board_is e turn k l = elim (told e) [
  | is_off_board n s ↦ s ∙ ap OffBoard (sym (ap place_of s) ∙ l)
  | is_occupied n s ↦ absurd (omega (arith, ap number_of s))
  | is_suicide n s ↦ absurd (omega (arith, ap number_of s))
  | is_another a b c ↦ absurd (a k)
]

occupied_is : (e : Refusal) (turn : ℕ) → number_of e ≡ 6 → place_of e ≡ turn → e ≡ Occupied turn
occupied_is e turn k l = elim (told e) [
  | is_off_board n s ↦ absurd (omega (arith, ap number_of s))
  | is_occupied n s ↦ s ∙ ap Occupied (sym (ap place_of s) ∙ l)
  | is_suicide n s ↦ absurd (omega (arith, ap number_of s))
  | is_another a b c ↦ absurd (b k)
]

suicide_is : (e : Refusal) (turn : ℕ) → number_of e ≡ 7 → place_of e ≡ turn → e ≡ Suicide turn
suicide_is e turn k l = elim (told e) [
  | is_off_board n s ↦ absurd (omega (arith, ap number_of s))
  | is_occupied n s ↦ absurd (omega (arith, ap number_of s))
  | is_suicide n s ↦ s ∙ ap Suicide (sym (ap place_of s) ∙ l)
  | is_another a b c ↦ absurd (c k)
]

abbrev place_in : Option (ℕ × ℕ) → ℕ
place_in None = 0
place_in (Some line) = line.1

some_none : {line : ℕ × ℕ} → ◌≡◌ {A = Option (ℕ × ℕ)} (Some line) None → ⊥
some_none e = let z : ◌≡◌ {A = ℕ} 0 1 = cc in omega arith

-- the lines on the stone, by their tests
abbrev lines : Bool → Bool → Bool → ℕ → Option (ℕ × ℕ)
lines there empty breath turn = unless there (5, turn) (unless empty (6, turn) (unless breath (7, turn) None))

no_line : (there empty breath : Bool) (turn : ℕ) → lines there empty breath turn ≡ None → (there ≡ true) × (empty ≡ true) × (breath ≡ true)
no_line true true true turn e = (refl, refl, refl)
no_line true true false turn e = absurd (some_none e)
no_line true false breath turn e = absurd (some_none e)
no_line false empty breath turn e = absurd (some_none e)

-- which line applies, by its number
data Line (there empty breath : Bool) (number : ℕ) : Type 0 where
  line_5 : there ≡ false → number ≡ 5 → Line there empty breath number
  line_6 : there ≡ true → empty ≡ false → number ≡ 6 → Line there empty breath number
  line_7 : there ≡ true → empty ≡ true → number ≡ 7 → Line there empty breath number

which_line : (there empty breath : Bool) (turn : ℕ) (e : Refusal) → lines there empty breath turn ≡ Some (listed e) → Line there empty breath (number_of e) × (place_of e ≡ turn)
which_line true true true turn e s = absurd (some_none (sym s))
which_line true true false turn e s = (line_7 refl refl (sym (ap number_in s)), sym (ap place_in s))
which_line true false breath turn e s = (line_6 refl refl (sym (ap number_in s)), sym (ap place_in s))
which_line false empty breath turn e s = (line_5 refl (sym (ap number_in s)), sym (ap place_in s))

-- what no refusal says: the point is there and empty, and the new stone breathes
pub allowed_facts : (w h : ℕ) (bytes : List ℕ) (colour : Colour) (point turn : ℕ) → points_refusal (points w h) bytes ≡ None → stone_refusal w h bytes colour point turn ≡ None →
    (point < points w h) × (faced w h bytes colour point ≡ none) × (breathing (points w h) (near w h) (made w h bytes colour point) yours point ≡ true)
allowed_facts w h bytes colour point turn fine e =
    let f = no_line (ltb point (points w h)) (is_state none (faced w h bytes colour point)) (breathing (points w h) (near w h) (made w h bytes colour point) yours point) turn
    (sym (lines_of w h bytes colour point turn fine) ∙ e) in
    (ltb-true point (points w h) f.0, is_state_true none (faced w h bytes colour point) f.1, f.2)

-- what a refusal says of a stone on a board that is written well
pub reason : {w h : ℕ} {bytes : List ℕ} {colour : Colour} {point turn : ℕ} {e : Refusal} → points_refusal (points w h) bytes ≡ None → StoneRefused w h bytes colour point turn e →
    Reason w h bytes colour point turn e
reason {w} {h} {bytes} {colour} {point} {turn} {e} fine r =
    let f = which_line (ltb point (points w h)) (is_state none (faced w h bytes colour point)) (breathing (points w h) (near w h) (made w h bytes colour point) yours point) turn e
    (sym (lines_of w h bytes colour point turn fine) ∙ r.line) in
    elim f.0 [
      | line_5 a k ↦ subst (λ (x : Refusal). Reason w h bytes colour point turn x) (sym (off_board_is e turn k f.1)) (not_there (ltb-false point (points w h) a))
      | line_6 a b k ↦ subst (λ (x : Refusal). Reason w h bytes colour point turn x) (sym (occupied_is e turn k f.1))
          (not_empty (ltb-true point (points w h) a) (λ z. both_ways (is_state none (faced w h bytes colour point)) b (state_is none (faced w h bytes colour point) z)))
      | line_7 a b k ↦ subst (λ (x : Refusal). Reason w h bytes colour point turn x) (sym (suicide_is e turn k f.1))
          (no_move (ltb-true point (points w h) a) (is_state_true none (faced w h bytes colour point) b) (r.no_board k))
    ]
