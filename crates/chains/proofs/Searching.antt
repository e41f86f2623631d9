-- Looking for the first stone without breath on the square board.
use Rattle.std.proofs.Common.{◌≡◌, ℕ, zero, suc, ◌-◌, ◌<◌, ◌≤◌, Bool, true, false, not, ◌&&◌, List, get_or, Some, None, Option, sym, refl, ◌∙◌, arith}
use Rattle.std.proofs.lemmas.Bool.{both_ways}
use Rattle.std.proofs.lemmas.Bool.Decides.{nat_tests}
use Rattle.std.specs.List.{find, range_with_len}
use Rattle.grid.specs.Graph.{Near}
use Rattle.grid.specs.Grid.{points, near}
use Rattle.grid.proofs.Square.{graph}
use Rattle.chains.specs.Breath.{first_breathless, FromStart, BreathlessFrom, FirstBreathless}
use Rattle.chains.specs.Marks.{BreathMarks}
use Rattle.chains.specs.Stands.{Stands}
use Rattle.chains.specs.Views.{is_stone, view}
use Rattle.chains.specs.declared.colour.Colour.{Colour}
use Rattle.chains.proofs.Breath.{from_first, found_first, none_found}
use Rattle.chains.proofs.Finding.{found_in, found_none}
use Rattle.chains.proofs.Square.{stand_stands}
use Rattle.chains.proofs.Views.{view_byte, stone_byte_of, stone_view}

-- every stone from `from` on and before r is marked, and r has one that is not, or is past the last point
pub record Looked (n : ℕ) (cells : List ℕ) (marks : List Bool) (from r : ℕ) : Type 0 where
  pub bound : r ≤ n
  pub before : (q : ℕ) → from ≤ q → q < r → is_stone (get_or cells q 0) ≡ true → get_or marks q false ≡ true
  pub stone : r < n → is_stone (get_or cells r 0) ≡ true
  pub unmarked : r < n → get_or marks r false ≡ false

-- then it is the first stone without breath
pub looked_from : {n : ℕ} {near : Near} {cells : List ℕ} {marks : List Bool} {from r : ℕ} → ((colour : Colour) → BreathMarks near (view n cells colour) marks) →
    Looked n cells marks from r → (colour : Colour) → BreathlessFrom n near (view n cells colour) from r
looked_from {n} {near} {cells} {marks} {from} {r} m w colour = record {
  bound = w.bound;
  before = λ c q l k h e. (m colour q).sound c h e (w.before q l k (stone_byte_of n cells colour q (λ z. h (sym e ∙ z))));
  stone = λ l. stone_view n cells colour r l (w.stone l);
  breathless = λ c l h e b. both_ways (get_or marks r false) (w.unmarked l) ((m colour r).complete c h e b);
}

at_start : (from : ℕ) {T : Type 0} → (from ≡ 0 → T) → FromStart from T
at_start zero f = f refl
at_start (suc from) f = tt

-- with all that follows if the search began at the first point: that is what is computed,
pub looked_value : (w h : ℕ) {cells : List ℕ} {marks : List Bool} {from r : ℕ} → ((colour : Colour) → BreathMarks (near w h) (view (points w h) cells colour) marks) →
    Looked (points w h) cells marks from r → r < points w h →
    FromStart from ((r < points w h) × ((colour : Colour) → first_breathless (points w h) (near w h) (view (points w h) cells colour) ≡ r))
looked_value w h {from = from} m k l = at_start from (λ z. (l, λ colour. from_first (graph w h) z (looked_from m k colour)))

-- it is the first stone of its chain,
pub looked_first : (w h : ℕ) {cells : List ℕ} {marks : List Bool} {from r : ℕ} → ((colour : Colour) → BreathMarks (near w h) (view (points w h) cells colour) marks) →
    Looked (points w h) cells marks from r → r < points w h → FromStart from ((colour : Colour) → FirstBreathless (near w h) (view (points w h) cells colour) r)
looked_first w h {from = from} m k l = at_start from (λ z colour. found_first (graph w h) z (looked_from m k colour) l)

-- and where there is none, the board can stand
pub looked_stands : (w h : ℕ) {cells : List ℕ} {marks : List Bool} {from : ℕ} → ((colour : Colour) → BreathMarks (near w h) (view (points w h) cells colour) marks) →
    Looked (points w h) cells marks from (points w h) → FromStart from ((colour : Colour) → Stands w h (view (points w h) cells colour))
looked_stands w h {cells} {from = from} m k = at_start from (λ z colour.
    stand_stands (none_found (graph w h) z (λ p s. (view_byte (points w h) cells colour (view (points w h) cells colour p) p s refl).0) (looked_from m k colour) (omega arith)))

-- and none is computed
pub looked_none : (w h : ℕ) {cells : List ℕ} {marks : List Bool} {from : ℕ} → ((colour : Colour) → BreathMarks (near w h) (view (points w h) cells colour) marks) →
    Looked (points w h) cells marks from (points w h) →
    FromStart from ((colour : Colour) → first_breathless (points w h) (near w h) (view (points w h) cells colour) ≡ points w h)
looked_none w h {from = from} m k = at_start from (λ z colour. from_first (graph w h) z (looked_from m k colour))

-- whether a stone stands on a point that is not marked
abbrev pub unmarked_stone : List ℕ → List Bool → ℕ → Bool
unmarked_stone cells marks p = is_stone (get_or cells p 0) && not (get_or marks p false)

-- what was looked for from the point `from` on and found, or not found
pub looked_some : (n : ℕ) (cells : List ℕ) (marks : List Bool) (from p : ℕ) → Some p ≡ find (unmarked_stone cells marks) (range_with_len from (n - from)) → (p < n) × Looked n cells marks from p
looked_some n cells marks from p e =
    let f = found_in (unmarked_stone cells marks) from (n - from) p e in
    let passes = f.passes in
    let inside : p < n = omega (arith, f.from, f.below) in (
      inside,
      record {
        bound = omega arith;
        before = λ q l m s. let t = f.before q l m in grind (arith, nat_tests);
        stone = λ l. grind (arith, nat_tests);
        unmarked = λ l. grind (arith, nat_tests);
      },
    )

pub looked_all : (n : ℕ) (cells : List ℕ) (marks : List Bool) (from : ℕ) → None ≡ find (unmarked_stone cells marks) (range_with_len from (n - from)) → Looked n cells marks from n
looked_all n cells marks from e = record {
  bound = omega arith;
  before = λ q l m s. let t = found_none (unmarked_stone cells marks) from (n - from) e q l (omega arith) in grind (arith, nat_tests);
  stone = λ l. absurd (omega arith);
  unmarked = λ l. absurd (omega arith);
}

module _ (w h : ℕ) (cells : List ℕ) (marks : List Bool) (from : ℕ) (m : (colour : Colour) → BreathMarks (near w h) (view (points w h) cells colour) marks) where
  -- so it is the first stone without breath from there on,
  pub search_next : (r : Option ℕ) → r ≡ find (unmarked_stone cells marks) (range_with_len from (points w h - from)) →
      elim r as (λ _. Type 0) [
        | Some p ↦ (p < points w h) × ((colour : Colour) → BreathlessFrom (points w h) (near w h) (view (points w h) cells colour) from p)
        | None ↦ (colour : Colour) → BreathlessFrom (points w h) (near w h) (view (points w h) cells colour) from (points w h)
      ]
  search_next None e = looked_from m (looked_all (points w h) cells marks from e)
  search_next (Some p) e = let f = looked_some (points w h) cells marks from p e in (f.0, looked_from m f.1)

  -- and if the search began at the first point, the first of all,
  pub search_found : (r : Option ℕ) → r ≡ find (unmarked_stone cells marks) (range_with_len from (points w h - from)) →
      elim r as (λ _. Type 0) [
        | Some p ↦ FromStart from ((colour : Colour) → FirstBreathless (near w h) (view (points w h) cells colour) p)
        | None ↦ FromStart from ((colour : Colour) → Stands w h (view (points w h) cells colour))
      ]
  search_found None e = looked_stands w h m (looked_all (points w h) cells marks from e)
  search_found (Some p) e = let f = looked_some (points w h) cells marks from p e in looked_first w h m f.1 f.0

  -- which is what is computed
  pub search_value : (r : Option ℕ) → r ≡ find (unmarked_stone cells marks) (range_with_len from (points w h - from)) →
      elim r as (λ _. Type 0) [
        | Some p ↦ FromStart from ((p < points w h) × ((colour : Colour) → first_breathless (points w h) (near w h) (view (points w h) cells colour) ≡ p))
        | None ↦ FromStart from ((colour : Colour) → first_breathless (points w h) (near w h) (view (points w h) cells colour) ≡ points w h)
      ]
  search_value None e = looked_none w h m (looked_all (points w h) cells marks from e)
  search_value (Some p) e = let f = looked_some (points w h) cells marks from p e in looked_value w h m f.1 f.0
