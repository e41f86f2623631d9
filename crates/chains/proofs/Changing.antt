-- Stones without breath are taken off: what becomes of each byte.
use Rattle.std.proofs.Common.{◌≡◌, ℕ, ◌<◌, ◌≤◌, Bool, true, false, not, ◌&&◌, eqb, ◌⊎◌, List, get_or, sym, refl, ap, ◌∙◌, inl, inr, arith}
use Rattle.std.proofs.lemmas.Bool.{cases_Bool, cases_lt, cond_both, eqb-true}
use Rattle.grid.proofs.Square.{graph}
use Rattle.chains.specs.Board.{mine}
use Rattle.chains.specs.Changed.{kept_byte}
use Rattle.chains.specs.Computed.{breathing}
use Rattle.chains.specs.Marks.{BreathMarks}
use Rattle.chains.specs.Sized.{count_of, near_of, seen}
use Rattle.chains.specs.Views.{stone_byte, is_point}
use Rattle.chains.specs.declared.colour.Colour.{Colour}
use Rattle.chains.specs.declared.colour.Colour.TheVariants.{Black, White}
use Rattle.chains.specs.declared.position.Position.{Position}
use Rattle.chains.proofs.Breath.{breathes_at_is}
use Rattle.chains.proofs.States.{none_mine}
use Rattle.chains.proofs.Views.{byte_view}

-- a byte that writes a point becomes one that does
pub kept_point : (gone byte : ℕ) (breathes : Bool) → is_point byte ≡ true → is_point (kept_byte gone byte breathes) ≡ true
kept_point gone byte breathes e = cond_both (eqb byte gone && not breathes) 46 byte (λ (x : ℕ). is_point x ≡ true) (λ f. refl) (λ f. e)

-- an empty point stays empty
pub kept_empty : (gone byte : ℕ) (breathes : Bool) → byte ≡ 46 → kept_byte gone byte breathes ≡ 46
kept_empty gone byte breathes e = cond_both (eqb byte gone && not breathes) 46 byte (λ (x : ℕ). x ≡ 46) (λ f. refl) (λ f. e)

-- the bytes that are kept of a position are those of one
pub kept_board : (position : Position) (left : List ℕ) (gone : ℕ) (marks : List Bool) → ((p : ℕ) → p < 361 → get_or left p 0 ≡ kept_byte gone (get_or position.cells p 0) (get_or marks p false)) →
    ((p : ℕ) → p < count_of position.size → is_point (get_or left p 0) ≡ true) × ((p : ℕ) → count_of position.size ≤ p → p < 361 → get_or left p 0 ≡ 46)
kept_board position left gone marks each = (
  (λ p l. let few : p < 361 = omega (arith, position.size.few.1) in
      ap is_point (each p few) ∙ kept_point gone (get_or position.cells p 0) (get_or marks p false) (position.board p l)),
  (λ p l k. each p k ∙ kept_empty gone (get_or position.cells p 0) (get_or marks p false) (position.past p l k)),
)

not_empty : (colour : Colour) → 46 ≡ stone_byte colour → ⊥
not_empty Black e = omega arith
not_empty White e = omega arith

-- the marks of stones that breathe say what is computed
pub kept_so : (position : Position) (colour : Colour) (marks : List Bool) → ((c : Colour) → BreathMarks (near_of position.size) (seen position.size position.cells c) marks) → (p : ℕ) → p < 361 →
    kept_byte (stone_byte colour) (get_or position.cells p 0) (get_or marks p false)
    ≡ kept_byte (stone_byte colour) (get_or position.cells p 0) (breathing (count_of position.size) (near_of position.size) (seen position.size position.cells colour) mine p)
kept_so position colour marks m p l = elim (cases_Bool (eqb (get_or position.cells p 0) (stone_byte colour))) [
  | inl e ↦ stone (eqb-true (get_or position.cells p 0) (stone_byte colour) e) (cases_lt p (count_of position.size))
  | inr e ↦ rw e refl
]
  where
    stone : get_or position.cells p 0 ≡ stone_byte colour → (p < count_of position.size) ⊎ (count_of position.size ≤ p) →
        kept_byte (stone_byte colour) (get_or position.cells p 0) (get_or marks p false)
        ≡ kept_byte (stone_byte colour) (get_or position.cells p 0) (breathing (count_of position.size) (near_of position.size) (seen position.size position.cells colour) mine p)
    stone e (inl k) = ap (kept_byte (stone_byte colour) (get_or position.cells p 0))
        (breathes_at_is (graph position.size.width position.size.height) (m colour p) mine (λ z. none_mine z refl) (byte_view (count_of position.size) position.cells colour mine p (λ z. none_mine z refl) k e))
    stone e (inr k) = absurd (not_empty colour (sym (position.past p k l) ∙ e))
