-- A position that was made of bytes of that size and points: what holds of the one holds of the other.
use Rattle.std.proofs.Common.{◌≡◌, ℕ, ◌-◌, ◌≤◌, false, eqb, leb, List, ◌++◌, length, take, drop, Some, None, Option, sym, refl, ap, ◌∙◌, subst, ap₂, arith, length-drop}
use mathlib.Core.Path.{fun_ext}
use Rattle.std.proofs.lemmas.List.{take_all}
use Rattle.std.proofs.lemmas.Bool.{eq-eqb, le-leb}
use Rattle.std.proofs.lemmas.Bool.Decides.{nat_tests}
use Rattle.std.specs.List.{prefix_len}
use Rattle.grid.specs.Grid.{points}
use Rattle.grid.specs.Refusals.{unless}
use Rattle.grid.specs.declared.size.Size.{Size}
use Rattle.chains.specs.Board.{Board}
use Rattle.chains.specs.Breath.{first_breathless}
use Rattle.chains.specs.Sized.{count_of, near_of, seen}
use Rattle.chains.specs.Views.{is_point, view}
use Rattle.chains.specs.declared.colour.Colour.{Colour}
use Rattle.chains.specs.declared.colour.Colour.TheVariants.{Black}
use Rattle.chains.specs.declared.position.Position.{Position}
use Rattle.chains.proofs.Views.{same_view}
use Rattle.judge.specs.Refused.{judge_refusal}
use Rattle.capture.specs.Showing.{memory_refusal}
use Rattle.notation.specs.Layout.{width_of, height_of, size_points, cells_of, cells_lines, points_lines, LentFor, PointsOf}
use Rattle.notation.specs.Showing.{all_lent_lines}

-- what the bytes show is what the position shows
carry_seen : (P : Size → (Colour → Board) → Type 0) (position : Position) (size : Size) (cells : List ℕ) → length cells ≡ count_of size → position.size ≡ size → take (count_of size) position.cells ≡ cells →
    P position.size (seen position.size position.cells) → P size (seen size cells)
carry_seen P position size cells all sized same h =
    subst (λ (v : Colour → Board). P size v) (fun_ext (λ colour. same_view (count_of size) position.cells cells colour (same ∙ sym (take_all (count_of size) cells (omega arith)))))
    (subst (λ (s : Size). P s (seen s position.cells)) sized h)

pub carry : (P : Size → (Colour → Board) → Type 0) {size : Size} {cells : List ℕ} {position : Position} → PointsOf size cells position →
    P position.size (seen position.size position.cells) → P size (seen size cells)
carry P {size} {cells} {position} m h = carry_seen P position size cells m.all m.sized m.same h

-- the line on the position's stones without a liberty, before the lines below it
abbrev pub breath_line : Position → Option (ℕ × ℕ) → Option (ℕ × ℕ)
breath_line position rest =
    unless (leb (count_of position.size) (first_breathless (count_of position.size) (near_of position.size) (seen position.size position.cells Black)))
    (4, first_breathless (count_of position.size) (near_of position.size) (seen position.size position.cells Black))
    rest

-- of the lines on the points only that one is left
breath_left : {size : Size} {cells : List ℕ} {position : Position} → PointsOf size cells position → (rest : Option (ℕ × ℕ)) → cells_lines size.width size.height cells rest ≡ breath_line position rest
breath_left {size} {cells} {position} m rest =
    rw (le-leb (count_of size) (prefix_len is_point cells) m.good)
    (sym (carry (λ (s : Size) (v : Colour → Board). breath_line position rest ≡ unless (leb (count_of s) (first_breathless (count_of s) (near_of s) (v Black))) (4, first_breathless (count_of s) (near_of s) (v Black)) rest) m refl))

-- the size, the points and the position are those of the bytes, and so much memory is lent
pub record ReadFrom (bytes : List ℕ) (lent chains rooms : ℕ) (size : Size) (cells : List ℕ) (position : Position) : Type 0 where
  pub memory : LentFor bytes lent chains rooms size
  pub cells_are : cells ≡ cells_of bytes
  pub made : PointsOf size cells position

-- how many points there are
pub read_count : {bytes cells : List ℕ} {lent chains rooms : ℕ} {size : Size} {position : Position} → ReadFrom bytes lent chains rooms size cells position → count_of size ≡ size_points bytes
read_count r = ap₂ points r.memory.width r.memory.height

-- what holds of the position holds of the bytes
pub carry_read : (P : ℕ → ℕ → (Colour → Board) → Type 0) {bytes cells : List ℕ} {lent chains rooms : ℕ} {size : Size} {position : Position} → ReadFrom bytes lent chains rooms size cells position →
    P position.size.width position.size.height (seen position.size position.cells) → P (width_of bytes) (height_of bytes) (view (size_points bytes) (cells_of bytes))
carry_read P {bytes} {cells} {size = size} r h =
    subst (λ (cs : List ℕ). P (width_of bytes) (height_of bytes) (view (size_points bytes) cs)) r.cells_are
    (subst (λ (n : ℕ). P (width_of bytes) n (view (points (width_of bytes) n) cells)) r.memory.height
    (subst (λ (n : ℕ). P n size.height (view (points n size.height) cells)) r.memory.width
    (carry (λ (s : Size) (v : Colour → Board). P s.width s.height v) r.made h)))

-- of the lines on the points of the bytes only that on the stones without a liberty is left
pub points_left : {bytes cells : List ℕ} {lent chains rooms : ℕ} {size : Size} {position : Position} → ReadFrom bytes lent chains rooms size cells position → (rest : Option (ℕ × ℕ)) →
    points_lines bytes rest ≡ breath_line position rest
points_left {bytes} {cells} {size = size} {position} r rest =
    rw (eq-eqb (length bytes - 2) (size_points bytes) (sym (length-drop 2 bytes) ∙ (ap length (sym r.cells_are) ∙ (r.made.all ∙ read_count r))))
    (subst (λ (cs : List ℕ). cells_lines (width_of bytes) (height_of bytes) cs rest ≡ breath_line position rest) r.cells_are
    (subst (λ (n : ℕ). cells_lines (width_of bytes) n cells rest ≡ breath_line position rest) r.memory.height
    (subst (λ (n : ℕ). cells_lines n size.height cells rest ≡ breath_line position rest) r.memory.width (breath_left r.made rest))))

-- no line on memory applies, where it is lent for moves too
pub no_memory_line : {bytes cells : List ℕ} {lent chains rooms : ℕ} {size : Size} {position : Position} → ReadFrom bytes lent chains rooms size cells position → (moves : ℕ) → count_of size ≤ moves →
    (rest : Option (ℕ × ℕ)) → all_lent_lines bytes lent chains rooms moves rest ≡ rest
no_memory_line {bytes} r moves v rest =
    let n = read_count r in
    r.memory.no_line (unless (leb (size_points bytes) moves) (12, 3) rest) ∙ rw (le-leb (size_points bytes) moves (omega arith)) refl

-- where the position is judged, only that line is left too
pub judge_left : (chains rooms : List ℕ) {bytes cells : List ℕ} {lent : ℕ} {size : Size} {position : Position} → ReadFrom bytes lent (length chains) (length rooms) size cells position →
    judge_refusal position.size position.cells chains rooms ≡ breath_line position None
judge_left chains rooms {size = size} {position} r =
    let n : count_of position.size ≡ count_of size = ap count_of r.made.sized in
    let c = r.memory.chains_long in
    let d = r.memory.rooms_long in
    rw (le-leb (count_of position.size) (length chains) (omega arith), le-leb (count_of position.size) (length rooms) (omega arith)) refl

-- and where rows of moves are shown on it
pub call_left : {bytes cells : List ℕ} {lent chains rooms : ℕ} {size : Size} {position : Position} → ReadFrom bytes lent chains rooms size cells position → (moves : ℕ) → count_of size ≤ moves →
    (rest : Option (ℕ × ℕ)) → memory_refusal position.size position.cells chains rooms moves rest ≡ breath_line position rest
call_left {chains = chains} {rooms} {size} {position} r moves v rest =
    let n : count_of position.size ≡ count_of size = ap count_of r.made.sized in
    let c = r.memory.chains_long in
    let d = r.memory.rooms_long in
    rw (le-leb (count_of position.size) chains (omega arith), le-leb (count_of position.size) rooms (omega arith), le-leb (count_of position.size) moves (omega arith)) refl

-- what is placed in lent memory
pub placed : {bytes cells : List ℕ} {lent chains rooms : ℕ} {size : Size} {position : Position} → ReadFrom bytes lent chains rooms size cells position → (before after : List ℕ) →
    after ≡ cells ++ drop (length cells) before → after ≡ cells_of bytes ++ drop (size_points bytes) before
placed r before after e = e ∙ ap₂ (λ (cs : List ℕ) (n : ℕ). cs ++ drop n before) r.cells_are (r.made.all ∙ read_count r)

-- another count of points is refused
pub uncut : (size : Size) (bytes : List ℕ) (count : ℕ) → size.width ≡ width_of bytes → size.height ≡ height_of bytes → count ≡ count_of size → eqb (length bytes - 2) count ≡ false →
    (rest : Option (ℕ × ℕ)) → points_lines bytes rest ≡ Some (2, length bytes - 2)
uncut size bytes count w h n e rest = rw (subst (λ (k : ℕ). eqb (length bytes - 2) k ≡ false) (n ∙ ap₂ points w h) e) refl
