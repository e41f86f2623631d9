-- The calls on a position that was made of bytes: what they say of the position they say of the bytes.
use Rattle.std.proofs.Common.{◌≡◌, ℕ, ◌≤◌, Bool, true, false, cond, not, eqb, ltb, List, ◌++◌, length, get_or, drop, is_some, Some, None, Option, sym, refl, ap, ◌∙◌, inl, inr, arith}
use Rattle.grid.specs.Refusals.{listed, unless}
use Rattle.grid.specs.declared.refusal.Refusal.{Refusal}
use Rattle.grid.specs.declared.size.Size.{Size}
use Rattle.chains.specs.Board.{pick, none, mine, yours, Board}
use Rattle.chains.specs.Computed.{is_state}
use Rattle.chains.specs.Sized.{count_of, seen}
use Rattle.chains.specs.Views.{standing, view}
use Rattle.chains.specs.declared.colour.Colour.{Colour}
use Rattle.chains.specs.declared.colour.Colour.TheVariants.{Black, White}
use Rattle.chains.specs.declared.position.Position.{Position}
use Rattle.capture.specs.Auditing.{audit_refusal, Audited}
use Rattle.capture.specs.Showing.{show_refusal, Shown, Unshown, LabelsWritten}
use Rattle.capture.specs.declared.audit.Verdict.{Verdict}
use Rattle.notation.specs.Auditing.{mark_lines, audit_points_refusal, audit_bytes_refusal, AuditedSo, MarksAudited}
use Rattle.notation.specs.Layout.{width_of, height_of, size_points, cells_of}
use Rattle.notation.specs.Showing.{LabelsSeen, stone_line, show_points_refusal, show_bytes_refusal, ShownSo, StaysSo, RefusedBy, by_line, by_mark, StoneShown}
use Rattle.notation.proofs.Made.{ReadFrom, breath_line, carry_read, call_left, no_memory_line, points_left, placed, read_count}

-- a point has a stone exactly if it is not empty, as black sees it
pub stone_seen : (n : ℕ) (cells : List ℕ) (p : ℕ) → is_some (standing n cells p) ≡ not (is_state none (view n cells Black p))
stone_seen n cells p = by_tests (ltb p n) (eqb (get_or cells p 0) 88) (eqb (get_or cells p 0) 79)
  where
    by_tests : (l x y : Bool) → is_some (cond l (cond x (Some Black) (cond y (Some White) None)) None) ≡ not (is_state none (pick l (pick x mine (pick y yours none)) none))
    by_tests true true y = refl
    by_tests true false true = refl
    by_tests true false false = refl
    by_tests false x y = refl

black_seen : (l x y : Bool) → cond l (cond x (Some Black) (cond y (Some White) None)) None ≡ Some Black → pick l (pick x mine (pick y yours none)) none ≡ mine
black_seen true true y e = refl
black_seen true false true e = absurd (let z : ◌≡◌ {A = ℕ} 0 1 = cc in omega arith)
black_seen true false false e = absurd (let z : ◌≡◌ {A = ℕ} 0 1 = cc in omega arith)
black_seen false x y e = absurd (let z : ◌≡◌ {A = ℕ} 0 1 = cc in omega arith)

white_seen : (l x y : Bool) → cond l (cond x (Some Black) (cond y (Some White) None)) None ≡ Some White → pick l (pick y mine (pick x yours none)) none ≡ mine
white_seen true true y e = absurd (let z : ◌≡◌ {A = ℕ} 0 1 = cc in omega arith)
white_seen true false true e = refl
white_seen true false false e = absurd (let z : ◌≡◌ {A = ℕ} 0 1 = cc in omega arith)
white_seen false x y e = absurd (let z : ◌≡◌ {A = ℕ} 0 1 = cc in omega arith)

-- a stone of a colour is mine, as that side sees it
pub standing_mine : (n : ℕ) (cells : List ℕ) (p : ℕ) (colour : Colour) → standing n cells p ≡ Some colour → view n cells colour p ≡ mine
standing_mine n cells p Black e = black_seen (ltb p n) (eqb (get_or cells p 0) 88) (eqb (get_or cells p 0) 79) e
standing_mine n cells p White e = white_seen (ltb p n) (eqb (get_or cells p 0) 88) (eqb (get_or cells p 0) 79) e

-- what turns the position away turns the bytes away: no stone is there
show_carried : {bytes cells : List ℕ} {lent chains rooms : ℕ} {size : Size} {position : Position} → ReadFrom bytes lent chains rooms size cells position → (point moves : ℕ) → count_of size ≤ moves →
    show_bytes_refusal bytes point lent chains rooms moves ≡ show_refusal position.size position.cells point chains rooms moves
show_carried {bytes} {position = position} r point moves v =
    let none : Option (ℕ × ℕ) = unless (is_some (standing (count_of position.size) position.cells point)) (11, 0) None in
    let there : none ≡ stone_line (seen position.size position.cells Black) point = ap (λ (b : Bool). unless b (11, 0) None) (stone_seen (count_of position.size) position.cells point) in
    no_memory_line r moves v (show_points_refusal bytes point)
    ∙ (points_left r (stone_line (view (size_points bytes) (cells_of bytes) Black) point)
    ∙ sym (call_left r moves v none ∙ ap (breath_line position) (carry_read (λ (w h : ℕ) (s : Colour → Board). none ≡ stone_line (s Black) point) r there)))

-- the labels that are written on a position are those of the board that each side sees
labels_seen : {size : Size} {cells : List ℕ} {colour : Colour} {old_chains old_rooms chains rooms : List ℕ} → LabelsWritten size cells colour old_chains old_rooms chains rooms →
    LabelsSeen size.width size.height (seen size cells) colour old_chains old_rooms chains rooms
labels_seen l = record { chained = l.chained; roomed = l.roomed; chains_past = l.chains_past; rooms_past = l.rooms_past }

-- a row
pub shown_carried : {bytes before after cells chains rooms : List ℕ} {size : Size} {position : Position} → ReadFrom bytes (length before) (length chains) (length rooms) size cells position →
    (point : ℕ) (moves chains_after rooms_after moves_after : List ℕ) (count : ℕ) → count_of size ≤ length moves → Shown position.size position.cells point chains rooms moves chains_after rooms_after moves_after count →
    after ≡ cells ++ drop (length cells) before → StoneShown bytes point before chains rooms moves count after chains_after rooms_after moves_after
shown_carried {before = before} {after} {chains = chains} {rooms} {position = position} r point moves chains_after rooms_after moves_after count v shown put =
    record {
      good = show_carried r point (length moves) v ∙ shown.no_line;
      holds = placed r before after put;
      so =
          carry_read (λ (w h : ℕ) (s : Colour → Board). ShownSo w h s point chains rooms moves chains_after rooms_after moves_after count) r
          (record {
            colour = shown.colour;
            stone = standing_mine (count_of position.size) position.cells point shown.colour shown.there;
            row = shown.row;
            labels = labels_seen shown.labels;
          });
    }

-- or a stone that stays
pub unshown_carried : {bytes cells : List ℕ} {lent chains rooms : ℕ} {size : Size} {position : Position} → ReadFrom bytes lent chains rooms size cells position → (point moves : ℕ) (e : Refusal) → count_of size ≤ moves →
    Unshown position.size position.cells point chains rooms moves e → RefusedBy (show_bytes_refusal bytes point lent chains rooms moves) (StaysSo (width_of bytes) (height_of bytes) (view (size_points bytes) (cells_of bytes)) point) e
unshown_carried r point moves e v (inl refused) = by_line (show_carried r point moves v ∙ sym refused)
unshown_carried {position = position} r point moves e v (inr marked) =
    by_mark (show_carried r point moves v ∙ marked.no_line) marked.marked.is
    (carry_read (λ (w h : ℕ) (s : Colour → Board). StaysSo w h s point) r
    (record { colour = marked.colour; stone = standing_mine (count_of position.size) position.cells point marked.colour marked.there; stays = marked.marked.stays }))

-- the same refusal where the lines are the same
pub refused_as : {lines others : Option (ℕ × ℕ)} {stays : Type 0} {e why : Refusal} → RefusedBy lines stays e → others ≡ lines → why ≡ e → RefusedBy others stays why
refused_as (by_line at) is same = by_line (is ∙ (at ∙ ap (λ (r : Refusal). Some (listed r)) (sym same)))
refused_as (by_mark at marked stays) is same = by_mark (is ∙ at) (same ∙ marked) stays

-- what turns the position's marks away turns those of the bytes away
pub audit_carried : {bytes cells : List ℕ} {lent chains rooms : ℕ} {size : Size} {position : Position} → ReadFrom bytes lent chains rooms size cells position → (number : ℕ) (marks : List ℕ) (moves : ℕ) → count_of size ≤ moves →
    audit_bytes_refusal bytes number marks lent chains rooms moves ≡ audit_refusal position.size position.cells number marks chains rooms moves
audit_carried {bytes} {position = position} r number marks moves v =
    no_memory_line r moves v (audit_points_refusal bytes number marks)
    ∙ (points_left r (mark_lines (size_points bytes) number marks)
    ∙ (ap (λ (n : ℕ). breath_line position (mark_lines n number marks)) (sym (ap count_of r.made.sized ∙ read_count r))
    ∙ sym (call_left r moves v (mark_lines (count_of position.size) number marks))))

-- a verdict
pub audited_carried : {bytes before after cells chains rooms : List ℕ} {size : Size} {position : Position} → ReadFrom bytes (length before) (length chains) (length rooms) size cells position →
    (number : ℕ) (marks moves chains_after rooms_after moves_after : List ℕ) (verdict : Verdict) → count_of size ≤ length moves → Audited position.size position.cells number marks chains rooms moves chains_after rooms_after moves_after verdict →
    after ≡ cells ++ drop (length cells) before → MarksAudited bytes number marks before chains rooms moves verdict after chains_after rooms_after moves_after
audited_carried {before = before} {after} {chains = chains} {rooms} r number marks moves chains_after rooms_after moves_after verdict v audited put =
    record {
      good = audit_carried r number marks (length moves) v ∙ audited.no_line;
      holds = placed r before after put;
      so =
          carry_read (λ (w h : ℕ) (s : Colour → Board). AuditedSo w h s number marks chains rooms moves chains_after rooms_after moves_after verdict) r
          (record { colour = audited.colour; number_of = audited.number_of; exact = audited.verdict; labels = labels_seen audited.labels });
    }
