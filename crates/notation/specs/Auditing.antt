-- Auditing marks from the bytes of a board. Assumes nothing: these are definitions.
use Rattle.std.specs.Prelude.{◌≡◌, ℕ, List, ◌++◌, length, drop, None, Option, ◌==◌, nat_le}
use Rattle.std.specs.List.{prefix_len}
use Rattle.grid.specs.Refusals.{unless}
use Rattle.chains.specs.Board.{Board}
use Rattle.chains.specs.Views.{view}
use Rattle.chains.specs.declared.colour.Colour.{Colour}
use Rattle.capture.specs.Auditing.{is_mark, numbered, marked_by, VerdictExact}
use Rattle.capture.specs.declared.audit.Verdict.{Verdict}
use Rattle.notation.specs.Layout.{width_of, height_of, size_points, cells_of, points_lines}
use Rattle.notation.specs.Showing.{all_lent_lines, LabelsSeen}

-- the lines on marks of a board of n points: a colour that is none, a count of bytes that is not that of the points, and the first byte that is no mark
abbrev pub mark_lines : ℕ → ℕ → List ℕ → Option (ℕ × ℕ)
mark_lines n number marks =
    unless (nat_le number 1) (10, 0)
    (unless (length marks == n) (10, length marks)
    (unless (nat_le (length marks) (prefix_len is_mark marks)) (10, prefix_len is_mark marks)
    None))

-- the first line on the points and the marks by which these are not audited
abbrev pub audit_points_refusal : List ℕ → ℕ → List ℕ → Option (ℕ × ℕ)
audit_points_refusal bytes number marks = points_lines bytes (mark_lines (size_points bytes) number marks)

-- and before it the lines on the size and on memory
abbrev pub audit_bytes_refusal : List ℕ → ℕ → List ℕ → ℕ → ℕ → ℕ → ℕ → Option (ℕ × ℕ)
audit_bytes_refusal bytes number marks lent chains rooms moves = all_lent_lines bytes lent chains rooms moves (audit_points_refusal bytes number marks)

-- the verdict on the marks of the colour with that number is exact, on the board that each side sees so, and the lent slices hold the chains and the rooms
pub record AuditedSo (w h : ℕ) (view : Colour → Board) (number : ℕ) (marks chains rooms moves chains_after rooms_after moves_after : List ℕ) (verdict : Verdict) : Type 0 where
  pub colour : Colour
  pub number_of : numbered colour ≡ number
  pub exact : VerdictExact w h (view colour) (marked_by marks) moves moves_after verdict
  pub labels : LabelsSeen w h view colour chains rooms chains_after rooms_after

-- marks were audited on the board of the bytes
pub record MarksAudited (bytes : List ℕ) (number : ℕ) (marks before chains rooms moves : List ℕ) (verdict : Verdict) (after chains_after rooms_after moves_after : List ℕ) : Type 0 where
  pub good : audit_bytes_refusal bytes number marks (length before) (length chains) (length rooms) (length moves) ≡ None
  pub holds : after ≡ cells_of bytes ++ drop (size_points bytes) before
  pub so : AuditedSo (width_of bytes) (height_of bytes) (view (size_points bytes) (cells_of bytes)) number marks chains rooms moves chains_after rooms_after moves_after verdict
