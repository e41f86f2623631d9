use Rattle.std.proofs.Common.{◌≡◌, ℕ, ◌-◌, ◌%◌, ◌≤◌, true, eqb, List, ◌++◌, length, get_or, take, drop, None, sym, ap, ◌∙◌, subst, arith, length-drop}
use Rattle.std.proofs.lemmas.Bool.Decides.{nat_tests}
use Rattle.std.proofs.lemmas.List.{drop_at}
use Rattle.grid.specs.Grid.{points}
use Rattle.chains.specs.Board.{Board}
use Rattle.chains.specs.Sized.{count_of, near_of, seen}
use Rattle.chains.specs.declared.colour.Colour.TheVariants.{Black}
use Rattle.referee.specs.Moves.{moves_of}
use Rattle.referee.specs.Record.{record_refusal}
use Rattle.referee.specs.Rules.{Refereed}
use Rattle.notation.proofs.Records.{placed_view, placed_fine}
use Rattle.notation.proofs.record.referee_record.Goals as goal

pub unreachable-requires : goal.unreachable-requires
unreachable-requires c =
    let size = c.in_ok-size.size in
    let cells = c.in-Some-split_at_checked.cells.now in
    let made = c.in_ok-standing.ensures in
    let whole = c.in-Some-whole_moves.ensures in
    let fine = placed_fine size.width size.height cells (drop (length cells) c.args.lent.now) c.in-Some-split_at_checked.moves.now made.all (made.no_line None) whole.1 in
    let refused = c.in_default-referee.ensures.0 in
    let same = ap (λ (b : List ℕ). record_refusal size.width size.height b c.in-Some-whole_moves.moves.now) c.place.ensures in
    let moved = ap (record_refusal size.width size.height (cells ++ drop (length cells) c.args.lent.now)) whole.0 in
    cc

pub returns : goal.returns
returns c =
    let size = c.in_ok-size.size in
    let bytes = c.args.bytes.now in
    let cells = c.in-Some-split_at_checked.cells.now in
    let moves = c.in-Some-whole_moves.moves.now in
    let rest = drop (length cells) c.args.lent.now in
    let made = c.in_ok-standing.ensures in
    let done = c.in-Ok.ensures in
    let sized = c.in_ok-size.ensures in
    let width : get_or bytes 0 0 ≡ size.width = sym sized.1 in
    let height : get_or bytes 1 0 ≡ size.height = sym sized.2 in
    let parts = c.in-Some-split_at_checked.ensures.cases in
    let whole = c.in-Some-whole_moves.ensures in
    let after = c.after_size-rest.ensures in
    let n = c.in-Some.ensures.0 in
    let cells_are : take (count_of size) (drop 2 bytes) ≡ cells = cc in
    let moves_are : drop (count_of size) (drop 2 bytes) ≡ moves = cc in
    let even : eqb (length moves % 2) 0 ≡ true = rw (whole.0) whole.1 in
    let long : points size.width size.height ≤ length bytes - 2 = omega (arith, parts.0, n, ap length after, length-drop 2 bytes) in
    let start : seen size c.place.new.lent Black ≡ seen size cells Black = ap (λ (b : List ℕ). seen size b Black) c.place.ensures ∙ placed_view (count_of size) cells rest made.all in
    record {
      good = rw (width, height, cells_are, moves_are) (grind (arith, nat_tests, rw (width, height) at sized.0, made.no_line None, even, long, c.in-Some.ensures.1));
      width = sized.1;
      height = sized.2;
      rules = rw (width, height, cells_are, moves_are) (subst (λ (b : Board). Refereed (count_of size) (near_of size) b (moves_of moves) c.in-Ok.answer (seen size c.referee.new.board Black)) start done.rules);
      written = rw (width, height) done.written;
      past = rw (width, height) (done.past ∙ (ap (drop (count_of size)) c.place.ensures ∙ (drop_at cells rest (count_of size) made.all ∙ ap (λ (k : ℕ). drop k c.args.lent.now) made.all)));
    }
