use Rattle.std.proofs.Common.{◌≡◌, refl, sym, subst, ◌∙◌, rules}
use Rattle.grid.specs.declared.size.Size.{Size}
use Rattle.grid.proofs.Square.{graph}
use Rattle.chains.specs.Board.{mine}
use Rattle.chains.specs.Sized.{near_of}
use Rattle.capture.specs.Row.{board_of, Unheld}
use Rattle.capture.proofs.Rows.{row_start, row_written, wanted_start, captured_on, captured_fewer, captured_wanted}
use Rattle.capture.proofs.capturing.write_row.Goals as goal

pub loop-regions-init : goal.loop-regions-init
loop-regions-init c =
    let (position_is, colour_is, none_played) = c.new-row.ensures in
    (row_start c.new-row.result position_is colour_is none_played c.requires.stands, rw position_is refl, wanted_start c.new-row.result c.args.point position_is colour_is c.requires.stone c.requires.unheld)

pub capture_chain-requires-clause-unheld : goal.capture_chain-requires-clause-unheld
capture_chain-requires-clause-unheld c =
    let row = c.loop-regions.row in
    let (so_far, sized, wanted) = c.loop-regions.invariant in
    let stone : board_of row c.args.point ≡ mine = search rules in
    record { point = c.args.point; stone = stone; unheld = subst (λ (u : Size). Unheld (near_of u) (board_of row) c.args.point) (sym sized) wanted.unheld }

pub loop-regions-smaller : goal.loop-regions-smaller
loop-regions-smaller c =
    let (so_far, sized, wanted) = c.loop-regions.invariant in
    captured_fewer (captured_on c.loop-regions.row c.capture_chain.new.self sized c.capture_chain.ensures.captured)

pub loop-regions-preserved : goal.loop-regions-preserved
loop-regions-preserved c =
    let (so_far, sized, wanted) = c.loop-regions.invariant in
    let later = c.capture_chain.ensures.row in
    let stone : board_of c.loop-regions.row c.args.point ≡ mine = search rules in (
      later.so_far _ so_far,
      later.sized ∙ sized,
      captured_wanted (graph c.args.position.size.width c.args.position.size.height) (captured_on c.loop-regions.row c.capture_chain.new.self sized c.capture_chain.ensures.captured) stone wanted.unheld,
    )

pub returns : goal.returns
returns c =
    let (so_far, sized, wanted) = c.loop-regions.invariant in
    row_written sized so_far wanted (λ m. search rules) c.copy_from_slice.new.self c.args.moves.now c.requires.long c.copy_from_slice.ensures.len c.copy_from_slice.ensures.after
