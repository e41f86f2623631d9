use Rattle.std.proofs.Common.{is_some, sym, ap, ◌∙◌}
use Rattle.chains.specs.Sized.{count_of}
use Rattle.play.proofs.Refusing.{stone_stands}
use Rattle.capture.proofs.Seeking.{touch_found, touch_none}
use Rattle.capture.proofs.target.Target.is_liberty.Goals as goal

pub returns-clause-yes : goal.returns-clause-yes
returns-clause-yes c e =
    let position = c.args.position.now in
    let free = c.if-is_some.ensures ∙ ap is_some c.at.ensures ∙ stone_stands (count_of position.size) position.cells c.args.p c.requires in
    record { empty = sym free; touch = touch_found position.size c.args.p (rw c.size.ensures at (sym c.touches.ensures ∙ e)) }

pub returns-clause-no : goal.returns-clause-no
returns-clause-no c e t = touch_none c.args.position.now.size c.args.p (rw c.size.ensures at (sym c.touches.ensures ∙ e)) t.touch
