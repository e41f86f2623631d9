use Rattle.std.proofs.Common.{rules, ◌≡◌, ◌<◌, ◌∙◌, ap, true, sym, refl, arith}
use Rattle.grid.specs.Ahead.{ahead}
use Rattle.grid.proofs.Handed.{neighbours_turn, neighbours_end}
use Rattle.chains.specs.Sized.{count_of, near_of}
use Rattle.chains.proofs.Marking.{marking_start, marking_past, marking_step, marking_end}
use Rattle.chains.proofs.liberties.Labels.mark_beside.Goals as goal

pub loop-q-init : goal.loop-q-init
loop-q-init c = marking_start

pub bounds-self-q : goal.bounds-self-q
bounds-self-q c =
    let s = c.args.self.now.size in
    let f = neighbours_turn s.width s.height c.args.p _ (ap ahead c.into_iter-q-iterator.ensures.into_iter_gives ∙ c.neighbours-q-items.ensures)
    c.loop-q.yielded c.loop-q.q-iterator c.loop-q.yielded_by c.next.result c.next.new.self c.in-Some.q c.in-Some.is c.next.ensures.steps in
    omega arith

pub bounds-self-q-then-is_stone : goal.bounds-self-q-then-is_stone
bounds-self-q-then-is_stone c =
    let s = c.args.self.now.size in
    let f = neighbours_turn s.width s.height c.args.p _ (ap ahead c.into_iter-q-iterator.ensures.into_iter_gives ∙ c.neighbours-q-items.ensures)
    c.loop-q.yielded c.loop-q.q-iterator c.loop-q.yielded_by c.next.result c.next.new.self c.in-Some.q c.in-Some.is c.next.ensures.steps in
    omega arith

pub bounds-marks-self : goal.bounds-marks-self
bounds-marks-self c =
    let s = c.args.self.now.size in
    let f = neighbours_turn s.width s.height c.args.p _ (ap ahead c.into_iter-q-iterator.ensures.into_iter_gives ∙ c.neighbours-q-items.ensures)
    c.loop-q.yielded c.loop-q.q-iterator c.loop-q.yielded_by c.next.result c.next.new.self c.in-Some.q c.in-Some.is c.next.ensures.steps in
    omega (arith, c.args.self.now.size.few.1, c.args.self.now.inside c.in-Some.q f.1 (sym c.is_stone.ensures ∙ c.if-is_stone.true))

pub loop-q-preserved-then-is_stone : goal.loop-q-preserved-then-is_stone
loop-q-preserved-then-is_stone c =
    let s = c.args.self.now.size in
    let f = neighbours_turn s.width s.height c.args.p _ (ap ahead c.into_iter-q-iterator.ensures.into_iter_gives ∙ c.neighbours-q-items.ensures)
    c.loop-q.yielded c.loop-q.q-iterator c.loop-q.yielded_by c.next.result c.next.new.self c.in-Some.q c.in-Some.is c.next.ensures.steps in
    let stone = sym c.is_stone.ensures ∙ c.if-is_stone.true in
    marking_step c.loop-q.invariant refl f.0 (omega (arith, c.args.self.now.size.few.1, c.args.self.now.inside c.in-Some.q f.1 stone)) stone

pub loop-q-preserved : goal.loop-q-preserved
loop-q-preserved c = marking_past c.in-Some.q c.loop-q.invariant refl (sym c.is_stone.ensures ∙ c.if-is_stone.false)

pub returns : goal.returns
returns c =
    let s = c.args.self.now.size in
    marking_end (neighbours_end s.width s.height c.args.p _ (ap ahead c.into_iter-q-iterator.ensures.into_iter_gives ∙ c.neighbours-q-items.ensures)
    c.loop-q.yielded c.loop-q.q-iterator c.loop-q.yielded_by c.next.result c.next.new.self c.in-None.is c.next.ensures.steps) c.loop-q.invariant
