use Rattle.std.proofs.Common.{rules, ◌≡◌, ◌<◌, ◌∙◌, ap, true, refl, length, arith}
use Rattle.grid.specs.Ahead.{ahead}
use Rattle.grid.proofs.Handed.{neighbours_turn, neighbours_end}
use Rattle.chains.specs.Sized.{count_of, near_of}
use Rattle.chains.proofs.Walk.{walking_start, walking_past, walking_step, walking_end, walking_falls}
use Rattle.chains.proofs.labels.+walk.Goals as goal
use Rattle.chains.proofs.labels.+walk.Goals.{else-classes-q-via-then-classes-q+else-labels-q, else-classes-q-via-else-classes-q}

pub bounds-classes-q : goal.bounds-classes-q
bounds-classes-q t c =
    let s = c.args.size in
    let f = neighbours_turn s.width s.height c.args.p _ (ap ahead c.into_iter-q-iterator.ensures.into_iter_gives ∙ c.neighbours-q-items.ensures)
    c.loop-q.yielded c.loop-q.q-iterator c.loop-q.yielded_by c.next.result c.next.new.self c.in-Some.q c.in-Some.is c.next.ensures.steps in
    omega arith

pub offset_bounds-labels-q : goal.offset_bounds-labels-q
offset_bounds-labels-q t c =
    let s = c.args.size in
    let f = neighbours_turn s.width s.height c.args.p _ (ap ahead c.into_iter-q-iterator.ensures.into_iter_gives ∙ c.neighbours-q-items.ensures)
    c.loop-q.yielded c.loop-q.q-iterator c.loop-q.yielded_by c.next.result c.next.new.self c.in-Some.q c.in-Some.is c.next.ensures.steps in
    omega (arith, s.few.1)

pub bounds-labels-q : goal.bounds-labels-q
bounds-labels-q t c =
    let s = c.args.size in
    let f = neighbours_turn s.width s.height c.args.p _ (ap ahead c.into_iter-q-iterator.ensures.into_iter_gives ∙ c.neighbours-q-items.ensures)
    c.loop-q.yielded c.loop-q.q-iterator c.loop-q.yielded_by c.next.result c.next.new.self c.in-Some.q c.in-Some.is c.next.ensures.steps in
    let l : length c.loop-q.labels ≡ length c.args.labels.now = search rules in
    omega arith

pub walk-requires : goal.walk-requires
walk-requires t c =
    let s = c.args.size in
    let f = neighbours_turn s.width s.height c.args.p _ (ap ahead c.into_iter-q-iterator.ensures.into_iter_gives ∙ c.neighbours-q-items.ensures)
    c.loop-q.yielded c.loop-q.q-iterator c.loop-q.yielded_by c.next.result c.next.new.self c.in-Some.q c.in-Some.is c.next.ensures.steps in (
      walking_falls c.args.labels.now t c.decreases c.requires.named c.requires.inside (search rules) c.requires.free c.loop-q.invariant,
      (c.requires.classed, (search rules, (f.1, (c.if-labels-q.true, c.requires.named)))),
    )

pub loop-q-init : goal.loop-q-init
loop-q-init t c = walking_start

pub loop-q-preserved-then-labels-q : goal.loop-q-preserved-then-labels-q
loop-q-preserved-then-labels-q t c =
    let s = c.args.size in
    let f = neighbours_turn s.width s.height c.args.p _ (ap ahead c.into_iter-q-iterator.ensures.into_iter_gives ∙ c.neighbours-q-items.ensures)
    c.loop-q.yielded c.loop-q.q-iterator c.loop-q.yielded_by c.next.result c.next.new.self c.in-Some.q c.in-Some.is c.next.ensures.steps in
    walking_step c.loop-q.invariant refl (f.0, f.1, c.if-classes-q.true) c.requires.named c.requires.inside c.walk.ensures

pub loop-q-preserved : goal.loop-q-preserved
loop-q-preserved t c = walking_past c.in-Some.q c.loop-q.invariant refl
    (elim c.else-classes-q.branch [
      | else-classes-q-via-then-classes-q+else-labels-q w ↦ λ same. w.if-labels-q.false
      | else-classes-q-via-else-classes-q w ↦ λ same. absurd (w.if-classes-q.false same)
    ])

pub returns : goal.returns
returns t c =
    let s = c.args.size in
    walking_end (neighbours_end s.width s.height c.args.p _ (ap ahead c.into_iter-q-iterator.ensures.into_iter_gives ∙ c.neighbours-q-items.ensures)
    c.loop-q.yielded c.loop-q.q-iterator c.loop-q.yielded_by c.next.result c.next.new.self c.in-None.is c.next.ensures.steps)
    c.requires.named c.requires.inside (search rules) c.requires.free c.loop-q.invariant
