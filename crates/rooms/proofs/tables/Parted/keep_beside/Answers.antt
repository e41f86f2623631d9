use Rattle.std.proofs.Common.{◌∙◌, ap, refl, arith, rules}
use Rattle.grid.specs.Ahead.{ahead}
use Rattle.grid.specs.Neighbours.{neighbours_of}
use Rattle.grid.proofs.Handed.{neighbours_turn}
use Rattle.rooms.specs.Tables.{touches}
use Rattle.rooms.proofs.Passes.{neighbours_all, changed_start, changed_past, keep_step, keep_stay, keep_end}
use Rattle.rooms.proofs.tables.Parted.keep_beside.Goals as goal

pub loop-q-init : goal.loop-q-init
loop-q-init c = changed_start (search rules)

pub own_chain-requires : goal.own_chain-requires
own_chain-requires c =
    let size = c.args.self.now.size in
    (neighbours_turn size.width size.height c.args.from _ (ap ahead c.into_iter-q-iterator.ensures.into_iter_gives ∙ c.neighbours-q-items.ensures)
    c.loop-q.yielded c.loop-q.q-iterator c.loop-q.yielded_by c.next.result c.next.new.self c.in-Some.q c.in-Some.is c.next.ensures.steps).1

pub loop-q-preserved-then-not-is_beside : goal.loop-q-preserved-then-not-is_beside
loop-q-preserved-then-not-is_beside c = keep_step (touches c.args.self.now.size c.args.self.now.chains.now c.args.self.now.rooms.now c.args.p) c.args.room c.in-Some.q c.remove.new.self c.loop-q.invariant c.in-Some-own_chain.ensures.value (omega (arith, c.in-Some-own_chain.ensures.inside, c.args.self.now.size.few.1)) (search rules) (search rules)

pub loop-q-preserved-else-not-is_beside : goal.loop-q-preserved-else-not-is_beside
loop-q-preserved-else-not-is_beside c = keep_stay (touches c.args.self.now.size c.args.self.now.chains.now c.args.self.now.rooms.now c.args.p) c.args.room c.in-Some.q c.loop-q.invariant c.in-Some-own_chain.ensures.value (search rules)

pub loop-q-preserved : goal.loop-q-preserved
loop-q-preserved c = changed_past c.in-Some.q c.loop-q.invariant refl c.in_default.ensures.value

pub returns : goal.returns
returns c =
    let size = c.args.self.now.size in
    keep_end (touches c.args.self.now.size c.args.self.now.chains.now c.args.self.now.rooms.now c.args.p) c.args.room (neighbours_of size.width size.height c.args.from)
    (neighbours_all size.width size.height c.args.from _ (ap ahead c.into_iter-q-iterator.ensures.into_iter_gives ∙ c.neighbours-q-items.ensures)
    c.loop-q.yielded c.loop-q.q-iterator c.loop-q.yielded_by c.next.result c.next.new.self c.in-None.is c.next.ensures.steps) c.loop-q.invariant
