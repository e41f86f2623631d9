use Rattle.std.proofs.Common.{◌∙◌, ap, refl, arith, rules}
use Rattle.grid.specs.Ahead.{ahead}
use Rattle.grid.specs.Neighbours.{neighbours_of}
use Rattle.grid.proofs.Handed.{neighbours_turn}
use Rattle.rooms.proofs.Passes.{neighbours_all, changed_start, changed_past, put_step, put_end}
use Rattle.rooms.proofs.tables.Parted.put_beside.Goals as goal

pub loop-q-init : goal.loop-q-init
loop-q-init c = changed_start (search rules)

pub own_chain-requires : goal.own_chain-requires
own_chain-requires c =
    let size = c.args.self.now.size in
    (neighbours_turn size.width size.height c.args.p _ (ap ahead c.into_iter-q-iterator.ensures.into_iter_gives ∙ c.neighbours-q-items.ensures)
    c.loop-q.yielded c.loop-q.q-iterator c.loop-q.yielded_by c.next.result c.next.new.self c.in-Some.q c.in-Some.is c.next.ensures.steps).1

pub loop-q-preserved-in-Some-own_chain : goal.loop-q-preserved-in-Some-own_chain
loop-q-preserved-in-Some-own_chain c = put_step c.args.room c.in-Some.q c.insert.new.self c.loop-q.invariant c.in-Some-own_chain.ensures.value (omega (arith, c.in-Some-own_chain.ensures.inside, c.args.self.now.size.few.1)) (search rules)

pub loop-q-preserved : goal.loop-q-preserved
loop-q-preserved c = changed_past c.in-Some.q c.loop-q.invariant refl c.in_default.ensures.value

pub returns : goal.returns
returns c =
    let size = c.args.self.now.size in
    put_end c.args.room (neighbours_of size.width size.height c.args.p)
    (neighbours_all size.width size.height c.args.p _ (ap ahead c.into_iter-q-iterator.ensures.into_iter_gives ∙ c.neighbours-q-items.ensures)
    c.loop-q.yielded c.loop-q.q-iterator c.loop-q.yielded_by c.next.result c.next.new.self c.in-None.is c.next.ensures.steps) c.loop-q.invariant
