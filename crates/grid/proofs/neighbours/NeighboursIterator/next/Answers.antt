use Rattle.std.proofs.Common.{length, ap, sym, ◌∙◌, arith}
use Rattle.grid.proofs.Handed.{given, passed, used_up}
use Rattle.grid.proofs.neighbours.NeighboursIterator.next.Goals as goal

pub returns-in-Some-clause-steps : goal.returns-in-Some-clause-steps
returns-in-Some-clause-steps c = sym c.loop-k.invariant.2 ∙ given c.loop-k.self c.loop-k.k c.in-Some.q c.loop-k.invariant.1 (omega arith) c.in-Some.is

pub returns-in-Some-clause-goes : goal.returns-in-Some-clause-goes
returns-in-Some-clause-goes c =
    let e = ap length (returns-in-Some-clause-steps c) in
    record { on = λ _. (tt, tt, omega arith); keeps = tt; rests = λ _. tt }

pub loop-k-preserved : goal.loop-k-preserved
loop-k-preserved c =
    (c.loop-k.invariant.0, omega arith, passed c.loop-k.self c.loop-k.k c.loop-k.invariant.1 (omega arith) c.in_default.is ∙ c.loop-k.invariant.2)

pub returns-clause-steps : goal.returns-clause-steps
returns-clause-steps c =
    let e = used_up c.loop-k.self c.loop-k.k c.loop-k.invariant.1 (omega arith) in
    (sym c.loop-k.invariant.2 ∙ e, e)
