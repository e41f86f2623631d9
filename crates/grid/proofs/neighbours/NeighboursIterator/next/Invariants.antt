use Rattle.std.proofs.Common.{◌≡◌}
use Rattle.grid.specs.Ahead.{ahead}
use Rattle.grid.proofs.neighbours.NeighboursIterator.next.Given as goal

abbrev pub invariant-loop-k : goal.invariant-loop-k
invariant-loop-k l = (l.self.numbered ≡ l.fn.self.numbered) × (l.k ≡ l.self.next) × (ahead l.self ≡ ahead l.fn.self)
