use Rattle.std.proofs.Common.{◌≡◌, ℕ}
use Rattle.rooms.specs.Tables.{holds, clear_bit}
use Rattle.rooms.proofs.tables.Parted.clear_chains.Given as goal

-- the sets of the own chains whose first points are before p are cleared
abbrev pub invariant-loop-p : goal.invariant-loop-p
invariant-loop-p l =
    ((c i : ℕ) → holds l.vital c i ≡ clear_bit l.self.chains.now l.self.rooms.now l.p c (holds l.initial.vital c i))
    × ((c i : ℕ) → holds l.walls c i ≡ clear_bit l.self.chains.now l.self.rooms.now l.p c (holds l.initial.walls c i))
