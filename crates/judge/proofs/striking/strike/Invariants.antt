use Rattle.chains.specs.Computed.{count}
use Rattle.rooms.specs.Bits.{member}
use Rattle.judge.specs.Round.{Round, Rounds}
use Rattle.rooms.specs.Tables.{set_of}
use Rattle.judge.proofs.striking.strike.Given as goal

-- the chains before this one are looked at
abbrev pub invariant-loop-chain : goal.invariant-loop-chain
invariant-loop-chain l = Round (set_of l.regions.vital) (set_of l.regions.walls) l.chains.words l.rooms.words l.chain l.struck.words l.rest.words

-- rounds led from the sets at the start to those that are left
abbrev pub invariant-rounds : goal.invariant-rounds
invariant-rounds l = Rounds l.count (set_of l.regions.vital) (set_of l.regions.walls) l.initial.chains.words l.initial.rooms.words l.chains.words l.rooms.words

-- how many chains are kept
abbrev pub decreases-rounds : goal.decreases-rounds
decreases-rounds l = count (member l.chains.words) 384
