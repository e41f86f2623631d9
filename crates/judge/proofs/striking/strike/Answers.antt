use Rattle.std.proofs.Common.{◌≡◌, ◌<◌, arith}
use Rattle.judge.specs.Round.{start, more}
use Rattle.judge.proofs.Round.{round_strike, round_skip, round_whole, round_falls, round_enough}
use Rattle.judge.proofs.striking.strike.Goals as goal
use Rattle.judge.proofs.striking.strike.Goals.{then-lacks_rooms, else-lacks_rooms}

pub rounds-init : goal.rounds-init
rounds-init c = start

pub loop-chain-preserved : goal.loop-chain-preserved
loop-chain-preserved c =
    let inside : c.loop-chain.chain < 384 = omega arith in
    elim c.if-lacks_rooms.branch [
      | then-lacks_rooms w ↦
          round_strike w.insert.new.self w.strike_rooms.new.rooms c.loop-chain.invariant w.if-lacks_rooms.ensures w.struck-is w.rest-is
          (w.insert.ensures.inserted inside) w.strike_rooms.ensures
      | else-lacks_rooms w ↦ round_skip c.loop-chain.invariant w.if-lacks_rooms.ensures w.struck-is w.rest-is
    ]

pub rounds-smaller : goal.rounds-smaller
rounds-smaller c =
    let all : c.loop-chain.chain ≡ c.args.count = omega arith in
    round_falls c.remove_all.new.self.words (round_whole c.loop-chain.invariant all) (omega arith) c.remove_all.ensures c.if-is_empty.ensures

pub rounds-preserved : goal.rounds-preserved
rounds-preserved c =
    let all : c.loop-chain.chain ≡ c.args.count = omega arith in
    more c.loop-chain.struck.words c.remove_all.new.self.words c.loop-chain.rest.words c.rounds.invariant (round_whole c.loop-chain.invariant all) c.remove_all.ensures

pub returns : goal.returns
returns c =
    let all : c.loop-chain.chain ≡ c.args.count = omega arith in
    record {
      rounds = more c.loop-chain.struck.words c.remove_all.new.self.words c.loop-chain.rest.words c.rounds.invariant (round_whole c.loop-chain.invariant all) c.remove_all.ensures;
      enough = round_enough c.remove_all.new.self.words (round_whole c.loop-chain.invariant all) (omega arith) c.remove_all.ensures c.if-is_empty.ensures;
    }
