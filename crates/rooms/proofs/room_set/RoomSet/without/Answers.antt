use Rattle.std.proofs.Common.{ℕ, ◌-◌, get_or, bit_and, rules}
use Rattle.chains.proofs.Filled.{filled_by}
use Rattle.rooms.proofs.Sets.{member_without_all}
use Rattle.rooms.proofs.room_set.RoomSet.without.Goals as goal

pub returns : goal.returns
returns c = member_without_all c.args.self.now.words c.args.struck.now.words c.from_fn.result (search rules) (λ k l. search rules)
    (λ k l. filled_by (λ (k : ℕ). bit_and (get_or c.args.self.now.words k 0) (18446744073709551615 - get_or c.args.struck.now.words k 0)) 0 c.from_fn.ensures.items (λ i y q h. search rules) k (search rules))
