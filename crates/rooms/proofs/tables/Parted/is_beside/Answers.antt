use Rattle.std.proofs.Common.{◌≡◌, ℕ, ◌<◌, Some, refl, rules}
use Rattle.std.proofs.lemmas.Fn.{serves_by}
use Rattle.std.proofs.lemmas.Iterator.Search.{any_from_yields_List}
use Rattle.std.proofs.lemmas.Iterator.Consumers.{YieldsList-from_first}
use Rattle.chains.specs.Sized.{count_of}
use Rattle.grid.proofs.Handed.{neighbours_turn}
use Rattle.grid.specs.Ahead.{ahead}
use Rattle.grid.specs.Neighbours.{neighbours_of}
use Rattle.rooms.specs.Tables.{is_chain, own_chain}
use Rattle.rooms.proofs.tables.Parted.is_beside.Goals as goal

pub any-requires-clause-callable : goal.any-requires-clause-callable
any-requires-clause-callable c =
    let size = c.args.self.now.size in
    serves_by _ (λ xs q. q.0 ≡ c.args.self) (λ xs q x v j r. search rules) _ _ _ _ refl
    (λ xs t q x u y step j.
    let below : x < count_of size = (neighbours_turn size.width size.height c.args.p _ c.neighbours.ensures xs t y (Some x) u x refl step).1 in
    let here : x < count_of q.0.now.size = rw j below in
    search rules)

pub returns : goal.returns
returns c =
    let size = c.args.self.now.size in
    any_from_yields_List (λ (q : ℕ). is_chain c.args.chain (own_chain c.args.self.now.chains.now c.args.self.now.rooms.now q)) c.any.new.self _ c.any.result c.any.ensures.ran
    (YieldsList-from_first (λ (x : ℕ). x) ahead (neighbours_of size.width size.height c.args.p) c.neighbours.ensures) (λ x b q h. search rules)
