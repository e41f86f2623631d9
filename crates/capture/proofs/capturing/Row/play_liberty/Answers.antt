use Rattle.std.proofs.Common.{◌≡◌, ℕ, sym, ◌∙◌, arith, rules}
use Rattle.capture.proofs.Phases.{phase_allowed, phase_step, row_played, phase_breath}
use Rattle.capture.proofs.capturing.Row.play_liberty.Goals as goal

pub unreachable-requires : goal.unreachable-requires
unreachable-requires c =
    phase_breath c.args.self.now c.args.target.now c.requires.phase.1 (c.requires.row.1.stands.mine_breathe c.args.target.now.chain c.requires.stone) c.in_default.ensures

pub unreachable-requires-in_default-after_stone : goal.unreachable-requires-in_default-after_stone
unreachable-requires-in_default-after_stone c =
    let allowed = phase_allowed c.args.self.now c.args.target.now c.requires.phase.1 c.requires.stone c.in-Some.point c.in-Some.ensures c.args.self.now.played in
    let refused = rw c.other.ensures at c.in_default-after_stone.ensures.line in
    let both = sym allowed ∙ refused in
    let z : ◌≡◌ {A = ℕ} 0 1 = cc in
    omega arith

pub bounds-self-self : goal.bounds-self-self
bounds-self-self c =
    let played = rw c.other.ensures at c.in-Ok.ensures.0 in
    omega (arith, (row_played c.in-Ok.after.position (search rules) c.requires.row.1 c.in-Ok.ensures.1 c.in-Some.ensures.below played).0, c.args.self.now.position.size.few.1)

pub returns-clause-nearer : goal.returns-clause-nearer
returns-clause-nearer c b phase =
    phase_step c.args.self.now c.args.target.now c.in-Ok.after.position phase c.requires.stone c.in-Some.ensures c.in-Ok.ensures.1 (rw c.other.ensures at c.in-Ok.ensures.0)

pub returns-clause-row : goal.returns-clause-row
returns-clause-row c = record {
  sized = c.in-Ok.ensures.1;
  so_far = λ b s. (row_played c.in-Ok.after.position (search rules) s c.in-Ok.ensures.1 c.in-Some.ensures.below (rw c.other.ensures at c.in-Ok.ensures.0)).1;
}
