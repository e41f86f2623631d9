use Rattle.std.proofs.Common.{◌≡◌, length, arith, rules, refl}
use Rattle.grid.proofs.Square.{graph}
use Rattle.chains.specs.Sized.{count_of}
use Rattle.rooms.specs.Tables.{set_of}
use Rattle.capture.proofs.Aiming.{label_below, aimed, all_held, survey_of, none_below, found_weak, found_below, label_of_weak}
use Rattle.capture.proofs.target.aim.Goals as goal

pub invariant_of-survey : goal.invariant_of-survey
invariant_of-survey c =
    let position = c.args.position.now in
    let survey = survey_of position c.args.colour c.in-Ok.ensures.1 in
    let long : length c.write.new.chains ≡ 361 = search rules in
    record {
      long = omega (arith, long, position.size.few.1);
      inside = λ p own. let below = label_below position.cells c.args.colour {chains = c.write.new.chains} survey.chain_labels p own in omega (arith, below, position.size.few.1);
    }

pub returns-in_err-stone : goal.returns-in_err-stone
returns-in_err-stone c =
    let position = c.args.position.now in
    rw c.from_residual.ensures
    (all_held (graph position.size.width position.size.height) position.cells c.args.colour (survey_of position c.args.colour c.in-Ok.ensures.1) (none_below _ c.args.wanted (count_of position.size) c.in_err-stone.ensures))

pub bounds-chains-stone : goal.bounds-chains-stone
bounds-chains-stone c =
    let position = c.args.position.now in
    omega (arith, found_below position c.args.colour c.write.new.chains (set_of c.write.new.self.vital) c.args.wanted c.in_ok-stone.ensures, position.size.few.1)

pub offset_bounds-chains-stone : goal.offset_bounds-chains-stone
offset_bounds-chains-stone c =
    let position = c.args.position.now in
    let below = found_below position c.args.colour c.write.new.chains (set_of c.write.new.self.vital) c.args.wanted c.in_ok-stone.ensures in
    let few = position.size.few.1 in
    search rules

pub returns : goal.returns
returns c =
    let position = c.args.position.now in
    let survey = survey_of position c.args.colour c.in-Ok.ensures.1 in
    let weak = found_weak position c.args.colour c.write.new.chains (set_of c.write.new.self.vital) c.args.wanted c.in_ok-stone.ensures in
    let below = label_of_weak position c.args.colour (set_of c.write.new.self.vital) c.in_ok-stone.stone survey.chain_labels weak in
    aimed (graph position.size.width position.size.height) position.cells c.args.colour position.size.few.1 survey (c.vital.ensures.value (omega (arith, below, position.size.few.1))) c.in_ok-stone.stone refl weak
