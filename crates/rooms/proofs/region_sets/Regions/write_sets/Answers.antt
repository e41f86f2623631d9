use Rattle.std.proofs.Common.{◌≡◌, ℕ, ◌<◌, true, get_or, sym, refl, subst, arith}
use Rattle.grid.specs.Neighbours.{neighbours_of}
use Rattle.grid.specs.declared.size.Size.{Size}
use Rattle.grid.proofs.Square.{graph}
use Rattle.grid.proofs.Handed.{beside_it, all_listed}
use Rattle.chains.specs.Board.{mine}
use Rattle.chains.specs.Sized.{count_of, near_of, seen}
use Rattle.chains.proofs.States.{none_mine}
use Rattle.chains.proofs.Views.{view_byte}
use Rattle.rooms.specs.Tables.{Paired, touches, vital_bit, wall_bit, set_of, own_first}
use Rattle.rooms.proofs.Labels.{Setting, paired, vital_rooms, wall_rooms, touch_none, first_none, chain_first}
use Rattle.rooms.proofs.Passes.{Rewritten, rewritten_own, rewritten_rest}
use Rattle.rooms.proofs.region_sets.Regions.write_sets.Goals as goal

pub invariant_of-parted : goal.invariant_of-parted
invariant_of-parted c = record {
  paired = subst (λ (s : Size). Paired (count_of s) c.write_chains.new.chains c.write_rooms.new.rooms) (sym c.size.ensures)
      (paired (graph c.args.position.now.size.width c.args.position.now.size.height) c.args.position.now.size.few.1 (c.write_chains.ensures.chained c.args.colour) c.write_rooms.ensures.roomed (omega arith) (omega arith));
}

pub returns : goal.returns
returns c =
    let size : Size = c.args.position.now.size in
    let cells = c.args.position.now.cells in
    let chains = c.write_chains.new.chains in
    let rooms = c.write_rooms.new.rooms in
    let setting : Setting (count_of size) (near_of size) (seen size cells c.args.colour) (neighbours_of size.width size.height) chains rooms = record {
      graph = graph size.width size.height;
      sound = λ p q listed. (beside_it size.width size.height p q listed).0;
      complete = all_listed size.width size.height;
      small = size.few.1;
      chain_labels = c.write_chains.ensures.chained c.args.colour;
      room_labels = c.write_rooms.ensures.roomed;
    } in
    let vital : Rewritten (touches size chains rooms) chains rooms (count_of size) (vital_bit (touches size chains rooms) chains rooms (count_of size)) c.args.self.now.vital c.write_vital.new.sets =
    subst (λ (s : Size). Rewritten (touches s chains rooms) chains rooms (count_of s) (vital_bit (touches s chains rooms) chains rooms (count_of s)) c.args.self.now.vital c.write_vital.new.sets) c.size.ensures
    (record { cleared = c.clear_chains.new.vital; clear = c.clear_chains.ensures.vital; bits = c.write_vital.ensures.bits; rest = c.write_vital.ensures.rest }) in
    let walls : Rewritten (touches size chains rooms) chains rooms (count_of size) (wall_bit (touches size chains rooms) rooms (count_of size)) c.args.self.now.walls c.write_walls.new.sets =
    subst (λ (s : Size). Rewritten (touches s chains rooms) chains rooms (count_of s) (wall_bit (touches s chains rooms) rooms (count_of s)) c.args.self.now.walls c.write_walls.new.sets) c.size.ensures
    (record { cleared = c.clear_chains.new.walls; clear = c.clear_chains.ensures.walls; bits = c.write_walls.ensures.bits; rest = c.write_walls.ensures.rest }) in
    let first : (p : ℕ) → seen size cells c.args.colour p ≡ mine → (get_or chains p 0 < count_of size) × (own_first chains rooms (get_or chains p 0) ≡ true) =
    λ p own. chain_first setting p (view_byte (count_of size) cells c.args.colour mine p (λ z. none_mine z refl) own).0 own in
    record {
      regioned = record {
        chained = c.write_chains.ensures.chained;
        roomed = c.write_rooms.ensures.roomed;
        chains_past = c.write_chains.ensures.past;
        rooms_past = c.write_rooms.ensures.past;
        vital = λ p own. vital_rooms setting p (set_of c.write_vital.new.sets (get_or chains p 0)) own (rewritten_own vital (get_or chains p 0) (first p own).0 (first p own).1);
        walls = λ p own. wall_rooms setting p (set_of c.write_walls.new.sets (get_or chains p 0)) own (rewritten_own walls (get_or chains p 0) (first p own).0 (first p own).1);
      };
      vital_rest = λ d i none. rewritten_rest vital d (first_none setting d none) (touch_none setting d none) i;
      walls_rest = λ d i none. rewritten_rest walls d (first_none setting d none) (touch_none setting d none) i;
    }
