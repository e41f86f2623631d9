-- The liberty that is played next: from labels of the board at the start of the phase to liberties of the present board.
use Rattle.std.proofs.Common.{◌≡◌, ℕ, ◌<◌, ◌≤◌, true, false, ◌≢◌, ◌⊎◌, List, get_or, sym, refl, ◌∙◌, inl, inr, arith}
use Rattle.std.proofs.lemmas.Bool.{both_ways}
use Rattle.grid.specs.Graph.{Near, Graph}
use Rattle.chains.specs.Board.{none, mine, yours, Board, Joined, Breathes}
use Rattle.chains.specs.Linked.{here}
use Rattle.chains.specs.Views.{view}
use Rattle.chains.specs.declared.colour.Colour.{Colour}
use Rattle.chains.proofs.States.{none_mine}
use Rattle.chains.proofs.Reach.{linked_sym, linked_trans}
use Rattle.chains.proofs.Views.{view_none, none_view}
use Rattle.play.specs.After.{after}
use Rattle.rooms.specs.Bits.{member}
use Rattle.rooms.specs.Regions.{Liberty, AllBeside, Spare}
use Rattle.rooms.proofs.Regions.{beside_below, all_beside_or_spare}
use Rattle.rooms.proofs.Rounds.{empty_clear}
use Rattle.judge.specs.Frame.{Frame}
use Rattle.judge.proofs.Frame.{chain_back, chain_stands, liberty_back}
use Rattle.judge.proofs.Taking.{step_allowed, breath_liberty}
use Rattle.capture.specs.Target.{Aimed, OpenTouch, NextLiberty}

-- a stone of mine is a stone
pub mine_stone : mine ≢ none
mine_stone e = none_mine e refl

-- while a stone of the chain stands, an empty point beside its label is a liberty
pub touch_liberty : {n : ℕ} {near : Near} → Graph n near → {b : Board} {chain : ℕ} {chains rooms vital : List ℕ} → Aimed n near b chain chains rooms vital → n ≤ 361 →
    (cells : List ℕ) (colour : Colour) → Frame near b chain (view n cells colour) → view n cells colour chain ≡ mine →
    (p : ℕ) → OpenTouch near cells chains chain p → Liberty near (view n cells colour) chain p
touch_liberty {n} {near} g {b} {chain} {chains} a small cells colour f stands p o =
    record { beside = record { stone = s; chain = chain_stands f stands joined; next = g.symmetric p s o.touch.next }; is = none_view n cells colour p o.empty }
  where
    s : ℕ
    s = o.touch.stone

    there : b s ≢ none
    there z =
        let e = a.chain_labels.empty s (g.inside s p (g.symmetric p s o.touch.next)) z in
        let l = o.touch.label in
        let k = a.below in
        omega arith

    joined : Joined near b mine chain s
    joined = a.chain_labels.one_chain mine chain s mine_stone a.stone there (a.named ∙ sym o.touch.label)

-- and a liberty is an empty point beside its label
pub liberty_touch : {n : ℕ} {near : Near} → Graph n near → {b : Board} {chain : ℕ} {chains rooms vital : List ℕ} → Aimed n near b chain chains rooms vital →
    (cells : List ℕ) (colour : Colour) → Frame near b chain (view n cells colour) →
    (p : ℕ) → Liberty near (view n cells colour) chain p → OpenTouch near cells chains chain p
liberty_touch {n} {near} g {b} {chain} {chains} a cells colour f p l =
    record {
      empty = view_none n cells colour p (beside_below g l.beside) l.is;
      touch = record {
        stone = l.beside.stone;
        next = g.symmetric l.beside.stone p l.beside.next;
        label = sym (a.chain_labels.one_entry mine chain l.beside.stone mine_stone (chain_back f l.beside.chain)) ∙ a.named;
      };
    }

-- a liberty at the start whose room was not vital to the chain has a point to spare
pub room_spare : {n : ℕ} {near : Near} → Graph n near → {b : Board} {chain : ℕ} {chains rooms vital : List ℕ} → Aimed n near b chain chains rooms vital →
    (p : ℕ) → p < n → b p ≡ none → member vital (get_or rooms p 0) ≡ false → Spare near b chain p
room_spare {near = near} g {b} {chain} {rooms = rooms} {vital = vital} a p below empty out =
    elim (all_beside_or_spare g b chain p) [
      | inl all ↦ absurd (both_ways (member vital (get_or rooms p 0)) out (a.vital_rooms.complete p below (record { point = p; inside = here (empty_clear b p empty); is = empty; all = all })))
      | inr spare ↦ spare
    ]

-- a liberty at the start whose room was vital to the chain has none
pub room_vital : {n : ℕ} {near : Near} → Graph n near → {b : Board} {chain : ℕ} {chains rooms vital : List ℕ} → Aimed n near b chain chains rooms vital →
    (p : ℕ) → p < n → b p ≡ none → member vital (get_or rooms p 0) ≡ true → AllBeside near b chain p
room_vital g {b} {rooms = rooms} a p below empty is_in e way z =
    (a.vital_rooms.sound (get_or rooms p 0) is_in).all e (linked_trans (linked_sym g (a.room_labels.linked p below (empty_clear b p empty))) way) z

-- the liberty that is played next is one, and the stone there breathes
pub next_breathes : {n : ℕ} {near : Near} → Graph n near → {b : Board} {chain : ℕ} {chains rooms vital : List ℕ} → Aimed n near b chain chains rooms vital → n ≤ 361 →
    (cells : List ℕ) (colour : Colour) → Frame near b chain (view n cells colour) → view n cells colour chain ≡ mine →
    {p : ℕ} → NextLiberty n near cells chains rooms vital chain p →
    Liberty near (view n cells colour) chain p × Breathes near (after n near (view n cells colour) p) yours p
next_breathes {n} {near} g {b} {chain} {chains} {rooms} {vital} a small cells colour f stands {p} l = (liberty, step_allowed g a.few f liberty (choice l.choice))
  where
    d : Board
    d = view n cells colour

    liberty : Liberty near d chain p
    liberty = touch_liberty g a small cells colour f stands p l.free

    was_empty : (z : ℕ) → Liberty near d chain z → b z ≡ none
    was_empty z k = (liberty_back f k).is

    choice : (member vital (get_or rooms p 0) ≡ false) ⊎ ((z : ℕ) → z < n → OpenTouch near cells chains chain z → member vital (get_or rooms z 0) ≡ true) →
        Spare near b chain p ⊎ ((z : ℕ) → Liberty near d chain z → AllBeside near b chain z)
    choice (inl out) = inl (room_spare g a p l.below (was_empty p liberty) out)
    choice (inr all) = inr (λ z k.
        let small_z = beside_below g k.beside in
        room_vital g a z small_z (was_empty z k) (all z small_z (liberty_touch g a cells colour f z k)))

-- a chain that breathes has such a point
pub breath_touch : {n : ℕ} {near : Near} → Graph n near → {b : Board} {chain : ℕ} {chains rooms vital : List ℕ} → Aimed n near b chain chains rooms vital →
    (cells : List ℕ) (colour : Colour) → Frame near b chain (view n cells colour) → Breathes near (view n cells colour) mine chain →
    ((z : ℕ) → z < n → OpenTouch near cells chains chain z → ⊥) → ⊥
breath_touch g a cells colour f breath no_liberty =
    let (z, l) = breath_liberty breath in
    no_liberty z (beside_below g l.beside) (liberty_touch g a cells colour f z l)
