-- Either all stones of mine together are safe, or some chain has at most one room that is vital to it.
use Rattle.std.proofs.Common.{◌≡◌, ℕ, ◌<◌, ◌⊎◌, inl, inr}
use Rattle.grid.specs.Graph.{Near, Graph}
use Rattle.chains.specs.Board.{mine, Board}
use Rattle.chains.specs.Linked.{here}
use Rattle.chains.specs.Stands.{Stand}
use Rattle.chains.specs.Computed.{is_state}
use Rattle.chains.proofs.States.{none_mine, is_state_true, state_is}
use Rattle.chains.proofs.Below.{find}
use Rattle.chains.proofs.Reach.{linked_or_not}
use Rattle.chains.proofs.Chain.{joined_first}
use Rattle.rooms.specs.Regions.{not_mine, OneRoom, Liberty, AllBeside, TwoRooms, FewRooms}
use Rattle.rooms.specs.Safe.{Marks, Safe}
use Rattle.rooms.specs.Striking.{VitalTo, TwoOpen}
use Rattle.rooms.proofs.Regions.{beside_below, liberty_or_not, all_beside_or_spare}
use Rattle.rooms.proofs.Rounds.{empty_clear, room_clear, mine_or_not, rest_safe}

-- a liberty of the chain of c whose room is vital to that chain
record VitalLiberty (near : Near) (b : Board) (c y : ℕ) : Type 0 where
  liberty : Liberty near b c y
  all : AllBeside near b c y

vital_or_not : {n : ℕ} {near : Near} → Graph n near → (b : Board) (c y : ℕ) → VitalLiberty near b c y ⊎ (VitalLiberty near b c y → ⊥)
vital_or_not g b c y =
    elim (liberty_or_not g b c y) [
      | inl l ↦
          elim (all_beside_or_spare g b c y) [
            | inl a ↦ inl (record { liberty = l; all = a })
            | inr s ↦ inr (λ v. s.away (v.all s.point s.inside s.is))
          ]
      | inr l ↦ inr (λ v. l v.liberty)
    ]

-- a chain has two rooms that are vital to it, or at most one
pub two_or_few : {n : ℕ} {near : Near} → Graph n near → (b : Board) (c : ℕ) → TwoRooms near b c ⊎ FewRooms near b c
two_or_few {n} {near} g b c =
    elim (find {P = λ y. (z : ℕ) → z < n → Together y z} {Q = λ y. TwoRooms near b c} n first) [
      | inl all ↦
          inr (λ y z l m v w. all y (beside_below g l.beside) z (beside_below g m.beside) (record { liberty = l; all = v }) (record { liberty = m; all = w }))
      | inr f ↦ inl f.2
    ]
  where
    Together : ℕ → ℕ → Type 0
    Together y z = VitalLiberty near b c y → VitalLiberty near b c z → OneRoom near b y z

    both : (y z : ℕ) → Together y z ⊎ TwoRooms near b c
    both y z =
        elim (vital_or_not g b c y) [
          | inr v ↦ inl (λ i j. absurd (v i))
          | inl v ↦
              elim (vital_or_not g b c z) [
                | inr w ↦ inl (λ i j. absurd (w j))
                | inl w ↦
                    elim (linked_or_not g (not_mine b) y z) [
                      | inl l ↦ inl (λ i j. l)
                      | inr l ↦
                          inr (record {
                            one = y;
                            two = z;
                            one_liberty = v.liberty;
                            two_liberty = w.liberty;
                            one_vital = v.all;
                            two_vital = w.all;
                            apart = l;
                          })
                    ]
              ]
        ]

    first : (y : ℕ) → ((z : ℕ) → z < n → Together y z) ⊎ TwoRooms near b c
    first y =
        elim (find {P = Together y} {Q = λ z. TwoRooms near b c} n (both y)) [
          | inl all ↦ inl all
          | inr f ↦ inr f.2
        ]

-- the stones of mine, as marks
abbrev pub all_mine : Board → Marks
all_mine b p = is_state mine (b p)

-- when every chain of mine has two rooms that are vital to it, nothing can be struck, and all stones of mine together are safe
pub all_safe : {n : ℕ} {near : Near} → Graph n near → (b : Board) → ((p : ℕ) → b p ≡ mine → TwoRooms near b p) → Safe near b (all_mine b)
all_safe {n} {near} g b two_rooms =
    rest_safe g
    (record { stones = λ p h. is_state_true mine (b p) h; whole = λ p q h next m. state_is mine (b q) m })
    (record { two_rooms = λ p h. two p (two_rooms p (is_state_true mine (b p) h)); walls = λ y below clear c w. state_is mine (b c) (joined_first w.beside.chain) })
  where
    vital : (p y : ℕ) → Liberty near b p y → AllBeside near b p y → VitalTo near b p y
    vital p y l all = record { point = y; inside = here (empty_clear b y l.is); is = l.is; all = all }

    two : (p : ℕ) → TwoRooms near b p → TwoOpen n near b (not_mine b) p
    two p t =
        record {
          one = t.one;
          two = t.two;
          one_below = beside_below g t.one_liberty.beside;
          two_below = beside_below g t.two_liberty.beside;
          one_open = empty_clear b t.one t.one_liberty.is;
          two_open = empty_clear b t.two t.two_liberty.is;
          one_vital = vital p t.one t.one_liberty t.one_vital;
          two_vital = vital p t.two t.two_liberty t.two_vital;
          apart = t.apart;
        }

-- all stones of mine together are safe, or some chain has at most one room that is vital to it
pub all_safe_or_few : {n : ℕ} {near : Near} → Graph n near → (b : Board) → Stand n near b →
    Safe near b (all_mine b) ⊎ ((c : ℕ) × (c < n) × (b c ≡ mine) × FewRooms near b c)
all_safe_or_few {n} {near} g b stand =
    elim (find {P = λ p. b p ≡ mine → TwoRooms near b p} {Q = λ p. (b p ≡ mine) × FewRooms near b p} n at_stone) [
      | inl all ↦ inl (all_safe g b (λ p m. all p (stand.inside p (λ z. none_mine z m)) m))
      | inr f ↦ inr (f.0, f.1, f.2.0, f.2.1)
    ]
  where
    at_stone : (p : ℕ) → (b p ≡ mine → TwoRooms near b p) ⊎ ((b p ≡ mine) × FewRooms near b p)
    at_stone p =
        elim (mine_or_not b p) [
          | inr h ↦ inl (λ m. absurd (room_clear b p h m))
          | inl m ↦ elim (two_or_few g b p) [ inl t ↦ inl (λ i. t) | inr f ↦ inr (m, f) ]
        ]
