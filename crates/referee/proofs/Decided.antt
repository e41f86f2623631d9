-- Every move of a record is allowed or has a first fault; so every record has an answer.
use Rattle.std.proofs.Common.{◌≡◌, ℕ, zero, suc, ◌<◌, ◌≤◌, ◌⊎◌, List, sym, refl, ap, ◌∙◌, subst, inl, inr, arith}
use Rattle.std.proofs.lemmas.Bool.{cases_lt, cases_eq}
use Rattle.grid.specs.Graph.{Near, Graph}
use Rattle.grid.specs.Refusals.{number_of}
use Rattle.grid.specs.declared.refusal.Refusal.{Refusal}
use Rattle.grid.specs.declared.refusal.Refusal.TheVariants.{BadSide, Count, BadByte, NoLiberty, OffBoard, Occupied, Suicide, Ko, AfterEnd, BadMarks, NotShown, TooShort}
use Rattle.chains.specs.Board.{none, Board}
use Rattle.chains.specs.Stands.{Stand}
use Rattle.chains.specs.Views.{other}
use Rattle.chains.specs.declared.colour.Colour.{Colour}
use Rattle.chains.proofs.States.{Kind, is_none, is_mine, is_yours, kind, none_mine, none_yours}
use Rattle.play.specs.Played.{Played}
use Rattle.play.proofs.Moves.{played_or_not}
use Rattle.referee.specs.declared.moves.Move.{Move}
use Rattle.referee.specs.declared.moves.Move.TheVariants.{Pass, At}
use Rattle.referee.specs.Rules.{seen, Same, mover, move_at, passes_before, PlayedBy, Makes, Restores, Fault, off_board, occupied, suicide, ko, after_end, FirstFault}
use Rattle.referee.proofs.Boards.{seen_none, seen_is, board_back, makes_stand, makes_one, same_or_not}
use Rattle.referee.proofs.Courses.{numbered, fault_numbered}

-- a move is a pass or a stone, with its equation
pub data MoveKind (m : Move) : Type 0 where
  is_pass : m ≡ Pass → MoveKind m
  is_stone : (x : ℕ) → m ≡ At x → MoveKind m

-- every move is one of the two
pub move_kind : (m : Move) → MoveKind m
move_kind Pass = is_pass refl
move_kind (At x) = is_stone x refl

-- a pass is no stone
pub pass_stone : {m : Move} {x : ℕ} → m ≡ Pass → m ≡ At x → ⊥
pass_stone p q = let z : ◌≡◌ {A = ℕ} 0 1 = cc in omega arith

-- a stone is on one point
pub stone_one : {m : Move} {x y : ℕ} → m ≡ At x → m ≡ At y → x ≡ y
stone_one p q = cc

-- a stone of a side has a board or it has none
pub played_by_or_not : {n : ℕ} {near : Near} → Graph n near → (c : Colour) (b : Board) (x : ℕ) → ((d : Board) × PlayedBy near c b x d) ⊎ ((d : Board) → PlayedBy near c b x d → ⊥)
played_by_or_not {n} {near} g c b x = join (played_or_not g (seen (other c) b) x)
  where
    join : ((d : Board) × Played near (seen (other c) b) x d) ⊎ ((d : Board) → Played near (seen (other c) b) x d → ⊥) → ((d : Board) × PlayedBy near c b x d) ⊎ ((d : Board) → PlayedBy near c b x d → ⊥)
    join (inl w) = inl (seen (other c) w.0, subst (λ (d : Board). Played near (seen (other c) b) x d) (sym (board_back (other c) w.0)) w.1)
    join (inr h) = inr (λ d p. h (seen (other c) d) p)

-- the board before move k is restored or not, among boards that can stand
restores_or_not : {n : ℕ} {near : Near} (ms : List Move) (cs : ℕ → Board) (d : Board) (k : ℕ) → Stand n near d → ((j : ℕ) → j ≤ k → Stand n near (cs j)) → Restores ms cs k d ⊎ (Restores ms cs k d → ⊥)
restores_or_not ms cs d zero s t = inr (λ h. h)
restores_or_not ms cs d (suc k) s t = join (move_kind (move_at ms k)) (same_or_not s (t k (omega arith)))
  where
    join : MoveKind (move_at ms k) → Same d (cs k) ⊎ (Same d (cs k) → ⊥) → Restores ms cs (suc k) d ⊎ (Restores ms cs (suc k) d → ⊥)
    join (is_pass e) h = inr (λ w. pass_stone e w.1)
    join (is_stone x e) (inl h) = inl (x, e, h)
    join (is_stone x e) (inr h) = inr (λ w. h w.2)

-- what a fault of that number says of move k
abbrev Says : ℕ → Near → List Move → (ℕ → Board) → ℕ → Refusal → Type 0
Says n near ms cs k (OffBoard i) = (x : ℕ) × (move_at ms k ≡ At x) × (n ≤ x)
Says n near ms cs k (Occupied i) = (x : ℕ) × (move_at ms k ≡ At x) × (cs k x ≡ none → ⊥)
Says n near ms cs k (Suicide i) = (x : ℕ) × (move_at ms k ≡ At x) × ((d : Board) → PlayedBy near (mover k) (cs k) x d → ⊥)
Says n near ms cs k (Ko i) = (x : ℕ) × (d : Board) × (move_at ms k ≡ At x) × PlayedBy near (mover k) (cs k) x d × Restores ms cs k d
Says n near ms cs k (AfterEnd i) = 2 ≤ passes_before ms k
Says n near ms cs k (BadSide i) = ⊥
Says n near ms cs k (Count i) = ⊥
Says n near ms cs k (BadByte i) = ⊥
Says n near ms cs k (NoLiberty i) = ⊥
Says n near ms cs k (BadMarks i) = ⊥
Says n near ms cs k (NotShown i) = ⊥
Says n near ms cs k (TooShort i) = ⊥

-- a fault says so
fault_says : {n : ℕ} {near : Near} {ms : List Move} {cs : ℕ → Board} {k : ℕ} {r : Refusal} → Fault n near ms cs k r → Says n near ms cs k r
fault_says (off_board x e h) = (x, e, h)
fault_says (occupied x e h) = (x, e, h)
fault_says (suicide x e h) = (x, e, h)
fault_says (ko x d e p h) = (x, d, e, p, h)
fault_says (after_end h) = h

-- a stone on the board is not off it
not_off_board : {n : ℕ} {near : Near} {ms : List Move} {cs : ℕ → Board} {k x : ℕ} → move_at ms k ≡ At x → x < n → Fault n near ms cs k (OffBoard k) → ⊥
not_off_board e h f = let w = fault_says f in omega (arith, w.2, stone_one e w.1)

-- a stone on an empty point is not on a stone
not_occupied : {n : ℕ} {near : Near} {ms : List Move} {cs : ℕ → Board} {k x : ℕ} → move_at ms k ≡ At x → cs k x ≡ none → Fault n near ms cs k (Occupied k) → ⊥
not_occupied {cs = cs} {k = k} e z f = let w = fault_says f in w.2 (subst (λ (i : ℕ). cs k i ≡ none) (stone_one e w.1) z)

-- a stone of which a board comes is no suicide
not_suicide : {n : ℕ} {near : Near} {ms : List Move} {cs : ℕ → Board} {k x : ℕ} (d : Board) → move_at ms k ≡ At x → PlayedBy near (mover k) (cs k) x d → Fault n near ms cs k (Suicide k) → ⊥
not_suicide {near = near} {cs = cs} {k = k} d e p f = let w = fault_says f in w.2 d (subst (λ (i : ℕ). PlayedBy near (mover k) (cs k) i d) (stone_one e w.1) p)

-- the board of a stone that is a ko
ko_board : {n : ℕ} {near : Near} {ms : List Move} {cs : ℕ → Board} {k x : ℕ} → move_at ms k ≡ At x → Fault n near ms cs k (Ko k) → (d : Board) × PlayedBy near (mover k) (cs k) x d × Restores ms cs k d
ko_board {near = near} {cs = cs} {k = k} e f = let w = fault_says f in (w.1, subst (λ (i : ℕ). PlayedBy near (mover k) (cs k) i w.1) (stone_one w.2 e) w.3, w.4)

-- a stone whose board is not the board before the stone just played is no ko
not_ko : {n : ℕ} {near : Near} {ms : List Move} {cs : ℕ → Board} {k x : ℕ} (d : Board) → move_at ms k ≡ At x → PlayedBy near (mover k) (cs k) x d → (Restores ms cs k d → ⊥) → Fault n near ms cs k (Ko k) → ⊥
not_ko {near = near} {ms = ms} {cs = cs} {k = k} {x = x} d e p h f = let w = ko_board e f in h (subst (λ (b : Board). Restores ms cs k b) (makes_one near (cs k) (mover k) (At x) w.1 p) w.2)

-- every fault of move k has a number from m
abbrev pub From : ℕ → Near → List Move → (ℕ → Board) → ℕ → ℕ → Type 0
From n near ms cs k m = (r : Refusal) → Fault n near ms cs k r → m ≤ number_of r

-- the numbers of faults are 5 to 9
fault_range : {n : ℕ} {near : Near} {ms : List Move} {cs : ℕ → Board} {k : ℕ} {r : Refusal} → Fault n near ms cs k r → (5 ≤ number_of r) × (number_of r ≤ 9)
fault_range (off_board x e h) = (omega arith, omega arith)
fault_range (occupied x e h) = (omega arith, omega arith)
fault_range (suicide x e h) = (omega arith, omega arith)
fault_range (ko x d e p h) = (omega arith, omega arith)
fault_range (after_end h) = (omega arith, omega arith)

-- without the fault of number m the numbers are from m + 1
from_more : {n : ℕ} {near : Near} {ms : List Move} {cs : ℕ → Board} {k : ℕ} (m : ℕ) (r : Refusal) → numbered m k ≡ r → (Fault n near ms cs k r → ⊥) → From n near ms cs k m → From n near ms cs k (suc m)
from_more {n} {near} {ms} {cs} {k} m r i h c s f = elim (cases_eq (number_of s) m) [
  | inl same ↦ absurd (h (subst (λ (t : Refusal). Fault n near ms cs k t) (fault_numbered f ∙ ap (λ (j : ℕ). numbered j k) same ∙ i) f))
  | inr apart ↦ omega (arith, c s f, apart)
]

-- no fault has a number below 5
pub from_five : (n : ℕ) (near : Near) (ms : List Move) (cs : ℕ → Board) (k : ℕ) → From n near ms cs k 5
from_five n near ms cs k r f = (fault_range f).0

-- what is left to look for on a stone that is on the board
pub from_six : (n : ℕ) (near : Near) (ms : List Move) (cs : ℕ → Board) (k x : ℕ) → move_at ms k ≡ At x → x < n → From n near ms cs k 6
from_six n near ms cs k x e h = from_more 5 (OffBoard k) refl (not_off_board e h) (from_five n near ms cs k)

-- and on an empty point
pub from_seven : (n : ℕ) (near : Near) (ms : List Move) (cs : ℕ → Board) (k x : ℕ) → move_at ms k ≡ At x → x < n → cs k x ≡ none → From n near ms cs k 7
from_seven n near ms cs k x e h z = from_more 6 (Occupied k) refl (not_occupied e z) (from_six n near ms cs k x e h)

-- and of which a board comes
pub from_eight : (n : ℕ) (near : Near) (ms : List Move) (cs : ℕ → Board) (k x : ℕ) (d : Board) → move_at ms k ≡ At x → x < n → PlayedBy near (mover k) (cs k) x d → From n near ms cs k 8
from_eight n near ms cs k x d e h p = from_more 7 (Suicide k) refl (not_suicide d e p) (from_seven n near ms cs k x e h (seen_is (other (mover k)) p.was ∙ seen_none (other (mover k))))

-- and that is no ko
pub from_nine : (n : ℕ) (near : Near) (ms : List Move) (cs : ℕ → Board) (k x : ℕ) (d : Board) → move_at ms k ≡ At x → x < n → PlayedBy near (mover k) (cs k) x d → (Restores ms cs k d → ⊥) → From n near ms cs k 9
from_nine n near ms cs k x d e h p o = from_more 8 (Ko k) refl (not_ko d e p o) (from_eight n near ms cs k x d e h p)

-- a pass has no fault but to come after the end
pass_fault : {n : ℕ} {near : Near} {ms : List Move} {cs : ℕ → Board} {k : ℕ} {r : Refusal} → move_at ms k ≡ Pass → Fault n near ms cs k r → 9 ≤ number_of r
pass_fault e (off_board x i h) = absurd (pass_stone e i)
pass_fault e (occupied x i h) = absurd (pass_stone e i)
pass_fault e (suicide x i h) = absurd (pass_stone e i)
pass_fault e (ko x d i p h) = absurd (pass_stone e i)
pass_fault e (after_end h) = omega arith

-- what is left to look for on a pass
pub from_pass : (n : ℕ) (near : Near) (ms : List Move) (cs : ℕ → Board) (k : ℕ) → move_at ms k ≡ Pass → From n near ms cs k 9
from_pass n near ms cs k e r f = pass_fault e f

-- a move that passes 5 to 8 has no fault where fewer than two passes stand before it
pub from_end : {n : ℕ} {near : Near} {ms : List Move} {cs : ℕ → Board} {k : ℕ} → From n near ms cs k 9 → passes_before ms k < 2 → (r : Refusal) → Fault n near ms cs k r → ⊥
from_end {k = k} c h r f = omega (arith, from_more 9 (AfterEnd k) refl (λ a. omega (arith, fault_says a)) c r f, fault_range f)

-- a fault is the first if the numbers are from its own
pub first_from : {n : ℕ} {near : Near} {ms : List Move} {cs : ℕ → Board} {k : ℕ} {r : Refusal} → Fault n near ms cs k r → From n near ms cs k (number_of r) → FirstFault n near ms cs k r
first_from f c = record { found = f; first = c }

-- a move has a first fault or none
abbrev pub Ruled : ℕ → Near → List Move → (ℕ → Board) → ℕ → Type 0
Ruled n near ms cs k = ((r : Refusal) × FirstFault n near ms cs k r) ⊎ ((r : Refusal) → Fault n near ms cs k r → ⊥)

-- a move that passes 5 to 8 comes after the end or has no fault
ruled_end : {n : ℕ} {near : Near} {ms : List Move} {cs : ℕ → Board} {k : ℕ} → From n near ms cs k 9 → Ruled n near ms cs k
ruled_end {ms = ms} {k = k} c = elim (cases_lt (passes_before ms k) 2) [ inl h ↦ inr (from_end c h) | inr h ↦ inl (AfterEnd k, first_from (after_end h) c) ]

-- a move has a first fault or none, where the boards before it can stand
pub fault_or_not : {n : ℕ} {near : Near} → Graph n near → (ms : List Move) (cs : ℕ → Board) (k : ℕ) → ((j : ℕ) → j ≤ k → Stand n near (cs j)) → Ruled n near ms cs k
fault_or_not {n} {near} g ms cs k s = move (move_kind (move_at ms k))
  where
    board : (x : ℕ) (d : Board) → move_at ms k ≡ At x → x < n → PlayedBy near (mover k) (cs k) x d → Restores ms cs k d ⊎ (Restores ms cs k d → ⊥) → Ruled n near ms cs k
    board x d e h p (inl o) = inl (Ko k, first_from (ko x d e p o) (from_eight n near ms cs k x d e h p))
    board x d e h p (inr o) = ruled_end (from_nine n near ms cs k x d e h p o)

    empty : (x : ℕ) → move_at ms k ≡ At x → x < n → cs k x ≡ none → ((d : Board) × PlayedBy near (mover k) (cs k) x d) ⊎ ((d : Board) → PlayedBy near (mover k) (cs k) x d → ⊥) → Ruled n near ms cs k
    empty x e h z (inr o) = inl (Suicide k, first_from (suicide x e o) (from_seven n near ms cs k x e h z))
    empty x e h z (inl w) = board x w.0 e h w.1 (restores_or_not ms cs w.0 k (makes_stand g (mover k) (At x) (s k (omega arith)) w.1) s)

    inside : (x : ℕ) → move_at ms k ≡ At x → x < n → Kind (cs k x) → Ruled n near ms cs k
    inside x e h (is_mine z) = inl (Occupied k, first_from (occupied x e (λ i. none_mine i z)) (from_six n near ms cs k x e h))
    inside x e h (is_yours z) = inl (Occupied k, first_from (occupied x e (λ i. none_yours i z)) (from_six n near ms cs k x e h))
    inside x e h (is_none z) = empty x e h z (played_by_or_not g (mover k) (cs k) x)

    stone : (x : ℕ) → move_at ms k ≡ At x → (x < n) ⊎ (n ≤ x) → Ruled n near ms cs k
    stone x e (inr h) = inl (OffBoard k, first_from (off_board x e h) (from_five n near ms cs k))
    stone x e (inl h) = inside x e h (kind (cs k x))

    move : MoveKind (move_at ms k) → Ruled n near ms cs k
    move (is_pass e) = ruled_end (from_pass n near ms cs k e)
    move (is_stone x e) = stone x e (cases_lt x n)

-- a move without fault makes a board
pub faultless_makes : {n : ℕ} {near : Near} → Graph n near → (ms : List Move) (cs : ℕ → Board) (k : ℕ) → ((r : Refusal) → Fault n near ms cs k r → ⊥) → (d : Board) × Makes near (mover k) (cs k) (move_at ms k) d
faultless_makes {n} {near} g ms cs k h = join (move_kind (move_at ms k))
  where
    stone : (x : ℕ) → move_at ms k ≡ At x → ((d : Board) × PlayedBy near (mover k) (cs k) x d) ⊎ ((d : Board) → PlayedBy near (mover k) (cs k) x d → ⊥) → (d : Board) × Makes near (mover k) (cs k) (move_at ms k) d
    stone x e (inl w) = (w.0, subst (λ (m : Move). Makes near (mover k) (cs k) m w.0) (sym e) w.1)
    stone x e (inr z) = absurd (h (Suicide k) (suicide x e z))

    join : MoveKind (move_at ms k) → (d : Board) × Makes near (mover k) (cs k) (move_at ms k) d
    join (is_pass e) = (cs k, subst (λ (m : Move). Makes near (mover k) (cs k) m (cs k)) (sym e) (λ q. refl))
    join (is_stone x e) = stone x e (played_by_or_not g (mover k) (cs k) x)
