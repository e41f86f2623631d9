-- How many stones leave the board.
use Rattle.std.proofs.Common.{◌≡◌, ℕ, zero, suc, ◌+◌, ◌<◌, ◌≤◌, Bool, true, false, ◌&&◌, eqb, ◌⊎◌, List, sym, refl, ap, ◌∙◌, subst, inl, inr, arith}
use mathlib.Core.Path.{fun_ext}
use Rattle.std.proofs.lemmas.Bool.{false≢true, and_parts, cases_Bool, eqb-true, eq-eqb}
use Rattle.grid.specs.Graph.{Near}
use Rattle.chains.specs.Board.{State, none, mine, yours, Board}
use Rattle.chains.specs.Computed.{is_state, one_if, count}
use Rattle.chains.specs.Views.{other}
use Rattle.chains.specs.declared.colour.Colour.{Colour}
use Rattle.chains.specs.declared.colour.Colour.TheVariants.{Black, White}
use Rattle.chains.proofs.States.{is_state_true, state_is, none_mine}
use Rattle.chains.proofs.Below.{count_bound}
use Rattle.play.proofs.Moves.{played_made, made_mine, made_yours}
use Rattle.referee.specs.declared.moves.Move.{Move}
use Rattle.referee.specs.declared.moves.Move.TheVariants.{Pass, At}
use Rattle.referee.specs.Rules.{as_seen, seen, mover, move_at, PlayedBy, Makes, Course, leaves, taken_before}
use Rattle.referee.proofs.Boards.{seen_none, seen_is}
use Rattle.referee.proofs.Courses.{course_shorter}

-- no point below n passes
count_none : (t : ℕ → Bool) (n : ℕ) → ((p : ℕ) → p < n → t p ≡ true → ⊥) → count t n ≡ 0
unfolding count
count_none t zero h = refl
count_none t (suc n) h = elim (cases_Bool (t n)) [ inl e ↦ absurd (h n (omega arith) e) | inr e ↦ rw (e, count_none t n (λ p l. h p (omega arith))) refl ]

-- one point is counted at most once
count_point : (x n : ℕ) → count (λ q. eqb q x) n ≤ 1
unfolding count
count_point x zero = omega arith
count_point x (suc n) = join (count_point x n) (cases_Bool (eqb n x))
  where
    join : count (λ q. eqb q x) n ≤ 1 → (eqb n x ≡ true) ⊎ (eqb n x ≡ false) → one_if (eqb n x) + count (λ q. eqb q x) n ≤ 1
    join h (inl e) = rw e (omega (arith, count_none (λ q. eqb q x) n (λ p l i. omega (arith, eqb-true p x i, eqb-true n x e))))
    join h (inr e) = rw e (omega arith)

-- two counts are at most two others if they are so at each point
count_sums : (t u v w : ℕ → Bool) (n : ℕ) → ((p : ℕ) → one_if (t p) + one_if (u p) ≤ one_if (v p) + one_if (w p)) → count t n + count u n ≤ count v n + count w n
unfolding count
count_sums t u v w zero h = omega arith
count_sums t u v w (suc n) h = omega (arith, h n, count_sums t u v w n h)

-- no stone leaves where each stone of the colour is still there
pub leaves_none : (n : ℕ) (c : Colour) (b d : Board) → ((q : ℕ) → seen c b q ≡ mine → seen c d q ≡ mine) → leaves n c b d ≡ 0
unfolding leaves
leaves_none n c b d h = count_none (λ q. is_state mine (seen c b q) && is_state none (d q)) n (λ q l e.
    let w = and_parts (is_state mine (seen c b q)) (is_state none (d q)) e in
    none_mine (ap (as_seen c) (is_state_true none (d q) w.1) ∙ seen_none c) (h q (is_state_true mine (seen c b q) w.0)))

-- none leaves if the board stays
pub leaves_same : (n : ℕ) (c : Colour) (b : Board) → leaves n c b b ≡ 0
leaves_same n c b = leaves_none n c b b (λ q e. e)

-- what one side sees as its own, the other sees as the other's
pub seen_other : (c : Colour) (s : State) → as_seen c s ≡ mine → as_seen (other c) s ≡ yours
seen_other Black s e = ap (as_seen White) e
seen_other White s e = seen_is White e

-- and the other way round
pub seen_own : (c : Colour) (s : State) → as_seen (other c) s ≡ yours → as_seen c s ≡ mine
seen_own Black s e = seen_is White e
seen_own White s e = ap (as_seen White) e

-- a side takes no stone of its own
pub leaves_own : (n : ℕ) (near : Near) (c : Colour) (b d : Board) (x : ℕ) → PlayedBy near c b x d → leaves n c b d ≡ 0
leaves_own n near c b d x p = leaves_none n c b d (λ q e. seen_own c (d q) (p.stands q (seen_other c (b q) e)))

-- how many stones of that colour stand on the board
abbrev pub stones : ℕ → Colour → Board → ℕ
stones n c b = count (λ q. is_state mine (seen c b q)) n

-- a colour is that of the side or of the other side
data Whose (c : Colour) : Colour → Type 0 where
  own : Whose c c
  others : Whose c (other c)

whose : (c o : Colour) → Whose c o
whose Black Black = own
whose Black White = others
whose White Black = others
whose White White = own

-- a stone that stands after a move stood before it or is the stone played
played_was : (near : Near) (c : Colour) (b d : Board) (x : ℕ) → PlayedBy near c b x d → (o : Colour) → Whose c o → (q : ℕ) → seen o d q ≡ mine → (seen o b q ≡ mine) ⊎ (q ≡ x)
played_was near c b d x p o own q e = elim (made_yours (played_made p) (seen_other c (d q) e)) [ inl y ↦ inl (seen_own c (b q) y) | inr i ↦ inr i ]
played_was near c b d x p o others q e = inl (made_mine (played_made p) e)

-- a point counts for a stone that left or one that stands only if it had one or gets one
point_bound : (was gone is new : Bool) → (is ≡ true → (was ≡ true) ⊎ (new ≡ true)) → (is ≡ true → gone ≡ true → ⊥) → one_if (was && gone) + one_if is ≤ one_if was + one_if new
point_bound true true true new f h = absurd (h refl refl)
point_bound true true false new f h = omega arith
point_bound true false true new f h = omega arith
point_bound true false false new f h = omega arith
point_bound false gone true true f h = omega arith
point_bound false gone true false f h = elim (f refl) [ inl e ↦ absurd (false≢true e) | inr e ↦ absurd (false≢true e) ]
point_bound false gone false new f h = omega arith

-- the stones of a colour that leave and those that stand then are at most those that stood and one more
pub leaves_bound : (n : ℕ) (near : Near) (c : Colour) (b d : Board) (m : Move) (o : Colour) → Makes near c b m d → leaves n o b d + stones n o d ≤ stones n o b + 1
unfolding leaves
leaves_bound n near c b d Pass o h = subst (λ (e : Board). leaves n o b e + stones n o e ≤ stones n o b + 1) (sym (fun_ext h)) (omega (arith, leaves_same n o b))
leaves_bound n near c b d (At x) o p = omega (arith, count_point x n, count_sums (λ q. is_state mine (seen o b q) && is_state none (d q)) (λ q. is_state mine (seen o d q)) (λ q. is_state mine (seen o b q)) (λ q. eqb q x) n at_point)
  where
    was : (q : ℕ) → (seen o b q ≡ mine) ⊎ (q ≡ x) → (is_state mine (seen o b q) ≡ true) ⊎ (eqb q x ≡ true)
    was q (inl e) = inl (state_is mine (seen o b q) e)
    was q (inr e) = inr (eq-eqb q x e)

    at_point : (q : ℕ) → one_if (is_state mine (seen o b q) && is_state none (d q)) + one_if (is_state mine (seen o d q)) ≤ one_if (is_state mine (seen o b q)) + one_if (eqb q x)
    at_point q = point_bound (is_state mine (seen o b q)) (is_state none (d q)) (is_state mine (seen o d q)) (eqb q x)
        (λ e. was q (played_was near c b d x p o (whose c o) q (is_state_true mine (seen o d q) e)))
        (λ e g. none_mine (ap (as_seen o) (is_state_true none (d q) g) ∙ seen_none o) (is_state_true mine (seen o d q) e))

-- over a course, the stones of a colour that were taken and those that stand are at most those that stood at first and one more for each move
pub taken_bound : {n : ℕ} {near : Near} {start : Board} {ms : List Move} {cs : ℕ → Board} (o : Colour) (k : ℕ) → Course n near start ms cs k → taken_before n o cs k + stones n o (cs k) ≤ stones n o (cs 0) + k
unfolding taken_before
taken_bound o zero c = omega arith
taken_bound {n} {near} {start} {ms} {cs} o (suc k) c =
    omega (arith, taken_bound {n = n} {near = near} {start = start} {ms = ms} {cs = cs} o k (course_shorter (suc k) k (omega arith) c), leaves_bound n near (mover k) (cs k) (cs (suc k)) (move_at ms k) o (c.goes k (omega arith)).makes)

-- so no more stones of a colour are taken than there are points and moves
pub taken_most : {n : ℕ} {near : Near} {start : Board} {ms : List Move} {cs : ℕ → Board} (o : Colour) (k : ℕ) → Course n near start ms cs k → taken_before n o cs k ≤ n + k
taken_most {n} {cs = cs} o k c = omega (arith, taken_bound o k c, count_bound (λ q. is_state mine (seen o (cs 0) q)) n)
